-- The walk over the tokens: what holds before each of them, and how one brings it to the next.
use Prim.Native.Nat.{ℕ, ◌+◌, ◌*◌, ◌^◌, ◌<◌, ◌≤◌}
use mathlib.Core.Path.{◌≡◌, refl, sym, ap, ◌∙◌, subst}
use mathlib.Core.List.{List, [], ◌∷◌}
use native.Mathlib.Omega.{arith}
use native.Mathlib.Numerals.{add-one}
use lib.ListN.{length, get_or, drop}
use Rattle.filter.specs.Record.{decode_at}
use Rattle.filter.specs.declared.ast.LinkType.{LinkType}
use Rattle.filter.specs.declared.ast.Primitive.{Primitive}
use Rattle.checks.specs.Check.{takes, steps_before}
use Rattle.std.specs.Prelude.{Result, Ok, Err}
use Rattle.patches.specs.declared.Patches.{Patches}
use Rattle.refusals.specs.declared.Refusal.{Refusal}
use Rattle.refusals.specs.declared.Reason.TheVariants.{NotOneTree}
use Rattle.patches.specs.Code.{Emission, with_work}
use Rattle.patches.specs.Chain.{Descends}
use Rattle.patches.specs.Lists.{empty, save_at}
use Rattle.patches.specs.Rel.{Frame, Rel, SomeLeaf, owed, due}
use Rattle.patches.specs.Rel.Frame.{frame}
use Rattle.patches.specs.Same.{SameFrom, Kept}
use Rattle.patches.specs.Finish.{Ending, EndingOk}
use Rattle.patches.specs.Finish.Ending.{whole}
use Rattle.patches.specs.Machine.{Tpl, size_of, emit_leaf, LeafOk, go_on, run, cost}
use Rattle.patches.proofs.Reading.{rel_start, rel_push, stack_len}
use Rattle.patches.proofs.Finishes.{spends_end, waits_end}
use Rattle.patches.proofs.Tokens.{ending_waits, ending_whole, ending_refused, leaf_spends, leaf_fewer, run_op, run_leaf, run_end, cost_op, cost_leaf}
use Rattle.patches.proofs.Unchanged.{from_trans, from_more, from_save, kept_trans, length_save}
use Rattle.generator.specs.Template.{template_of, template}
use Rattle.generator.specs.Compile.{written_to, WalkOk}

module _ (mode : ℕ) (link : LinkType) (steps prims tokens : List ℕ) (l : ℕ) (y₀ : Emission) where
  abbrev tpl : ℕ → Tpl
  tpl = template mode link steps prims

  -- The clauses of `emit_expr`.
  abbrev pub Walked : Result (Unit {0}) Refusal → Emission → Type 0
  Walked r y =
      record {
        walk_ok : WalkOk l (run tpl tokens 0 2 y₀.out []) r y;
        kept : Kept y₀ y;
        same_from : SameFrom (8 * l) y₀.out y.out;
        same_from_2 : SameFrom (l + 3 * length tokens) y₀.work y.work;
      }

  -- Before token i: n operators wait, primitive k comes next, its steps start at `from`, and what is left leads to the same end.
  pub record Walking (y : Emission) (n i k from : ℕ) : Type 0 where
    pub fs : List Frame
    pub rel : Rel l y.work n y.patches fs [] [] y.patches.pos
    pub i_in : i ≤ length tokens
    pub n_in : n ≤ i
    pub k_in : k ≤ i
    pub from_is : from ≡ steps_before prims k
    pub from_in : from ≤ 65535 * k
    pub short : l < 2 ^ 32
    pub few : length tokens < 2 ^ 16
    pub room : l + 3 * length tokens ≤ length y.work
    pub bytes : 8 * l ≤ length y.out
    pub left : y.patches.pos + owed fs + cost tpl (drop i tokens) k + 4 ≤ l
    pub says : run tpl tokens 0 2 y₀.out [] ≡ run tpl (drop i tokens) k y.patches.pos y.out fs
    pub kept : Kept y₀ y
    pub from_out : SameFrom (8 * l) y₀.out y.out
    pub from_work : SameFrom (l + 3 * length tokens) y₀.work y.work

  none_owed : owed [] ≡ 0
  unfolding owed
  none_owed = refl

  owed_more : (op lo : ℕ) (ps : List ℕ) (fs : List Frame) → owed (frame op lo ps ∷ fs) ≡ due op + owed fs
  unfolding owed
  owed_more op lo ps fs = refl

  no_steps : steps_before prims 0 ≡ 0
  unfolding steps_before
  no_steps = refl

  steps_more : (k : ℕ) → steps_before prims (k + 1) ≡ steps_before prims k + takes prims k
  unfolding steps_before
  steps_more k = rw (add-one k) refl

  pub walk_begins : y₀.patches ≡ written_to 2 → Descends l y₀.work → 2 + cost tpl tokens 0 + 4 ≤ l → l < 2 ^ 32 → l + 3 * length tokens ≤ length y₀.work → 8 * l ≤ length y₀.out
      → length tokens < 2 ^ 16 → Walking y₀ 0 0 0 0
  walk_begins begun d b short room bytes few =
      let at : y₀.patches.pos ≡ 2 = ap (λ (p : Patches). p.pos) begun in
      record {
        fs = [];
        rel = subst (λ (p : Patches). Rel l y₀.work 0 p [] [] [] p.pos) (sym begun) (rel_start l y₀.work 2 d (omega arith) (omega arith));
        i_in = omega arith;
        n_in = omega arith;
        k_in = omega arith;
        from_is = sym no_steps;
        from_in = omega arith;
        short = short;
        few = few;
        room = room;
        bytes = bytes;
        left = omega (arith, none_owed, at);
        says = ap (λ (p : ℕ). run tpl tokens 0 p y₀.out []) (sym at);
        kept = record { setting = refl; out_len = refl; work_len = refl };
        from_out = λ p h. refl;
        from_work = λ p h. refl;
      }

  module _ {y : Emission} {n i k from : ℕ} (v : Walking y n i k from) where
    -- An operator begins to wait.
    pub walk_operator : i < length tokens → (get_or tokens i 0 ≡ 0 → ⊥) → (y1 : Emission) → y1 ≡ with_work (save_at y.work (l + 3 * n) (get_or tokens i 0) empty) y
        → Walking y1 (n + 1) (i + 1) k from
    walk_operator h z y1 e =
        let t = get_or tokens i 0 in
        let len = length_save y.work (l + 3 * n) t empty in
        subst (λ (u : Emission). Walking u (n + 1) (i + 1) k from) (sym e) (record {
          fs = frame t y.patches.pos [] ∷ v.fs;
          rel = rw (add-one n) (rel_push t v.rel (omega (arith, v.room, v.n_in)));
          i_in = omega arith;
          n_in = omega (arith, v.n_in);
          k_in = omega (arith, v.k_in);
          from_is = v.from_is;
          from_in = v.from_in;
          short = v.short;
          few = v.few;
          room = omega (arith, len, v.room);
          bytes = v.bytes;
          left = omega (arith, v.left, cost_op tpl tokens i k h z, owed_more t y.patches.pos [] v.fs);
          says = v.says ∙ run_op tpl tokens i k h y.patches.pos y.out v.fs z;
          kept = record { setting = v.kept.setting; out_len = v.kept.out_len; work_len = len ∙ v.kept.work_len };
          from_out = v.from_out;
          from_work = from_trans (l + 3 * length tokens) y₀.work y.work _ v.from_work (from_save (l + 3 * length tokens) y.work (l + 3 * n) t empty (omega (arith, v.n_in)));
        })

    -- The primitive as it was read.
    pub read : (m : ℕ) (to : LinkType) → m ≡ mode → to ≡ link → (prim : Primitive) → prim ≡ decode_at prims (24 * k) → template_of m to steps from prim ≡ tpl k
    unfolding template
    read m to em et prim e = rw (em, et, e, v.from_is)

    -- A primitive: there is room for it, and then the answer tells what comes next.
    module _ (h : i < length tokens) (z : get_or tokens i 0 ≡ 0) where
      leaf_budget : y.patches.pos + size_of (tpl k) + owed v.fs ≤ l
      leaf_budget = omega (arith, v.left, cost_leaf tpl tokens i k h z)

      leaf_room : SomeLeaf l y.work n y.patches (size_of (tpl k))
      leaf_room = record { fs = v.fs; rel = v.rel; budget = leaf_budget }

      pub room_for : (t : Tpl) → t ≡ tpl k → SomeLeaf l y.work n y.patches (size_of t)
      room_for t e = subst (λ (u : Tpl). SomeLeaf l y.work n y.patches (size_of u)) (sym e) leaf_room

      module _ (t₀ : Tpl) (et : t₀ ≡ tpl k) (r : Result ℕ Refusal) (y1 : Emission) (ok₀ : LeafOk l n k t₀ y r y1) (kept : Kept y y1) (so : SameFrom (8 * l) y.out y1.out)
          (sw : SameFrom (l + 3 * n) y.work y1.work) where
        abbrev ending : Ending
        ending = emit_leaf (tpl k) k v.fs y.patches.pos y.out

        ends : EndingOk l ending r y1
        ends = let ok = subst (λ (u : Tpl). LeafOk l n k u y r y1) et ok₀ in ok v.fs v.rel leaf_budget

        says_next : run tpl tokens 0 2 y₀.out [] ≡ go_on ending (λ o' pos' fs'. run tpl (drop (i + 1) tokens) (k + 1) pos' o' fs')
        says_next = v.says ∙ run_leaf tpl tokens i k h y.patches.pos y.out v.fs z

        same_out : SameFrom (8 * l) y₀.out y1.out
        same_out = from_trans (8 * l) y₀.out y.out y1.out v.from_out so

        same_work : SameFrom (l + 3 * length tokens) y₀.work y1.work
        same_work =
            from_trans (l + 3 * length tokens) y₀.work y.work y1.work v.from_work
            (from_more (l + 3 * n) (l + 3 * length tokens) y.work y1.work (omega (arith, v.n_in)) sw)

        spends : spends_end ending ≤ y.patches.pos + size_of (tpl k) + owed v.fs
        spends = leaf_spends (tpl k) k v.fs y.patches.pos y.out

        -- Operators wait for another operand.
        pub walk_waits : (m : ℕ) → r ≡ Ok m → (m ≡ 0 → ⊥) → (t : ℕ) → t ≡ takes prims k → t < 65536 → Walking y1 m (i + 1) (k + 1) (from + t)
        walk_waits m e some t te low =
            let g = ending_waits l ending r y1 m ends e (omega (arith, some)) in
            let spent : y1.patches.pos + owed g.fs ≤ y.patches.pos + size_of (tpl k) + owed v.fs = subst (λ (u : Ending). spends_end u ≤ y.patches.pos + size_of (tpl k) + owed v.fs) g.is spends in
            let fewer : length g.fs ≤ length v.fs = subst (λ (u : Ending). waits_end u ≤ length v.fs) g.is (leaf_fewer (tpl k) k v.fs y.patches.pos y.out) in
            record {
              fs = g.fs;
              rel = g.rel;
              i_in = omega arith;
              n_in = omega (arith, v.n_in, stack_len l y.work v.rel.stack, stack_len l y1.work g.rel.stack, fewer);
              k_in = omega (arith, v.k_in);
              from_is = omega (arith, v.from_is, te, steps_more k);
              from_in = omega (arith, v.from_in);
              short = v.short;
              few = v.few;
              room = omega (arith, kept.work_len, v.room);
              bytes = omega (arith, kept.out_len, v.bytes);
              left = omega (arith, v.left, cost_leaf tpl tokens i k h z, spent);
              says = says_next ∙ ap (λ (u : Ending). go_on u (λ o' pos' fs'. run tpl (drop (i + 1) tokens) (k + 1) pos' o' fs')) g.is;
              kept = kept_trans v.kept kept;
              from_out = same_out;
              from_work = same_work;
            }

        -- The tree is whole.
        pub walk_ends : r ≡ Ok 0 → Walked (Ok tt) y1
        walk_ends e =
            let g = ending_whole l ending r y1 ends e in
            let spent : y1.patches.pos ≤ y.patches.pos + size_of (tpl k) + owed v.fs = subst (λ (u : Ending). spends_end u ≤ y.patches.pos + size_of (tpl k) + owed v.fs) g.is spends in
            let is : run tpl tokens 0 2 y₀.out [] ≡ whole y1.out y1.patches.pos g.sp g.fp =
            says_next ∙ ap (λ (u : Ending). go_on u (λ o' pos' fs'. run tpl (drop (i + 1) tokens) (k + 1) pos' o' fs')) g.is in
            record {
              walk_ok = rw is (refl, refl, omega (arith, v.left, cost_leaf tpl tokens i k h z), record { lo = g.lo; is = refl; at = refl; rel = g.rel });
              kept = kept_trans v.kept kept;
              same_from = same_out;
              same_from_2 = same_work;
            }

        -- A refusal.
        pub walk_stops : (x : Refusal) → r ≡ Err x → Walked (Err x) y1
        walk_stops x e =
            let g = ending_refused l ending r y1 x ends e in
            record { walk_ok = rw (says_next, g) refl; kept = kept_trans v.kept kept; same_from = same_out; same_from_2 = same_work }

    -- Tokens that end too early.
    pub walk_out : length tokens ≤ i → Walked (Err (record { reason = NotOneTree; place = 0 })) y
    walk_out h = record { walk_ok = rw (v.says, run_end tpl tokens i k y.patches.pos y.out v.fs h) refl; kept = v.kept; same_from = v.from_out; same_from_2 = v.from_work }
