-- What holds past refusal 8: the sheet is checked, L is its length, and the lent places have room.
use Prim.Native.Nat.{ℕ, zero, suc, ◌+◌, ◌-◌, ◌*◌, ◌^◌, ◌<◌, ◌≤◌}
use mathlib.Core.Path.{◌≡◌, refl, sym, ap, ◌∙◌}
use mathlib.Core.Bool.{Bool, true, false, cond}
use mathlib.Core.List.{List}
use native.Mathlib.Omega.{arith}
use borrow.Author.Tests.{ltb-false, eqb-true}
use lib.Dec.{eqb, ltb}
use lib.ListN.{length, drop, length-drop}
use lib.Seq.{length-take-le, take_all}
use Rattle.filter.specs.Ast.{link_of}
use Rattle.filter.specs.Record.{decode_at}
use Rattle.filter.specs.Sheet.{counts, steps_part, prims_part, tokens_part}
use Rattle.filter.specs.declared.ast.LinkType.{LinkType}
use Rattle.filter.specs.declared.ast.Primitive.{Primitive}
use Rattle.filter.proofs.Sheets.{sized}
use Rattle.tree.specs.Shape.{shape_of}
use Rattle.checks.specs.Check.{steps_before, check_of}
use Rattle.checks.specs.Length as count
use Rattle.checks.specs.Measure.{asks, measured, measure_of, roomed, admit_of}
use Rattle.checks.specs.Refusal.{refusal}
use Rattle.refusals.specs.Refusal.{Answer}
use Rattle.refusals.specs.Refusal.Answer.{Refused, Given}
use Rattle.filter.specs.declared.sheet.Counts.{Counts}
use Rattle.checks.specs.declared.measure.Measured.{Measured}
use Rattle.checks.proofs.Bounds.{good, good_length, whole_shape}
use Rattle.codegen.specs.Primitives.{emit_primitive}
use Rattle.codegen.proofs.Sizes.{primitive_length}
use Rattle.patches.specs.Machine.{size_of, sizes}
use Rattle.patches.specs.Machine.Tpl.{code, refused}
use Rattle.generator.specs.Template.{template_of, template}
use Rattle.patches.specs.Listing.{compile_l}
use Rattle.tree.specs.Tree.{tree_of}
use Rattle.generator.specs.Compile.{Sized, outcome, outcome_of}
use Rattle.generator.specs.Compile.Outcome.{late}

-- "the Rust's count for each primitive, 0 for one that earns 11 to 19."
size_of_lem : (mode : ℕ) (link : LinkType) (steps : List ℕ) (from : ℕ) (prim : Primitive) → size_of (template_of mode link steps from prim) ≡ count.size_of link steps from prim
unfolding template_of count.size_of
size_of_lem mode link steps from prim = go (eqb (refusal link steps from prim) 0) refl
  where
    go : (t : Bool) → eqb (refusal link steps from prim) 0 ≡ t
        → size_of (cond t (code (emit_primitive mode link steps from prim)) (refused (refusal link steps from prim))) ≡ cond t (count.count_of link prim) 0
    go true e = primitive_length mode link steps from prim (eqb-true _ _ e)
    go false e = refl

-- The count of n primitives from primitive k on, after that of the first k.
sizes_sum : (mode : ℕ) (link : LinkType) (steps prims : List ℕ) (n k : ℕ) → count.sizes_of link steps prims (k + n) ≡ count.sizes_of link steps prims k + sizes (template mode link steps prims) k n
unfolding count.sizes_of count.size_at sizes template
sizes_sum mode link steps prims zero k =
    let e : k + 0 ≡ k = omega arith in
    rw e (omega arith)
sizes_sum mode link steps prims (suc n) k =
    let e : k + suc n ≡ suc k + n = omega arith in
    rw e (omega (arith, sizes_sum mode link steps prims n (suc k), size_of_lem mode link steps (steps_before prims k) (decode_at prims (24 * k))))

pub record Admitted (s : List ℕ) (link output work a b c l : ℕ) : Type 0 where
  pub checked : check_of s link ≡ Given (counts a b c)
  pub is : l ≡ count.program_length (link_of link) (steps_part s a) (prims_part s a b) (tokens_part s a b c) b c
  pub bytes : 8 * l ≤ output
  pub numbers : l + 8 * c ≤ work

pub admitted : (s : List ℕ) (link mode output work a b c l : ℕ) → admit_of s link mode output work ≡ Given (asks (counts a b c) l) → Admitted s link output work a b c l
unfolding admit_of roomed measure_of measured
admitted s link mode output work a b c l = on_mode (ltb 1 mode)
  where
    on_check : (x : Answer Counts) → check_of s link ≡ x → roomed (measured x s link) output work ≡ Given (asks (counts a b c) l) → Admitted s link output work a b c l
    on_check (Refused n p) e m = let never : ◌≡◌ {A = ℕ} 0 1 = cc in absurd (omega arith)
    on_check (Given n) e m = on_room (ltb output (8 * k)) refl (ltb work (k + 8 * n.tokens)) refl m
      where
        k : ℕ
        k = count.program_length (link_of link) (steps_part s n.steps) (prims_part s n.steps n.prims) (tokens_part s n.steps n.prims n.tokens) n.prims n.tokens

        on_room : (t : Bool) → ltb output (8 * k) ≡ t → (u : Bool) → ltb work (k + 8 * n.tokens) ≡ u → cond t (Refused 7 0) (cond u (Refused 8 0) (Given (asks n k))) ≡ Given (asks (counts a b c) l)
            → Admitted s link output work a b c l
        on_room true te u ue m = let never : ◌≡◌ {A = ℕ} 0 1 = cc in absurd (omega arith)
        on_room false te true ue m = let never : ◌≡◌ {A = ℕ} 0 1 = cc in absurd (omega arith)
        on_room false te false ue m =
            let same : asks n k ≡ asks (counts a b c) l = cc in
            let en : n ≡ counts a b c = ap (λ (x : Measured). x.counts) same in
            let el : k ≡ l = ap (λ (x : Measured). x.length) same in
            let ec : n.tokens ≡ c = ap (λ (x : Counts). x.tokens) en in
            let whole : k ≡ count.program_length (link_of link) (steps_part s a) (prims_part s a b) (tokens_part s a b c) b c =
            ap (λ (x : Counts). count.program_length (link_of link) (steps_part s x.steps) (prims_part s x.steps x.prims) (tokens_part s x.steps x.prims x.tokens) x.prims x.tokens) en in
            record {
              checked = e ∙ ap (λ (x : Counts). Given x) en;
              is = sym el ∙ whole;
              bytes = omega (arith, ltb-false output (8 * k) te, el);
              numbers = omega (arith, ltb-false work (k + 8 * n.tokens) ue, el, ec);
            }

    on_mode : (t : Bool) → cond t (Refused 1 0) (roomed (measured (check_of s link) s link) output work) ≡ Given (asks (counts a b c) l) → Admitted s link output work a b c l
    on_mode true m = let never : ◌≡◌ {A = ℕ} 0 1 = cc in absurd (omega arith)
    on_mode false m = on_check (check_of s link) refl m

module _ {s : List ℕ} {link output work a b c l : ℕ} (v : Admitted s link output work a b c l) where
  pub whole_sheet : length s ≡ 5 * a + 24 * b + c + 6
  whole_sheet = sized s (good s link v.checked).found

  pub tokens_length : length (tokens_part s a b c) ≡ c
  unfolding tokens_part
  tokens_length =
      let e : 5 * a + 24 * b + c + 6 - (5 * a + 24 * b + 6) ≡ c = omega arith in
      rw e (length-take-le c (drop (5 * a + 24 * b + 6) s) (omega (arith, length-drop (5 * a + 24 * b + 6) s, whole_sheet)))

  pub sheet_sized : (mode : ℕ) → a < 2 ^ 16 → b < 2 ^ 16 → c < 2 ^ 16 → Sized mode (link_of link) (steps_part s a) (prims_part s a b) (tokens_part s a b c) l
  unfolding count.program_length count.sizes_of
  sheet_sized mode ha hb hc = record {
    leaves = b;
    one_tree = whole_shape (shape_of (tokens_part s a b c)) b (good s link v.checked).parts.whole;
    exact =
        let t = take_all c (tokens_part s a b c) (omega (arith, tokens_length)) in
        let none : count.sizes_of (link_of link) (steps_part s a) (prims_part s a b) 0 ≡ 0 = refl in
        let all : 0 + b ≡ b = omega arith in
        let sum = rw all at (sizes_sum mode (link_of link) (steps_part s a) (prims_part s a b) b 0) in
        v.is ∙ rw t (omega (arith, sum, none));
    short = omega (arith, v.is, good_length s link v.checked);
    few = omega (arith, tokens_length);
  }

  -- What `compile` comes to, over the sections.
  pub late_outcome : (mode : ℕ) (x : LinkType) → x ≡ link_of link → admit_of s link mode output work ≡ Given (asks (counts a b c) l)
      → outcome_of s link mode output work
      ≡ late l (length (tokens_part s a b c)) (compile_l (template mode x (steps_part s a) (prims_part s a b)) (tree_of (tokens_part s a b c)))
  unfolding outcome_of outcome
  late_outcome mode x e m = let t = ap (λ (n : ℕ). late l n (compile_l (template mode (link_of link) (steps_part s a) (prims_part s a b)) (tree_of (tokens_part s a b c)))) (sym tokens_length) in
      rw (e, m) t
