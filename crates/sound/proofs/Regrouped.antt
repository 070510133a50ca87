-- THEOREM, document 02's A7, from the sheet's bytes: regrouping does not matter.
use Prim.Native.Nat.{ℕ, ◌+◌, ◌-◌, ◌*◌}
use mathlib.Core.Path.{◌≡◌, refl, sym, ap, ◌∙◌}
use mathlib.Core.Bool.{Bool, true, false, cond}
use mathlib.Core.List.{List}
use native.Mathlib.Omega.{arith}
use lib.Dec.{ltb}
use lib.ListN.{length, drop, length-drop}
use lib.Seq.{length-take-le, take_all}
use Rattle.std.specs.Prelude.{Some}
use Rattle.filter.specs.Ast.{link_of}
use Rattle.filter.specs.Sheet.{counts, step_count, prim_count, steps_part, prims_part, tokens_part}
use Rattle.filter.specs.declared.sheet.Counts.{Counts}
use Rattle.filter.specs.Written.{Front, written}
use Rattle.filter.proofs.Sheets.{sized}
use Rattle.filter.proofs.Written.{written_sections, written_steps, written_prims, written_tokens}
use Rattle.tree.specs.Tokens.{count, is_jump}
use Rattle.tree.specs.Tree.{Tree, flat, jumps, tree_of}
use Rattle.tree.specs.Regroup.{Regrouped}
use Rattle.tree.proofs.Counts.{count_jumps}
use Rattle.tree.proofs.Prefix.{tree_flat}
use Rattle.tree.proofs.Regroup.{same_jumps, same_tokens}
use Rattle.checks.specs.Check.{check_of}
use Rattle.checks.specs.Length.{sizes_of, program_length}
use Rattle.checks.specs.Measure.{measured, measure_of, roomed, admit_of}
use Rattle.refusals.specs.Refusal.{Answer}
use Rattle.refusals.specs.Refusal.Answer.{Refused, Given}
use Rattle.checks.specs.Measure.{asks}
use Rattle.checks.proofs.Bounds.{good}
use Rattle.checks.proofs.Regroup.{check_regroups}
use Rattle.patches.specs.Listing.{CompL, compile_l}
use Rattle.patches.proofs.Regroup.{compile_regroups}
use Rattle.generator.specs.Template.{template}
use Rattle.generator.specs.Compile.{Outcome, outcome, outcome_of}
use Rattle.generator.specs.Compile.Outcome.{early, late}
use Rattle.sound.proofs.Checked.{whole_tree}

-- Two sheets past refusals 1 to 6, with the same steps and the same primitives.
pub record SameButTree (s s' : List ℕ) (link a b c c' : ℕ) : Type 0 where
  pub checked : check_of s link ≡ Given (counts a b c)
  pub checked' : check_of s' link ≡ Given (counts a b c')
  pub steps : steps_part s' a ≡ steps_part s a
  pub prims : prims_part s' a b ≡ prims_part s a b

-- The tokens of a checked sheet are as many as it says, and those of their tree.
module _ (s : List ℕ) (link a b c : ℕ) (e : check_of s link ≡ Given (counts a b c)) where
  tokens_are : length (tokens_part s a b c) ≡ c
  unfolding tokens_part
  tokens_are =
      let n : 5 * a + 24 * b + c + 6 - (5 * a + 24 * b + 6) ≡ c = omega arith in
      rw n (length-take-le c (drop (5 * a + 24 * b + 6) s) (omega (arith, length-drop (5 * a + 24 * b + 6) s, sized s (good s link e).found)))

  pub tokens_flat : flat (tree_of (tokens_part s a b c)) ≡ tokens_part s a b c
  tokens_flat = (whole_tree (tokens_part s a b c) b (good s link e).parts.whole).0

  pub count_is : c ≡ length (flat (tree_of (tokens_part s a b c)))
  count_is = sym (ap length tokens_flat ∙ tokens_are)

  pub length_is : (steps prims : List ℕ)
      → program_length (link_of link) steps prims (tokens_part s a b c) b c ≡ 6 + jumps (tree_of (tokens_part s a b c)) + sizes_of (link_of link) steps prims b
  unfolding program_length
  length_is steps prims =
      let ts = tokens_part s a b c in
      let all = take_all c ts (omega (arith, tokens_are)) in
      let j : count is_jump ts ≡ jumps (tree_of ts) = ap (count is_jump) (sym tokens_flat) ∙ count_jumps (tree_of ts) in
      rw all (omega (arith, j))

-- Refusals 1, 7 and 8 by their tests, or what follows.
abbrev unless178 : Bool → Bool → Bool → Outcome → Outcome
unless178 x y z r = cond x (early 1 0) (cond y (early 7 0) (cond z (early 8 0) r))

outcome_is : (s : List ℕ) (link mode output work a b c : ℕ) → check_of s link ≡ Given (counts a b c)
    → (l : ℕ) → l ≡ program_length (link_of link) (steps_part s a) (prims_part s a b) (tokens_part s a b c) b c
    → outcome_of s link mode output work ≡ unless178 (ltb 1 mode) (ltb output (8 * l)) (ltb work (l + 8 * c))
    (late l c (compile_l (template mode (link_of link) (steps_part s a) (prims_part s a b)) (tree_of (tokens_part s a b c))))
unfolding outcome_of outcome admit_of roomed measure_of measured
outcome_is s link mode output work a b c e l le = rw (e, ← le) (go (ltb 1 mode) (ltb output (8 * l)) (ltb work (l + 8 * c)))
  where
    go : (x y z : Bool) → outcome (cond x (Refused 1 0) (cond y (Refused 7 0) (cond z (Refused 8 0) (Given (asks (counts a b c) l))))) s link mode
        ≡ unless178 x y z (late l c (compile_l (template mode (link_of link) (steps_part s a) (prims_part s a b)) (tree_of (tokens_part s a b c))))
    go true y z = refl
    go false true z = refl
    go false false true = refl
    go false false false = refl

-- THEOREM: "(a and b) and c gives the same bytes as a and (b and c)", "Or does too, wherever in the tree it stands", and "a refusal of 7, 8 or 10 to 19 is the same number".
-- The whole outcome is the same: the answer with its place, what stands in the output, what stands in the work.
pub regrouped_sheets : (s s' : List ℕ) (link a b c c' : ℕ) → SameButTree s s' link a b c c' → Regrouped (tree_of (tokens_part s a b c)) (tree_of (tokens_part s' a b c'))
    → (mode output work : ℕ) → outcome_of s link mode output work ≡ outcome_of s' link mode output work
regrouped_sheets s s' link a b c c' v r mode output work =
    outcome_is s link mode output work a b c v.checked l refl
    ∙ ap (λ (n : ℕ). result n c (tree_of (tokens_part s a b c))) lengths
    ∙ ap (λ (n : ℕ). result l' n (tree_of (tokens_part s a b c))) same_count
    ∙ ap room (compile_regroups (template mode (link_of link) steps prims) r)
    ∙ ap (λ (x : List ℕ). room (compile_l (template mode (link_of link) x prims) (tree_of (tokens_part s' a b c')))) (sym v.steps)
    ∙ ap (λ (x : List ℕ). room (compile_l (template mode (link_of link) (steps_part s' a) x) (tree_of (tokens_part s' a b c')))) (sym v.prims)
    ∙ sym (outcome_is s' link mode output work a b c' v.checked' l' refl)
  where
    steps : List ℕ
    steps = steps_part s a

    prims : List ℕ
    prims = prims_part s a b

    l : ℕ
    l = program_length (link_of link) steps prims (tokens_part s a b c) b c

    l' : ℕ
    l' = program_length (link_of link) (steps_part s' a) (prims_part s' a b) (tokens_part s' a b c') b c'

    result : ℕ → ℕ → Tree → Outcome
    result n m t = unless178 (ltb 1 mode) (ltb output (8 * n)) (ltb work (n + 8 * m)) (late n m (compile_l (template mode (link_of link) steps prims) t))

    room : CompL → Outcome
    room x = unless178 (ltb 1 mode) (ltb output (8 * l')) (ltb work (l' + 8 * c')) (late l' c' x)

    same_count : c ≡ c'
    same_count = count_is s link a b c v.checked ∙ same_tokens r ∙ sym (count_is s' link a b c' v.checked')

    lengths : l ≡ l'
    lengths =
        length_is s link a b c v.checked steps prims
        ∙ ap (λ (n : ℕ). 6 + n + sizes_of (link_of link) steps prims b) (same_jumps r)
        ∙ sym (length_is s' link a b c' v.checked' steps prims)
        ∙ ap (λ (x : List ℕ). program_length (link_of link) x prims (tokens_part s' a b c') b c') (sym v.steps)
        ∙ ap (λ (x : List ℕ). program_length (link_of link) (steps_part s' a) x (tokens_part s' a b c') b c') (sym v.prims)

-- A sheet that is refused 1 to 6.
refused_is : (s : List ℕ) (link mode output work n p : ℕ) → check_of s link ≡ Refused n p → outcome_of s link mode output work ≡ cond (ltb 1 mode) (early 1 0) (early n p)
unfolding outcome_of outcome admit_of roomed measure_of measured
refused_is s link mode output work n p e = rw e (go (ltb 1 mode))
  where
    go : (x : Bool) → outcome (cond x (Refused 1 0) (Refused n p)) s link mode ≡ cond x (early 1 0) (early n p)
    go true = refl
    go false = refl

-- The counts that a check gives are those written.
written_good : (front : List ℕ) → Front front → (tokens : List ℕ) (link a b c : ℕ) → check_of (written front tokens) link ≡ Given (counts a b c)
    → check_of (written front tokens) link ≡ Given (counts (step_count front) (prim_count front) (length tokens))
written_good front whole tokens link a b c e =
    let f : Some (counts a b c) ≡ Some (counts (step_count front) (prim_count front) (length tokens)) = sym (good (written front tokens) link e).found ∙ written_sections front whole tokens in
    let n : counts a b c ≡ counts (step_count front) (prim_count front) (length tokens) = cc in
    e ∙ ap (λ (k : Counts). Given k) n

-- Two sheets written with the same steps and primitives, past refusals 1 to 6.
pub same_but_tree : (front : List ℕ) → Front front → (ts us : List ℕ) (link a b c a' b' c' : ℕ)
    → check_of (written front ts) link ≡ Given (counts a b c) → check_of (written front us) link ≡ Given (counts a' b' c')
    → SameButTree (written front ts) (written front us) link (step_count front) (prim_count front) (length ts) (length us)
same_but_tree front whole ts us link a b c a' b' c' e e' =
    record {
      checked = written_good front whole ts link a b c e;
      checked' = written_good front whole us link a' b' c' e';
      steps = written_steps front whole us ∙ sym (written_steps front whole ts);
      prims = written_prims front whole us ∙ sym (written_prims front whole ts);
    }

-- The tree that is written is the tree that is read.
pub written_tree : (front : List ℕ) → Front front → (t : Tree) → tree_of (tokens_part (written front (flat t)) (step_count front) (prim_count front) (length (flat t))) ≡ t
written_tree front whole t = ap tree_of (written_tokens front whole (flat t)) ∙ tree_flat t

-- THEOREM: the same of two sheets written with the same steps and primitives and the tokens of regrouped trees, whatever the sheets, the link and the mode: refusals 1 to 6 too.
pub written_regroups : (front : List ℕ) → Front front → {t u : Tree} → Regrouped t u → (link mode output work : ℕ)
    → outcome_of (written front (flat t)) link mode output work ≡ outcome_of (written front (flat u)) link mode output work
written_regroups front whole {t} {u} r link mode output work = go (check_of s link) refl
  where
    s : List ℕ
    s = written front (flat t)

    s' : List ℕ
    s' = written front (flat u)

    go : (x : Answer Counts) → check_of s link ≡ x → outcome_of s link mode output work ≡ outcome_of s' link mode output work
    go (Refused n p) e =
        refused_is s link mode output work n p e ∙ sym (refused_is s' link mode output work n p (sym (check_regroups front whole r link) ∙ e))
    go (Given n) e =
        regrouped_sheets s s' link (step_count front) (prim_count front) (length (flat t)) (length (flat u))
        (same_but_tree front whole (flat t) (flat u) link n.steps n.prims n.tokens n.steps n.prims n.tokens e (sym (check_regroups front whole r link) ∙ e))
        (rw (written_tree front whole t, written_tree front whole u) r) mode output work
