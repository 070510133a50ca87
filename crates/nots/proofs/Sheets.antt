-- THEOREMS of document 02's A4, from the sheet's bytes: what the new sheet is, and that it means what the old one does.
use Prim.Native.Nat.{ℕ, zero, suc, ◌+◌, ◌-◌, ◌*◌, ◌<◌, ◌≤◌}
use mathlib.Core.Path.{◌≡◌, refl, sym, ap, ◌∙◌, subst}
use mathlib.Core.List.{List, [], ◌∷◌, ◌++◌}
use mathlib.Core.Bool.{Bool, true, false, cond}
use native.Mathlib.Omega.{arith}
use borrow.Author.Tests.{ltb-false, le-ltb}
use lib.Dec.{ltb}
use lib.ListN.{length, take, drop}
use lib.Seq.{take-take, get_or-take, length-take-le, take_at}
use Rattle.std.specs.Prelude.{Some}
use Rattle.filter.specs.Ast.{link_of}
use Rattle.filter.specs.Bytes.{be2}
use Rattle.filter.specs.First.{first}
use Rattle.filter.specs.Sheet.{counts, step_count, prim_count, sections_of, steps_part, prims_part, tokens_part}
use Rattle.filter.specs.Written.{Front, written}
use Rattle.filter.specs.declared.ast.LinkType.{LinkType}
use Rattle.filter.proofs.Sheets.{found, sized}
use Rattle.filter.proofs.Written.{written_sections, written_steps, written_prims, written_tokens}
use Rattle.tree.specs.Tree.{Tree, flat, leaves, depth, tree_of}
use Rattle.tree.proofs.Prefix.{tree_flat}
use Rattle.checks.specs.Check.{far_offset, shift_at, check_accesses, whole_of}
use Rattle.refusals.specs.Refusal.{Answer}
use Rattle.refusals.specs.Refusal.Answer.{Refused, Given}
use Rattle.checks.proofs.Wholes.{Sorted, sorted, sorted_whole, sorted_check, other_tree}
use Rattle.meaning.specs.Evaluate.{primitive_holds, expression_holds, judge, evaluated, evaluate_of}
use Rattle.nots.specs.Nots.{wanted_part, low_nots}
use Rattle.nots.specs.Push.{tree_in, front_of, new_sheet, roomed, pushed, push_of, sheet_after}
use Rattle.filter.specs.declared.sheet.Counts.{Counts}
use Rattle.nots.proofs.Trees.{wanted_leaves, wanted_low, wanted_twice, wanted_depth, wanted_holds}
use Rattle.nots.proofs.Rooms.{one_tree, tree_is, front_is}

-- A part of a sheet's front is that part of the sheet.
part_take : (i n k : ℕ) (l : List ℕ) → i + n ≤ k → take n (drop i (take k l)) ≡ take n (drop i l)
part_take zero n k l h = take-take n k l (omega arith)
part_take (suc i) n zero l h = absurd (omega arith)
part_take (suc i) n (suc k) [] h = refl
part_take (suc i) n (suc k) (x ∷ l) h = part_take i n k l (omega arith)

be2_take : (k p : ℕ) (l : List ℕ) → p + 1 < k → be2 (take k l) p ≡ be2 l p
unfolding be2
be2_take k p l h = rw (get_or-take k l p 0 (omega arith), get_or-take k l (p + 1) 0 h)

module _ (s : List ℕ) {a b c : ℕ} (t : Sorted s a b c) where
  abbrev front : List ℕ
  front = take (5 * a + 24 * b + 4) s

  abbrev turned : Tree
  turned = wanted_part (tree_in s)

  front_steps : step_count front ≡ a
  unfolding step_count
  front_steps = be2_take (5 * a + 24 * b + 4) 0 s (omega arith) ∙ (found s t.found).steps

  front_prims : prim_count front ≡ b
  unfolding prim_count
  front_prims =
      ap (λ (n : ℕ). be2 front (5 * n + 2)) front_steps ∙ be2_take (5 * a + 24 * b + 4) (5 * a + 2) s (omega arith)
      ∙ ap (λ (n : ℕ). be2 s (5 * n + 2)) (sym (found s t.found).steps) ∙ (found s t.found).prims

  front_long : length front ≡ 5 * a + 24 * b + 4
  front_long = length-take-le (5 * a + 24 * b + 4) s (omega (arith, sized s t.found))

  whole_front : Front front
  whole_front = omega (arith, front_long, front_steps, front_prims)

  new_written : new_sheet s ≡ written front (flat turned)
  unfolding new_sheet
  new_written = rw (front_is s t)

  new_found : sections_of (new_sheet s) ≡ Some (counts a b (length (flat turned)))
  new_found = ap sections_of new_written ∙ written_sections front whole_front (flat turned) ∙ rw (front_steps, front_prims)

  new_steps : steps_part (new_sheet s) a ≡ steps_part s a
  unfolding steps_part
  new_steps =
      ap (λ l. steps_part l a) new_written ∙ ap (steps_part (written front (flat turned))) (sym front_steps)
      ∙ written_steps front whole_front (flat turned) ∙ ap (steps_part front) front_steps
      ∙ part_take 2 (5 * a + 2 - 2) (5 * a + 24 * b + 4) s (omega arith)

  new_prims : prims_part (new_sheet s) a b ≡ prims_part s a b
  unfolding prims_part
  new_prims =
      ap (λ l. prims_part l a b) new_written ∙ ap (λ (n : ℕ). prims_part (written front (flat turned)) n b) (sym front_steps)
      ∙ ap (λ (n : ℕ). prims_part (written front (flat turned)) (step_count front) n) (sym front_prims)
      ∙ written_prims front whole_front (flat turned)
      ∙ ap (λ (n : ℕ). prims_part front n (prim_count front)) front_steps ∙ ap (λ (n : ℕ). prims_part front a n) front_prims
      ∙ part_take (5 * a + 4) (5 * a + 24 * b + 4 - (5 * a + 4)) (5 * a + 24 * b + 4) s (omega arith)

  new_tokens : tokens_part (new_sheet s) a b (length (flat turned)) ≡ flat turned
  new_tokens =
      ap (λ l. tokens_part l a b (length (flat turned))) new_written
      ∙ ap (λ (n : ℕ). tokens_part (written front (flat turned)) n b (length (flat turned))) (sym front_steps)
      ∙ ap (λ (n : ℕ). tokens_part (written front (flat turned)) (step_count front) n (length (flat turned))) (sym front_prims)
      ∙ written_tokens front whole_front (flat turned)

  old_tree : (tree_in s ≡ (one_tree s t).0) × (leaves (tree_in s) ≡ b)
  old_tree =
      let u = one_tree s t in
      let same : tree_in s ≡ u.0 = tree_is s t ∙ ap tree_of (sym u.1) ∙ tree_flat u.0 in
      (same, ap leaves same ∙ u.2)

  -- "The same primitives in the same order": the steps and the primitives are those of the old sheet, and refusals 2 to 4 do not meet the new one.
  pub new_sorted : Sorted (new_sheet s) a b (length (flat turned))
  new_sorted = record {
    found = new_found;
    parts = rw (new_steps, new_prims, new_tokens)
        (other_tree (steps_part s a) (prims_part s a b) (tokens_part s a b c) a b c t.parts turned (wanted_leaves (tree_in s) ∙ old_tree.1));
  }

  pub new_tree : tree_in (new_sheet s) ≡ turned
  new_tree = tree_is (new_sheet s) new_sorted ∙ ap tree_of new_tokens ∙ tree_flat turned

  new_front : front_of (new_sheet s) ≡ front_of s
  unfolding written
  new_front =
      front_is (new_sheet s) new_sorted ∙ ap (take (5 * a + 24 * b + 4)) new_written
      ∙ take_at front _ (5 * a + 24 * b + 4) front_long ∙ sym (front_is s t)

  -- "doing it twice changes nothing".
  pub new_again : new_sheet (new_sheet s) ≡ new_sheet s
  unfolding new_sheet
  new_again = rw (new_front, new_tree, wanted_twice (tree_in s))

-- What the answer says of an accepted sheet.
pub record Accepted (s : List ℕ) (output m : ℕ) : Type 0 where
  pub steps : ℕ
  pub prims : ℕ
  pub tokens : ℕ
  pub whole : whole_of s ≡ Given (counts steps prims tokens)
  pub shallow : depth (tree_in s) ≤ 256
  pub few : length (flat (wanted_part (tree_in s))) ≤ 65535
  pub long : m ≡ length (new_sheet s)
  pub room : m ≤ output

clash : {n p m : ℕ} → ◌≡◌ {A = Answer ℕ} (Refused n p) (Given m) → ⊥
clash e = let never : ◌≡◌ {A = ℕ} 0 1 = cc in omega arith

pub accepted : (s : List ℕ) (output : ℕ) {m : ℕ} → push_of s output ≡ Given m → Accepted s output m
unfolding push_of pushed roomed new_sheet
accepted s output {m} = on_check (whole_of s) refl
  where
    fits : {a b c : ℕ} → whole_of s ≡ Given (counts a b c) → (p q r : Bool) → ltb 256 (depth (tree_in s)) ≡ p → ltb 65535 (length (flat (wanted_part (tree_in s)))) ≡ q
        → ltb output (length (written (front_of s) (flat (wanted_part (tree_in s))))) ≡ r
        → cond p (Refused 9 0) (cond q (Refused 50 0) (cond r (Refused 7 0) (Given (length (written (front_of s) (flat (wanted_part (tree_in s)))))))) ≡ Given m → Accepted s output m
    fits w true q r ep eq er e = absurd (clash e)
    fits w false true r ep eq er e = absurd (clash e)
    fits w false false true ep eq er e = absurd (clash e)
    fits w false false false ep eq er e =
        let n : m ≡ length (written (front_of s) (flat (wanted_part (tree_in s)))) = cc in
        record { steps = _; prims = _; tokens = _; whole = w; shallow = ltb-false _ _ ep; few = ltb-false _ _ eq; long = n; room = omega (arith, n, ltb-false output (length (written (front_of s) (flat (wanted_part (tree_in s))))) er) }

    on_check : (x : Answer Counts) → whole_of s ≡ x → pushed x s output ≡ Given m → Accepted s output m
    on_check (Refused number place) w e = absurd (clash e)
    on_check (Given n) w e = fits w _ _ _ refl refl refl e

module _ (s : List ℕ) (output : ℕ) {m : ℕ} (e : push_of s output ≡ Given m) where
  abbrev got : Accepted s output m
  got = accepted s output e

  abbrev in_order : Sorted s got.steps got.prims got.tokens
  in_order = sorted s got.whole

  -- THEOREM: "the new sheet passes refusals 2 to 4".
  pub passes : whole_of (new_sheet s) ≡ Given (counts got.steps got.prims (length (flat (wanted_part (tree_in s)))))
  passes = sorted_whole (new_sheet s) (new_sorted s in_order)

  -- THEOREM: every Not of the new tree has a primitive below it.
  pub nots_low : low_nots (tree_in (new_sheet s)) ≡ true
  nots_low = ap low_nots (new_tree s in_order) ∙ wanted_low (tree_in s)

  -- THEOREM: the new tree is never deeper.
  pub no_deeper : depth (tree_in (new_sheet s)) ≤ depth (tree_in s)
  no_deeper = subst (λ u. depth u ≤ depth (tree_in s)) (sym (new_tree s in_order)) (wanted_depth (tree_in s))

  again : (room : ℕ) → m ≤ room → push_of (new_sheet s) room ≡ Given m
  unfolding push_of pushed roomed new_sheet
  again room h =
      rw (passes, new_front s in_order, new_tree s in_order, wanted_twice (tree_in s))
      (rw (
        le-ltb 256 (depth (wanted_part (tree_in s))) (omega (arith, wanted_depth (tree_in s), got.shallow)),
        le-ltb 65535 (length (flat (wanted_part (tree_in s)))) got.few,
        le-ltb room (length (written (front_of s) (flat (wanted_part (tree_in s))))) (omega (arith, h, got.long)),
        ← got.long,
      ))

  -- THEOREM: done twice, the second output is the first, byte for byte; what stands behind it stays.
  pub twice : (room : List ℕ) → m ≤ length room
      → (push_of (new_sheet s) (length room) ≡ Given m) × (sheet_after (push_of (new_sheet s) (length room)) (new_sheet (new_sheet s)) room ≡ new_sheet s ++ drop m room)
  unfolding sheet_after
  twice room h =
      let same = again (length room) h in
      (same, ap (λ x. sheet_after x (new_sheet (new_sheet s)) room) same ∙ ap (λ n. n ++ drop m room) (new_again s in_order))

  module _ (link : LinkType) (f : List ℕ) where
    abbrev steps : List ℕ
    steps = steps_part s got.steps

    abbrev prims : List ℕ
    prims = prims_part s got.steps got.prims

    -- Not deeper than 256, and the same expression.
    same_judge : judge link steps prims (flat (wanted_part (tree_in s))) got.prims f
        ≡ judge link steps prims (tokens_part s got.steps got.prims got.tokens) got.prims f
    unfolding judge expression_holds
    same_judge =
        rw (
          tree_flat (wanted_part (tree_in s)),
          ← tree_is s in_order,
          le-ltb 256 (depth (wanted_part (tree_in s))) (omega (arith, wanted_depth (tree_in s), got.shallow)),
          le-ltb 256 (depth (tree_in s)) got.shallow,
          wanted_holds (primitive_holds link steps prims f) (tree_in s) 0,
        )

    same_rest : evaluated (check_accesses link steps prims got.steps got.prims (length (flat (wanted_part (tree_in s))))) link (new_sheet s) f
        ≡ evaluated (check_accesses link steps prims got.steps got.prims got.tokens) link s f
    unfolding evaluated check_accesses
    same_rest = go (ltb (first (far_offset link prims) got.prims 0) got.prims) (ltb (first (shift_at steps prims) got.prims 0) got.prims)
      where
        go : (p q : Bool)
            → evaluated (cond p (Refused 5 (first (far_offset link prims) got.prims 0)) (cond q (Refused 6 (first (shift_at steps prims) got.prims 0)) (Given (counts got.steps got.prims (length (flat (wanted_part (tree_in s)))))))) link (new_sheet s) f
            ≡ evaluated (cond p (Refused 5 (first (far_offset link prims) got.prims 0)) (cond q (Refused 6 (first (shift_at steps prims) got.prims 0)) (Given (counts got.steps got.prims got.tokens)))) link s f
        go true q = refl
        go false true = refl
        go false false = rw (new_steps s in_order, new_prims s in_order, new_tokens s in_order) same_judge

  -- THEOREM: on every link and frame the evaluator answers alike: where the old sheet has a meaning, the new one has the same; else both get the same refusal at the same place.
  pub same_answer : (link : ℕ) (f : List ℕ) → evaluate_of (new_sheet s) link f ≡ evaluate_of s link f
  unfolding evaluate_of evaluated
  same_answer link f =
      ap (λ x. evaluated x (link_of link) (new_sheet s) f)
      (sorted_check (new_sheet s) (new_sorted s in_order) link
      ∙ ap (λ l. cond (ltb 2 link) (Refused 1 0) (check_accesses (link_of link) l (prims_part (new_sheet s) got.steps got.prims) got.steps got.prims (length (flat (wanted_part (tree_in s)))))) (new_steps s in_order)
      ∙ ap (λ l. cond (ltb 2 link) (Refused 1 0) (check_accesses (link_of link) (steps_part s got.steps) l got.steps got.prims (length (flat (wanted_part (tree_in s)))))) (new_prims s in_order))
      ∙ go (ltb 2 link)
      ∙ ap (λ x. evaluated x (link_of link) s f) (sym (sorted_check s in_order link))
    where
      rest : ℕ → Answer Counts
      rest c = check_accesses (link_of link) (steps_part s got.steps) (prims_part s got.steps got.prims) got.steps got.prims c

      go : (p : Bool) → evaluated (cond p (Refused 1 0) (rest (length (flat (wanted_part (tree_in s)))))) (link_of link) (new_sheet s) f
          ≡ evaluated (cond p (Refused 1 0) (rest got.tokens)) (link_of link) s f
      go true = refl
      go false = same_rest (link_of link) f

  -- THEOREM: "Where the link gives the old sheet a meaning (not refused 5, 6 or 11 to 19), the new one holds on exactly the same frames".
  pub same_frames : (link : ℕ) (f : List ℕ) {h : Bool} → evaluate_of s link f ≡ Given h → evaluate_of (new_sheet s) link f ≡ Given h
  same_frames link f j = same_answer link f ∙ j
