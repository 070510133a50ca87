-- What `bromaveluth_measure` answers is what `compile` asks for: that much room is not refused 7 or 8, and less is.
use Prim.Native.Nat.{ℕ, ◌+◌, ◌*◌, ◌<◌, ◌≤◌}
use mathlib.Core.Path.{◌≡◌, refl, ap, ◌∙◌}
use mathlib.Core.Bool.{Bool, true, false, cond}
use mathlib.Core.List.{List}
use native.Mathlib.Omega.{arith}
use borrow.Author.Tests.{lt-ltb, le-ltb}
use lib.Dec.{ltb}
use Rattle.filter.specs.Ast.{link_of}
use Rattle.filter.specs.Sheet.{counts, steps_part, prims_part, tokens_part}
use Rattle.tree.specs.Tree.{tree_of}
use Rattle.checks.specs.Measure.{asks, measure_of, roomed, admit_of}
use Rattle.checks.specs.declared.measure.Measured.{Measured}
use Rattle.refusals.specs.Refusal.{Answer}
use Rattle.refusals.specs.Refusal.Answer.{Refused, Given}
use Rattle.checks.proofs.Bounds.{measured_length}
use Rattle.patches.specs.Listing.{compile_l}
use Rattle.generator.specs.Template.{template}
use Rattle.generator.specs.Compile.{outcome, outcome_of}
use Rattle.generator.specs.Compile.Outcome.{early, late}
use Rattle.bromaveluth.specs.Boundary.{asked_of}

-- What is asked is small, so that it can be written.
pub asked_length : (s : List ℕ) (link mode : ℕ) {a b c l : ℕ} → asked_of s link mode ≡ Given (asks (counts a b c) l) → l ≤ 6 + c + 128 * b + a
unfolding asked_of
asked_length s link mode {a} {b} {c} {l} = go (ltb 1 mode)
  where
    go : (t : Bool) → cond t (Refused 1 0) (measure_of s link) ≡ Given (asks (counts a b c) l) → l ≤ 6 + c + 128 * b + a
    go true e = let never : ◌≡◌ {A = ℕ} 0 1 = cc in absurd (omega arith)
    go false e = measured_length s link e

-- Refusals 1 to 8 are those that are asked here, then those of the room.
admits : (s : List ℕ) (link mode output work : ℕ) → admit_of s link mode output work ≡ roomed (asked_of s link mode) output work
unfolding admit_of asked_of roomed
admits s link mode output work = go (ltb 1 mode)
  where
    go : (t : Bool) → cond t (Refused 1 0) (roomed (measure_of s link) output work) ≡ roomed (cond t (Refused 1 0) (measure_of s link)) output work
    go true = refl
    go false = refl

module _ (a b c l output work : ℕ) where
  room_enough : 8 * l ≤ output → l + 8 * c ≤ work → roomed (Given (asks (counts a b c) l)) output work ≡ Given (asks (counts a b c) l)
  unfolding roomed
  room_enough h k = rw (le-ltb output (8 * l) h, le-ltb work (l + 8 * c) k) refl

  room_7 : output < 8 * l → roomed (Given (asks (counts a b c) l)) output work ≡ Refused 7 0
  unfolding roomed
  room_7 h = rw (lt-ltb output (8 * l) h) refl

  room_8 : 8 * l ≤ output → work < l + 8 * c → roomed (Given (asks (counts a b c) l)) output work ≡ Refused 8 0
  unfolding roomed
  room_8 h k = rw (le-ltb output (8 * l) h, lt-ltb work (l + 8 * c) k) refl

-- Whatever the room.
module _ (s : List ℕ) (link mode output work : ℕ) where
  with_room : (m : Answer Measured) → asked_of s link mode ≡ m → outcome_of s link mode output work ≡ outcome (roomed m output work) s link mode
  unfolding outcome_of
  with_room m e = ap (λ (x : Answer Measured). outcome x s link mode) (admits s link mode output work ∙ ap (λ (x : Answer Measured). roomed x output work) e)

  -- THEOREM: what is refused when it is measured, `compile` refuses alike.
  pub refused_alike : (number place : ℕ) → asked_of s link mode ≡ Refused number place → outcome_of s link mode output work ≡ early number place
  unfolding roomed outcome
  refused_alike number place e = with_room (Refused number place) e

  module _ (a b c l : ℕ) (e : asked_of s link mode ≡ Given (asks (counts a b c) l)) where
    -- THEOREM: with that room or more, `compile` goes on to the program, or to one of 10 to 19: it gives neither 7 nor 8.
    pub enough : 8 * l ≤ output → l + 8 * c ≤ work
        → outcome_of s link mode output work ≡ late l c (compile_l (template mode (link_of link) (steps_part s a) (prims_part s a b)) (tree_of (tokens_part s a b c)))
    unfolding outcome
    enough h k = with_room (Given (asks (counts a b c) l)) e ∙ ap (λ (x : Answer Measured). outcome x s link mode) (room_enough a b c l output work h k)

    -- THEOREM: with less output it gives 7, with less work 8.
    pub less_output : output < 8 * l → outcome_of s link mode output work ≡ early 7 0
    unfolding outcome
    less_output h = with_room (Given (asks (counts a b c) l)) e ∙ ap (λ (x : Answer Measured). outcome x s link mode) (room_7 a b c l output work h)

    pub less_work : 8 * l ≤ output → work < l + 8 * c → outcome_of s link mode output work ≡ early 8 0
    unfolding outcome
    less_work h k = with_room (Given (asks (counts a b c) l)) e ∙ ap (λ (x : Answer Measured). outcome x s link mode) (room_8 a b c l output work h k)
