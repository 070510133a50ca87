-- A sheet that passes refusals 1 to 6: its size, its one tree, and the steps that its primitives take.
use Rattle.std.specs.Prelude.{Some}
use Rattle.std.proofs.Common.{◌≡◌, ℕ, zero, suc, ◌+◌, ◌*◌, ◌<◌, ◌≤◌, List, length, ⊎_elim, eq-or-lt_of_le, arith}
use Rattle.filter.specs.Sheet.{counts, prims_part, tokens_part}
use Rattle.filter.proofs.Sheets.{sized}
use Rattle.tree.specs.Shape.{shape_of}
use Rattle.refusals.specs.Refusal.Answer.{Given}
use Rattle.checks.specs.Check.{steps_before, check_of}
use Rattle.checks.proofs.Bounds.{good, whole_shape}

pub record GoodParts (s : List ℕ) (a b c : ℕ) : Type 0 where
  pub size : length s ≡ 5 * a + 24 * b + c + 6
  pub tree : shape_of (tokens_part s a b c) ≡ Some b
  pub steps : steps_before (prims_part s a b) b ≡ a

pub good_parts : (s : List ℕ) (link : ℕ) {a b c : ℕ} → check_of s link ≡ Given (counts a b c) → GoodParts s a b c
good_parts s link e =
    let t = good s link e in
    record { size = sized s t.found; tree = whole_shape _ _ t.parts.whole; steps = t.parts.taken }

-- More records take no fewer steps.
pub before_grows : (prims : List ℕ) (i n : ℕ) → i ≤ n → steps_before prims i ≤ steps_before prims n
unfolding steps_before
before_grows prims i zero h = let z : i ≡ 0 = omega arith in rw z (omega arith)
before_grows prims i (suc n) h =
    ⊎_elim
    (λ (e : i ≡ suc n). rw e (omega arith))
    (λ (l : i < suc n). let before : steps_before prims i ≤ steps_before prims n = before_grows prims i n (omega arith) in omega arith)
    (eq-or-lt_of_le h)
