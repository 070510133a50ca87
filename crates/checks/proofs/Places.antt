-- The lowest wrong byte of the sheet is that of its steps, else that of its primitives, else that of its tokens.
use Prim.Native.Nat.{ℕ, ◌+◌, ◌-◌, ◌*◌, ◌<◌, ◌≤◌}
use mathlib.Core.Path.{◌≡◌, refl}
use mathlib.Core.Bool.{Bool, true, false, ◌&&◌, ◌||◌}
use mathlib.Core.List.{List}
use native.Mathlib.Omega.{arith}
use borrow.Author.Tests.{ltb-true, leb-true, lt-ltb, le-leb}
use lib.Dec.{leb, ltb}
use Rattle.filter.specs.First.{first}
use Rattle.filter.specs.Wrong.{step_wrong, record_wrong, token_wrong}
use Rattle.filter.proofs.Firsts.{first_is, first_lowest, first_passes, first_within}
use Rattle.checks.specs.Check.{wrong_in, sheet_wrong, lowest_wrong}

-- a byte with no wrong byte of its part at or below it
clean : (from n : ℕ) (f : ℕ → Bool) (j : ℕ) → (from ≤ j → j < from + n → j - from < first f n 0) → wrong_in from n f j ≡ false
unfolding wrong_in
clean from n f j h = go (leb from j) (ltb j (from + n)) refl refl
  where
    go : (p q : Bool) → leb from j ≡ p → ltb j (from + n) ≡ q → (p && q) && f (j - from) ≡ false
    go false q ep eq = refl
    go true false ep eq = refl
    go true true ep eq = first_lowest f n 0 (j - from) (omega arith) (h (leb-true _ _ ep) (ltb-true _ _ eq))

-- the lowest wrong byte of a part
here : (from n : ℕ) (f : ℕ → Bool) (j : ℕ) → j ≡ from + first f n 0 → first f n 0 < n → wrong_in from n f j ≡ true
unfolding wrong_in
here from n f j e h =
    let d : j - from ≡ first f n 0 = omega arith in
    rw (le-leb from j (omega arith), lt-ltb j (from + n) (omega arith), d) (first_passes f n 0 (omega arith))

none : {p q r : Bool} → p ≡ false → q ≡ false → r ≡ false → p || q || r ≡ false
none ep eq er = rw (ep, eq, er)

module _ (steps prims tokens : List ℕ) (a b c : ℕ) where
  pub lowest_step : first (step_wrong steps) (5 * a) 0 < 5 * a → lowest_wrong steps prims tokens a b c ≡ first (step_wrong steps) (5 * a) 0 + 2
  unfolding lowest_wrong sheet_wrong
  lowest_step h =
      first_is _ _ _ (omega arith)
      (λ (j : ℕ) (k : j < first (step_wrong steps) (5 * a) 0 + 2).
      none
      (clean 2 (5 * a) (step_wrong steps) j (λ u v. omega arith))
      (clean (5 * a + 4) (24 * b) (record_wrong prims) j (λ u v. omega arith))
      (clean (5 * a + 24 * b + 6) c (token_wrong tokens) j (λ u v. omega arith)))
      (λ k. rw (here 2 (5 * a) (step_wrong steps) (first (step_wrong steps) (5 * a) 0 + 2) (omega arith) h))

  pub lowest_record : 5 * a ≤ first (step_wrong steps) (5 * a) 0 → first (record_wrong prims) (24 * b) 0 < 24 * b
      → lowest_wrong steps prims tokens a b c ≡ 5 * a + first (record_wrong prims) (24 * b) 0 + 4
  unfolding lowest_wrong sheet_wrong
  lowest_record g h =
      first_is _ _ _ (omega arith)
      (λ (j : ℕ) (k : j < 5 * a + first (record_wrong prims) (24 * b) 0 + 4).
      none
      (clean 2 (5 * a) (step_wrong steps) j (λ u v. omega arith))
      (clean (5 * a + 4) (24 * b) (record_wrong prims) j (λ u v. omega arith))
      (clean (5 * a + 24 * b + 6) c (token_wrong tokens) j (λ u v. omega arith)))
      (λ k.
      rw (
        clean 2 (5 * a) (step_wrong steps) (5 * a + first (record_wrong prims) (24 * b) 0 + 4) (λ u v. omega arith),
        here (5 * a + 4) (24 * b) (record_wrong prims) (5 * a + first (record_wrong prims) (24 * b) 0 + 4) (omega arith) h,
      ))

  pub lowest_token : 5 * a ≤ first (step_wrong steps) (5 * a) 0 → 24 * b ≤ first (record_wrong prims) (24 * b) 0
      → lowest_wrong steps prims tokens a b c ≡ 5 * a + 24 * b + first (token_wrong tokens) c 0 + 6
  unfolding lowest_wrong sheet_wrong
  lowest_token g h =
      let m : first (token_wrong tokens) c 0 ≤ 0 + c = first_within (token_wrong tokens) c 0 in
      first_is _ _ _ (omega arith)
      (λ (j : ℕ) (k : j < 5 * a + 24 * b + first (token_wrong tokens) c 0 + 6).
      none
      (clean 2 (5 * a) (step_wrong steps) j (λ u v. omega arith))
      (clean (5 * a + 4) (24 * b) (record_wrong prims) j (λ u v. omega arith))
      (clean (5 * a + 24 * b + 6) c (token_wrong tokens) j (λ u v. omega arith)))
      (λ k.
      rw (
        clean 2 (5 * a) (step_wrong steps) (5 * a + 24 * b + first (token_wrong tokens) c 0 + 6) (λ u v. omega arith),
        clean (5 * a + 4) (24 * b) (record_wrong prims) (5 * a + 24 * b + first (token_wrong tokens) c 0 + 6) (λ u v. omega arith),
        here (5 * a + 24 * b + 6) c (token_wrong tokens) (5 * a + 24 * b + first (token_wrong tokens) c 0 + 6) (omega arith) (omega arith),
      ))
