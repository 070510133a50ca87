-- The scan of the tokens from place i on: one law for each way the loop of `whole_tree` can go.
use Prim.Native.Nat.{ℕ, suc, ◌+◌, ◌-◌, ◌<◌, ◌≤◌}
use mathlib.Core.Path.{◌≡◌, ap, ◌∙◌}
use mathlib.Core.List.{List}
use native.Mathlib.Numerals.{add-one}
use native.Mathlib.Omega.{arith}
use borrow.Author.Tests.{lt-ltb, le-ltb}
use lib.ListN.{length, drop, get_or, drop_of_length-le}
use lib.Seq.{drop-cons}
use Rattle.std.specs.Prelude.{Some, None}
use Rattle.tree.specs.Shape.{scan, wanted, met_by}

module _ (ts : List ℕ) (i want met : ℕ) where
  some : (want ≡ 0 → ⊥) → want ≡ suc (want - 1)
  some n = omega (arith, n)

  pub left_over : i < length ts → want ≡ 0 → scan (drop i ts) want met ≡ None
  unfolding scan
  left_over h e = rw (drop-cons ts i 0 h, e)

  pub unknown : i < length ts → (want ≡ 0 → ⊥) → 3 < get_or ts i 0 → scan (drop i ts) want met ≡ None
  unfolding scan
  unknown h n g = rw (some n, drop-cons ts i 0 h, lt-ltb 3 (get_or ts i 0) g)

  pub next : i < length ts → (want ≡ 0 → ⊥) → get_or ts i 0 ≤ 3
      → scan (drop i ts) want met ≡ scan (drop (i + 1) ts) (wanted (get_or ts i 0) (want - 1)) (met_by (get_or ts i 0) met)
  unfolding scan
  next h n g = ap (λ w. scan (drop i ts) w met) (some n) ∙ rw (add-one i, drop-cons ts i 0 h, le-ltb 3 (get_or ts i 0) g)

  pub complete : length ts ≤ i → want ≡ 0 → scan (drop i ts) want met ≡ Some met
  unfolding scan
  complete h e = rw (drop_of_length-le ts h, e)

  pub lacking : length ts ≤ i → (want ≡ 0 → ⊥) → scan (drop i ts) want met ≡ None
  unfolding scan
  lacking h n = rw (drop_of_length-le ts h, some n)
