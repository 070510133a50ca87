-- Bytes that need no look: zeros past byte 2 of a record, and all but the first byte of a step.
use Prim.Native.Nat.{ℕ, ◌+◌, ◌*◌, ◌/◌, ◌%◌, ◌<◌}
use mathlib.Core.Path.{◌≡◌, refl}
use mathlib.Core.Bool.{Bool, true, false}
use mathlib.Core.List.{List}
use native.Mathlib.Omega.{arith}
use borrow.Author.Tests.{le-ltb, ne_eqb, eqb-true, ltb-true, ltb-false}
use lib.Dec.{eqb, ltb}
use lib.ListN.{get_or}
use Rattle.filter.specs.Wrong.{least, most, wrong_byte, record_wrong, step_wrong}

never_below : (m : ℕ) → ltb m 0 ≡ false
never_below m = le-ltb m 0 (omega arith)

pub zero_right : (s : List ℕ) (at i : ℕ) → get_or s (at + i) 0 ≡ 0 → 2 < i → wrong_byte s at i ≡ false
unfolding wrong_byte least
zero_right s at i e h = rw (e, ne_eqb i 0 (λ z. omega arith), ne_eqb i 2 (λ z. omega arith)) (never_below (most (get_or s at 0) (get_or s (at + 2) 0) (get_or s (at + 14) 0) i))

-- byte i of record r
pub place_of : (s : List ℕ) (j r i : ℕ) → j ≡ 24 * r + i → i < 24 → record_wrong s j ≡ wrong_byte s (24 * r) i
unfolding record_wrong
place_of s j r i e h =
    let whose : j / 24 ≡ r = omega arith in
    let where-in : j % 24 ≡ i = omega arith in
    rw (whose, where-in)

-- a step that is right, past others that are
pub steps_below : (s : List ℕ) (j : ℕ) → j % 5 ≡ 0 → ((k : ℕ) → k < j → step_wrong s k ≡ false) → step_wrong s j ≡ false
    → (k : ℕ) → k < j + 5 → step_wrong s k ≡ false
unfolding step_wrong
steps_below s j z below here k h = go (ltb k j) refl (eqb (k % 5) 0) refl
  where
    go : (t : Bool) → ltb k j ≡ t → (b : Bool) → eqb (k % 5) 0 ≡ b → step_wrong s k ≡ false
    go true l b q = below k (ltb-true k j l)
    go false l true q =
        let same : k ≡ j = omega (arith, ltb-false k j l, eqb-true (k % 5) 0 q, z, h) in
        rw same here
    go false l false q = rw q
