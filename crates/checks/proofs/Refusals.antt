-- Laws of the first bad step: the loop over a byte access's steps.
use Prim.Native.Nat.{ℕ, suc, ◌+◌, ◌-◌, ◌<◌, ◌≤◌}
use mathlib.Core.Path.{◌≡◌}
use mathlib.Core.List.{List}
use native.Mathlib.Omega.{arith}
use borrow.Author.Tests.{ne_eqb}
use Rattle.checks.specs.Refusal.{step_refusal, steps_refusal}
use Rattle.filter.proofs.Firsts.{suc_of}

pub refusal_none : (steps : List ℕ) (n from k : ℕ) → n ≤ k → steps_refusal steps (n - k) (from + k) ≡ 0
unfolding steps_refusal
refusal_none steps n from k h = let z : n - k ≡ 0 = omega arith in rw z

-- a bad step
pub refusal_stop : (steps : List ℕ) (n from k : ℕ) {r : ℕ} → k < n → r ≡ step_refusal steps (from + k) → (r ≡ 0 → ⊥)
    → steps_refusal steps (n - k) (from + k) ≡ r
unfolding steps_refusal
refusal_stop steps n from k h e bad = rw (suc_of k n h, ← e, ne_eqb _ _ bad)

-- a good one
pub refusal_more : (steps : List ℕ) (n from k : ℕ) {r : ℕ} → k < n → r ≡ step_refusal steps (from + k) → r ≡ 0
    → steps_refusal steps (n - k) (from + k) ≡ steps_refusal steps (n - (k + 1)) (from + (k + 1))
unfolding steps_refusal
refusal_more steps n from k h e good =
    let z : from + (k + 1) ≡ suc (from + k) = omega arith in
    rw (suc_of k n h, z, ← e, good)
