-- The lowest number that passes a test: how document 01 finds the place of a refusal.
use Rattle.std.specs.Prelude.{ℕ, zero, suc, Bool, false, cond, ◌||◌}

-- among n numbers from i on, the lowest that passes, and the number after them if none does
unfoldable pub first : (ℕ → Bool) → ℕ → ℕ → ℕ
first test zero i = i
first test (suc n) i = cond (test i) i (first test n (suc i))

-- whether one of n numbers from i on passes
unfoldable pub any : (ℕ → Bool) → ℕ → ℕ → Bool
any test zero i = false
any test (suc n) i = test i || any test n (suc i)
