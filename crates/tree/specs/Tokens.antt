-- What is counted over the tokens themselves, with no tree in sight.
use Rattle.std.specs.Prelude.{ℕ, suc, List, [], ◌∷◌, Bool, cond, ◌||◌, eqb}

-- How many tokens pass a test.
unfoldable pub count : (ℕ → Bool) → List ℕ → ℕ
count test [] = 0
count test (t ∷ ts) = cond (test t) (suc (count test ts)) (count test ts)

-- "0 the next primitive".
abbrev pub is_primitive : ℕ → Bool
is_primitive t = eqb t 0

-- "one for each Or and Not".
abbrev pub is_jump : ℕ → Bool
is_jump t = eqb t 2 || eqb t 3
