-- Refusal 4, "tokens are not one whole tree": decided by counting the trees that are still wanted, with no tree built and no recursion into one.
use Rattle.std.specs.Prelude.{ℕ, zero, suc, ◌+◌, List, [], ◌∷◌, Option, Some, None, cond, eqb, ltb}

-- The trees wanted after token t, which begins one tree when `others` are wanted behind it: a primitive asks for none, Not for one, And, Or for two.
unfoldable pub wanted : ℕ → ℕ → ℕ
wanted t others = cond (eqb t 0) others (cond (eqb t 3) (suc others) (suc (suc others)))

-- The primitives met after token t, when `met` were met before it.
unfoldable pub met_by : ℕ → ℕ → ℕ
met_by t met = cond (eqb t 0) (met + 1) met

-- What is left of the tokens, how many trees they are to be, and how many primitives were met before them: all primitives, if they are that many trees.
unfoldable pub scan : List ℕ → ℕ → ℕ → Option ℕ
scan [] zero met = Some met
scan [] (suc others) met = None
scan (t ∷ ts) zero met = None
scan (t ∷ ts) (suc others) met = cond (ltb 3 t) None (scan ts (wanted t others) (met_by t met))

-- The tokens are to be one tree: how many primitives it has.
unfoldable pub shape_of : List ℕ → Option ℕ
shape_of ts = scan ts 1 0
