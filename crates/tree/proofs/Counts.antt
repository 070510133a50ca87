-- What is counted over the tokens of a tree is what the tree has.
use Prim.Native.Nat.{ℕ, suc, ◌+◌}
use mathlib.Core.Path.{◌≡◌, refl}
use mathlib.Core.List.{List, [], ◌∷◌, ◌++◌}
use mathlib.Core.Bool.{Bool, true, false, cond}
use native.Mathlib.Omega.{arith}
use Rattle.tree.specs.Tokens.{count, is_primitive, is_jump}
use Rattle.tree.specs.Tree.{Tree, flat, leaves, jumps}
use Rattle.tree.specs.Tree.Tree.{leaf, and, or, inv}

pub count_append : (test : ℕ → Bool) (x y : List ℕ) → count test (x ++ y) ≡ count test x + count test y
unfolding count
count_append test [] y = omega arith
count_append test (t ∷ x) y = one (test t) _ _ _ (count_append test x y)
  where
    one : (b : Bool) (m k n : ℕ) → m ≡ k + n → cond b (suc m) m ≡ cond b (suc k) k + n
    one true m k n e = omega arith
    one false m k n e = e

-- As many 0 tokens as primitives.
pub count_leaves : (t : Tree) → count is_primitive (flat t) ≡ leaves t
unfolding count flat leaves
count_leaves leaf = refl
count_leaves (and a b) = rw (count_append is_primitive (flat a) (flat b), count_leaves a, count_leaves b)
count_leaves (or a b) = rw (count_append is_primitive (flat a) (flat b), count_leaves a, count_leaves b)
count_leaves (inv a) = count_leaves a

-- As many 2 and 3 tokens as Or and Not.
pub count_jumps : (t : Tree) → count is_jump (flat t) ≡ jumps t
unfolding count flat jumps
count_jumps leaf = refl
count_jumps (and a b) = rw (count_append is_jump (flat a) (flat b), count_jumps a, count_jumps b)
count_jumps (or a b) = rw (count_append is_jump (flat a) (flat b), count_jumps a, count_jumps b)
count_jumps (inv a) = rw (count_jumps a)
