-- The definitions computed: Not (p0 and p1) or p2, and a tower of 255 Nots.
use Prim.Native.Nat.{ℕ, zero, suc}
use mathlib.Core.Path.{◌≡◌, refl}
use mathlib.Core.List.{[], ◌∷◌}
use mathlib.Core.Bool.{true, false}
use lib.Dec.{eqb, ltb}
use Rattle.tree.specs.Tree.{Tree, flat, leaves, depth, jumps, holds, trees_of, tree_of}
use Rattle.tree.specs.Tree.Tree.{leaf, and, or, inv}

abbrev mixed : Tree
mixed = or (inv (and leaf leaf)) leaf

abbrev tower : ℕ → Tree
tower zero = leaf
tower (suc n) = inv (tower n)

pub computed : (flat mixed ≡ 2 ∷ 3 ∷ 1 ∷ 0 ∷ 0 ∷ 0 ∷ [])
    × (tree_of (2 ∷ 3 ∷ 1 ∷ 0 ∷ 0 ∷ 0 ∷ []) ≡ mixed)
    × (leaves mixed ≡ 3)
    × (jumps mixed ≡ 2)
    × (depth mixed ≡ 4)
    × (depth (tower 255) ≡ 256)
    × (holds (λ i. ltb i 2) mixed 0 ≡ false)
    × (holds (λ i. eqb i 2) mixed 0 ≡ true)
    × (holds (λ i. eqb i 1) mixed 0 ≡ true)
unfolding flat leaves depth jumps holds trees_of tree_of
computed = (refl, refl, refl, refl, refl, refl, refl, refl, refl)
