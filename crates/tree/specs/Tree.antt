-- Trees as document 01 means them. A tree holds no primitives: they stand beside it in prefix order, and a counter gives each its number.
use Rattle.std.specs.Prelude.{ℕ, suc, ◌+◌, max, List, [], ◌∷◌, ◌++◌, Bool, cond, not, ◌&&◌, ◌||◌, eqb}

-- "0 the next primitive, 1 And, 2 Or, 3 Not": the four forms of a tree.
pub data Tree : Type 0 where
  leaf : Tree
  and or : Tree → Tree → Tree
  inv : Tree → Tree

-- "Tree, 1 byte a token, prefix order: 0 the next primitive, 1 And, 2 Or, 3 Not."
unfoldable pub flat : Tree → List ℕ
flat leaf = 0 ∷ []
flat (and a b) = 1 ∷ (flat a ++ flat b)
flat (or a b) = 2 ∷ (flat a ++ flat b)
flat (inv a) = 3 ∷ flat a

-- Refusal 4, "primitives .. are left over or lacking": how many primitives the tree takes.
unfoldable pub leaves : Tree → ℕ
leaves leaf = 1
leaves (and a b) = leaves a + leaves b
leaves (or a b) = leaves a + leaves b
leaves (inv a) = leaves a

-- Refusal 9, "tree deeper than 256, the root counted".
unfoldable pub depth : Tree → ℕ
depth leaf = 1
depth (and a b) = suc (max (depth a) (depth b))
depth (or a b) = suc (max (depth a) (depth b))
depth (inv a) = suc (depth a)

-- "L is 6 plus one for each Or and Not plus ..": how many Or and Not the tree has.
unfoldable pub jumps : Tree → ℕ
jumps leaf = 0
jumps (and a b) = jumps a + jumps b
jumps (or a b) = suc (jumps a + jumps b)
jumps (inv a) = suc (jumps a)

-- "And, Or, Not as in logic": the value of a tree whose first primitive has number k, when primitive i has the value `verdict i`.
unfoldable pub holds : (ℕ → Bool) → Tree → ℕ → Bool
holds verdict leaf k = verdict k
holds verdict (and a b) k = holds verdict a k && holds verdict b (k + leaves a)
holds verdict (or a b) k = holds verdict a k || holds verdict b (k + leaves a)
holds verdict (inv a) k = not (holds verdict a k)

-- One tree made of the first two, or of the first; where they are lacking, none is made.
abbrev pub joined : (Tree → Tree → Tree) → List Tree → List Tree
joined make [] = []
joined make (a ∷ []) = a ∷ []
joined make (a ∷ b ∷ trees) = make a b ∷ trees

abbrev pub turned : List Tree → List Tree
turned [] = []
turned (a ∷ trees) = inv a ∷ trees

-- The same sentence read back, from the last token on: the trees that a run of tokens begins with.
unfoldable pub trees_of : List ℕ → List Tree
trees_of [] = []
trees_of (t ∷ ts) =
    cond (eqb t 0) (leaf ∷ trees_of ts) (cond (eqb t 1) (joined and (trees_of ts)) (cond (eqb t 2) (joined or (trees_of ts)) (turned (trees_of ts))))

abbrev pub front : List Tree → Tree
front [] = leaf
front (t ∷ trees) = t

-- The tree of tokens that are one whole tree.
unfoldable pub tree_of : List ℕ → Tree
tree_of ts = front (trees_of ts)
