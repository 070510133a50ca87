-- No tree's tokens begin another tree's: read from the front, a run of tokens gives at most one tree and one rest.
use Prim.Native.Nat.{ℕ}
use mathlib.Core.Path.{◌≡◌, refl, ap}
use mathlib.Core.List.{List, [], ◌∷◌, ◌++◌, append_assoc, append-nil}
use Rattle.tree.specs.Tree.{Tree, flat, joined, trees_of, tree_of}
use Rattle.tree.specs.Tree.Tree.{leaf, and, or, inv}

-- From the front of the tokens, t can be read in one way only.
abbrev Fixed : Tree → Type 0
Fixed t = (u : Tree) (r s : List ℕ) → flat t ++ r ≡ flat u ++ s → (t ≡ u) × (r ≡ s)

-- Two operands, read one after the other.
both : (a b c d : Tree) (r s : List ℕ) → Fixed a → Fixed b
    → (flat a ++ flat b) ++ r ≡ (flat c ++ flat d) ++ s
    → (a ≡ c) × (b ≡ d) × (r ≡ s)
both a b c d r s first second e =
    let p = first c (flat b ++ r) (flat d ++ s) (simp append_assoc at e) in
    let q = second d r s p.1 in
    (p.0, q.0, q.1)

-- What stands before a tree's rest is that tree: the clauses of (cc, cc) have two first tokens that differ.
pub flat_front : (t u : Tree) (r s : List ℕ) → flat t ++ r ≡ flat u ++ s → (t ≡ u) × (r ≡ s)
unfolding flat
flat_front leaf leaf r s e = (refl, cc)
flat_front (and a b) (and c d) r s e = let p = both a b c d r s (flat_front a) (flat_front b) (cc) in (cc, p.2)
flat_front (or a b) (or c d) r s e = let p = both a b c d r s (flat_front a) (flat_front b) (cc) in (cc, p.2)
flat_front (inv a) (inv c) r s e = let p = flat_front a c r s (cc) in (cc, p.1)
flat_front leaf (and c d) r s e = (cc, cc)
flat_front leaf (or c d) r s e = (cc, cc)
flat_front leaf (inv c) r s e = (cc, cc)
flat_front (and a b) leaf r s e = (cc, cc)
flat_front (and a b) (or c d) r s e = (cc, cc)
flat_front (and a b) (inv c) r s e = (cc, cc)
flat_front (or a b) leaf r s e = (cc, cc)
flat_front (or a b) (and c d) r s e = (cc, cc)
flat_front (or a b) (inv c) r s e = (cc, cc)
flat_front (inv a) leaf r s e = (cc, cc)
flat_front (inv a) (and c d) r s e = (cc, cc)
flat_front (inv a) (or c d) r s e = (cc, cc)

-- Tokens have at most one tree.
pub flat_injective : (t u : Tree) → flat t ≡ flat u → t ≡ u
flat_injective t u e = (flat_front t u [] [] (ap (λ ts. ts ++ []) e)).0

-- A tree's tokens are read back as that tree, and what stands behind them as what it is.
module _ (a b : Tree) (rest : List ℕ) (first : (r : List ℕ) → trees_of (flat a ++ r) ≡ a ∷ trees_of r) (second : (r : List ℕ) → trees_of (flat b ++ r) ≡ b ∷ trees_of r) where
  two_read : (make : Tree → Tree → Tree) → joined make (trees_of ((flat a ++ flat b) ++ rest)) ≡ make a b ∷ trees_of rest
  two_read make = rw (append_assoc (flat a) (flat b) rest, first (flat b ++ rest), second rest)

pub trees_flat : (t : Tree) (rest : List ℕ) → trees_of (flat t ++ rest) ≡ t ∷ trees_of rest
unfolding trees_of flat
trees_flat leaf rest = refl
trees_flat (and a b) rest = two_read a b rest (trees_flat a) (trees_flat b) and
trees_flat (or a b) rest = two_read a b rest (trees_flat a) (trees_flat b) or
trees_flat (inv a) rest = rw (trees_flat a rest)

-- THEOREM: the tree of a tree's tokens is that tree.
pub tree_flat : (t : Tree) → tree_of (flat t) ≡ t
unfolding tree_of
tree_flat t = rw (← append-nil (flat t), trees_flat t [])
