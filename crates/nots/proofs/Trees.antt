-- Turning a tree: what it keeps, where the Nots stand, and that a second time changes nothing.
use Prim.Native.Nat.{ℕ, suc, ◌+◌, ◌*◌, ◌≤◌}
use mathlib.Core.Path.{◌≡◌, refl, ◌∙◌}
use mathlib.Core.List.{◌++◌}
use mathlib.Core.Bool.{Bool, true, false, not, ◌&&◌, ◌||◌}
use native.Mathlib.Omega.{arith}
use lib.ListN.{length, length-append}
use Rattle.tree.specs.Tree.{Tree, flat, leaves, depth, holds}
use Rattle.tree.specs.Tree.Tree.{leaf, and, or, inv}
use Rattle.nots.specs.Nots.{wanted_part, denied_part, low_nots}

-- "the same primitives in the same order": as many, in prefix order.
mutual
  unfolding wanted_part leaves

  pub wanted_leaves : (t : Tree) → leaves (wanted_part t) ≡ leaves t
  wanted_leaves leaf = refl
  wanted_leaves (and a b) = rw (wanted_leaves a, wanted_leaves b)
  wanted_leaves (or a b) = rw (wanted_leaves a, wanted_leaves b)
  wanted_leaves (inv a) = denied_leaves a

  pub denied_leaves : (t : Tree) → leaves (denied_part t) ≡ leaves t
  denied_leaves leaf = refl
  denied_leaves (and a b) = rw (denied_leaves a, denied_leaves b)
  denied_leaves (or a b) = rw (denied_leaves a, denied_leaves b)
  denied_leaves (inv a) = wanted_leaves a

-- THEOREM: "every Not of the new tree has a primitive below it".
both_low : (x y : Bool) → x ≡ true → y ≡ true → x && y ≡ true
both_low x y p q = rw (p, q)

mutual
  unfolding wanted_part low_nots

  pub wanted_low : (t : Tree) → low_nots (wanted_part t) ≡ true
  wanted_low leaf = refl
  wanted_low (and a b) = both_low _ _ (wanted_low a) (wanted_low b)
  wanted_low (or a b) = both_low _ _ (wanted_low a) (wanted_low b)
  wanted_low (inv a) = denied_low a

  pub denied_low : (t : Tree) → low_nots (denied_part t) ≡ true
  denied_low leaf = refl
  denied_low (and a b) = both_low _ _ (denied_low a) (denied_low b)
  denied_low (or a b) = both_low _ _ (denied_low a) (denied_low b)
  denied_low (inv a) = wanted_low a

-- "doing it twice changes nothing".
mutual
  unfolding wanted_part

  pub wanted_twice : (t : Tree) → wanted_part (wanted_part t) ≡ wanted_part t
  wanted_twice leaf = refl
  wanted_twice (and a b) = rw (wanted_twice a, wanted_twice b)
  wanted_twice (or a b) = rw (wanted_twice a, wanted_twice b)
  wanted_twice (inv a) = denied_twice a

  pub denied_twice : (t : Tree) → wanted_part (denied_part t) ≡ denied_part t
  denied_twice leaf = refl
  denied_twice (and a b) = rw (denied_twice a, denied_twice b)
  denied_twice (or a b) = rw (denied_twice a, denied_twice b)
  denied_twice (inv a) = wanted_twice a

-- The new tree is never deeper; under a Not that was taken away a part may be one level deeper.
mutual
  unfolding wanted_part depth

  pub wanted_depth : (t : Tree) → depth (wanted_part t) ≤ depth t
  wanted_depth leaf = omega arith
  wanted_depth (and a b) = omega (arith, wanted_depth a, wanted_depth b)
  wanted_depth (or a b) = omega (arith, wanted_depth a, wanted_depth b)
  wanted_depth (inv a) = denied_depth a

  pub denied_depth : (t : Tree) → depth (denied_part t) ≤ suc (depth t)
  denied_depth leaf = omega arith
  denied_depth (and a b) = omega (arith, denied_depth a, denied_depth b)
  denied_depth (or a b) = omega (arith, denied_depth a, denied_depth b)
  denied_depth (inv a) = omega (arith, wanted_depth a)

-- At most twice as many tokens.
two : (a b : Tree) → length (flat a ++ flat b) ≡ length (flat a) + length (flat b)
two a b = length-append (flat a) (flat b)

mutual
  unfolding wanted_part flat

  pub wanted_size : (t : Tree) → length (flat (wanted_part t)) ≤ 2 * length (flat t)
  wanted_size leaf = omega arith
  wanted_size (and a b) = omega (arith, two a b, two (wanted_part a) (wanted_part b), wanted_size a, wanted_size b)
  wanted_size (or a b) = omega (arith, two a b, two (wanted_part a) (wanted_part b), wanted_size a, wanted_size b)
  wanted_size (inv a) = omega (arith, denied_size a)

  pub denied_size : (t : Tree) → length (flat (denied_part t)) ≤ 2 * length (flat t)
  denied_size leaf = omega arith
  denied_size (and a b) = omega (arith, two a b, two (denied_part a) (denied_part b), denied_size a, denied_size b)
  denied_size (or a b) = omega (arith, two a b, two (denied_part a) (denied_part b), denied_size a, denied_size b)
  denied_size (inv a) = omega (arith, wanted_size a)

-- De Morgan: a wanted part holds as the old one does, a denied part where it does not.
neither : (x y : Bool) → not x || not y ≡ not (x && y)
neither true y = refl
neither false y = refl

nor : (x y : Bool) → not x && not y ≡ not (x || y)
nor true y = refl
nor false y = refl

twice : (x : Bool) → x ≡ not (not x)
twice true = refl
twice false = refl

module _ (verdict : ℕ → Bool) where
  mutual
    unfolding wanted_part holds

    pub wanted_holds : (t : Tree) (k : ℕ) → holds verdict (wanted_part t) k ≡ holds verdict t k
    wanted_holds leaf k = refl
    wanted_holds (and a b) k = rw (wanted_leaves a, wanted_holds a k, wanted_holds b (k + leaves a))
    wanted_holds (or a b) k = rw (wanted_leaves a, wanted_holds a k, wanted_holds b (k + leaves a))
    wanted_holds (inv a) k = denied_holds a k

    pub denied_holds : (t : Tree) (k : ℕ) → holds verdict (denied_part t) k ≡ not (holds verdict t k)
    denied_holds leaf k = refl
    denied_holds (and a b) k =
        rw (denied_leaves a, denied_holds a k, denied_holds b (k + leaves a)) (neither (holds verdict a k) (holds verdict b (k + leaves a)))
    denied_holds (or a b) k =
        rw (denied_leaves a, denied_holds a k, denied_holds b (k + leaves a)) (nor (holds verdict a k) (holds verdict b (k + leaves a)))
    denied_holds (inv a) k = wanted_holds a k ∙ twice (holds verdict a k)
