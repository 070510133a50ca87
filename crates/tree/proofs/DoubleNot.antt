-- One double Not more: as many primitives, "two more instructions".
use Prim.Native.Nat.{ℕ, ◌+◌}
use mathlib.Core.Path.{◌≡◌, refl, ap}
use native.Mathlib.Omega.{arith}
use Rattle.tree.specs.Tree.{Tree, leaves, jumps}
use Rattle.tree.specs.Regroup.{Doubled}
use Rattle.tree.specs.Regroup.Doubled.{here, and_left, and_right, or_left, or_right, under_not}

pub doubled_leaves : {t u : Tree} → Doubled t u → leaves t ≡ leaves u
unfolding leaves
doubled_leaves (here a) = refl
doubled_leaves (and_left c d) = ap (λ (n : ℕ). n + leaves c) (doubled_leaves d)
doubled_leaves (and_right c d) = ap (λ (n : ℕ). leaves c + n) (doubled_leaves d)
doubled_leaves (or_left c d) = ap (λ (n : ℕ). n + leaves c) (doubled_leaves d)
doubled_leaves (or_right c d) = ap (λ (n : ℕ). leaves c + n) (doubled_leaves d)
doubled_leaves (under_not d) = doubled_leaves d

-- Each Not has its jump.
pub doubled_jumps : {t u : Tree} → Doubled t u → jumps u ≡ jumps t + 2
unfolding jumps
doubled_jumps (here a) = omega arith
doubled_jumps (and_left c d) = omega (arith, doubled_jumps d)
doubled_jumps (and_right c d) = omega (arith, doubled_jumps d)
doubled_jumps (or_left c d) = omega (arith, doubled_jumps d)
doubled_jumps (or_right c d) = omega (arith, doubled_jumps d)
doubled_jumps (under_not d) = omega (arith, doubled_jumps d)
