-- Laws of the check's definitions.
use Prim.Native.Nat.{ℕ, ◌+◌, ◌≤◌}
use mathlib.Core.Path.{◌≡◌}
use mathlib.Core.List.{List}
use mathlib.Core.Bool.{Bool}
use native.Mathlib.Omega.{arith}
use native.Mathlib.Numerals.{add-one}
use Rattle.filter.specs.Ast.{net_offset}
use Rattle.filter.specs.First.{any}
use Rattle.filter.specs.declared.ast.LinkType.{LinkType}
use Rattle.filter.proofs.Links.{net_low}
use Rattle.checks.specs.Check.{takes, steps_before, big_shift, shift_at}

pub before_more : (prims : List ℕ) (i : ℕ) → steps_before prims (i + 1) ≡ steps_before prims i + takes prims i
unfolding steps_before
before_more prims i = rw (add-one i)

pub net_small : (link : LinkType) {r : ℕ} → r ≡ net_offset link → r ≤ 16
net_small link e = omega (arith, e, net_low link)

-- what the loop over the records computes, where it has counted the steps before record i
pub shift_is : (steps prims : List ℕ) (i : ℕ) {k from : ℕ} {r : Bool} → k ≡ takes prims i → from ≡ steps_before prims i → r ≡ any (big_shift steps) k from
    → shift_at steps prims i ≡ r
unfolding shift_at
shift_is steps prims i ek ef er = rw (← ek, ← ef, er)
