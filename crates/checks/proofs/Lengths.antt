-- Laws of L: the loop over the primitives.
use Prim.Native.Nat.{ℕ, ◌+◌, ◌*◌}
use mathlib.Core.Path.{◌≡◌}
use mathlib.Core.List.{List}
use native.Mathlib.Numerals.{add-one}
use Rattle.filter.specs.Record.{decode_at}
use Rattle.filter.specs.declared.ast.LinkType.{LinkType}
use Rattle.filter.specs.declared.ast.Primitive.{Primitive}
use Rattle.checks.specs.Check.{steps_before}
use Rattle.checks.specs.Length.{size_of, size_at, sizes_of}

pub sizes_more : (link : LinkType) (steps prims : List ℕ) (i : ℕ)
    → sizes_of link steps prims (i + 1) ≡ sizes_of link steps prims i + size_at link steps prims i
unfolding sizes_of
sizes_more link steps prims i = rw (add-one i)

-- what the loop adds for record i, where it has counted the steps before it
pub size_is : (link : LinkType) (steps prims : List ℕ) (i : ℕ) {from r : ℕ} {prim : Primitive}
    → from ≡ steps_before prims i → prim ≡ decode_at prims (24 * i) → r ≡ size_of link steps from prim → r ≡ size_at link steps prims i
unfolding size_at
size_is link steps prims i ef ep er = rw (← ef, ← ep, er)
