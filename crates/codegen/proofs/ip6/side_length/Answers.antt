-- Six a half, and one for a half that is covered in part.
use Prim.Native.Nat.{ℕ, ◌+◌, ◌*◌, ◌/◌, ◌%◌}
use mathlib.Core.Path.{◌≡◌, sym, ◌∙◌}
use mathlib.Core.Bool.{cond}
use native.Mathlib.Omega.{arith}
use borrow.Author.Tests.{ne_eqb}
use lib.ListN.{length}
use lib.Dec.{eqb}
use Rattle.checks.specs.Length.{clip, net6_side}
use Rattle.filter.specs.declared.ast.LinkType.{LinkType}
use Rattle.filter.specs.declared.ast.Ipv6Addr.{Ipv6Addr}
use Rattle.codegen.specs.Primitives.{check_net6}
use Rattle.codegen.proofs.Sizes.{net6_side_lem}
use Rattle.codegen.proofs.ip6.side_length.Goals as goal

side-is : (prefix q r : ℕ) → q ≡ clip prefix → r ≡ cond (eqb (q % 16) 0) (6 * ((q + 15) / 16)) (6 * ((q + 15) / 16) + 1)
    → (mode : ℕ) (link : LinkType) (addr : Ipv6Addr) (at : ℕ) → length (check_net6 mode link addr prefix at 8 0) ≡ r
unfolding net6_side
side-is prefix q r h e mode link addr at = net6_side_lem mode link (record { addr = addr; prefix_len = prefix }) at ∙ sym (rw h at e)

pub returns-then-bits-eq0 : goal.returns-then-bits-eq0
returns-then-bits-eq0 c = record { by_index = side-is _ _ _ c.clipped-bits.ensures.0 (rw c.if-bits-eq0.true); upper_bound = omega arith }

pub returns-else-bits-eq0 : goal.returns-else-bits-eq0
returns-else-bits-eq0 c = record { by_index = side-is _ _ _ c.clipped-bits.ensures.0 (rw (ne_eqb _ _ c.if-bits-eq0.false)); upper_bound = omega arith }
