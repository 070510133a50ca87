-- In each loop, what is left to write comes to what the whole came to where the loop began.
use Prim.Native.Nat.{ℕ, ◌+◌, ◌*◌}
use mathlib.Core.List.{List}
use Rattle.patches.specs.Code.{Slot}
use Rattle.filter.specs.Ast.{net_offset}
use Rattle.filter.specs.declared.ast.LinkType.{LinkType}
use Rattle.filter.specs.declared.ast.Ipv6Addr.{Ipv6Addr}
use Rattle.codegen.specs.Primitives.{check_net6}
use Rattle.codegen.proofs.Halves.{Inner, Outer}
use Rattle.codegen.proofs.ip6.check_sides.Given as goal

-- The code of a side.
abbrev pub part : ℕ → LinkType → Ipv6Addr → ℕ → ℕ → List Slot
part mode link addr prefix side = check_net6 mode link addr prefix (net_offset link + (8 + 16 * side)) 8 0

abbrev pub invariant-loop-i : goal.invariant-loop-i
invariant-loop-i l = Inner l.fn.code.mode l.fn.code.link l.addr l.prefix l.at l.end l.initial.code l.code l.i

abbrev pub invariant-loop-side : goal.invariant-loop-side
invariant-loop-side l = Outer l.dir (part l.initial.code.mode l.initial.code.link l.addr l.prefix) l.initial.code l.code l.side
