-- What a proof needs of a link: its ethertype and its network header stand near the frame's start. Nothing else asks which links there are.
use Prim.Native.Nat.{ℕ, ◌≤◌}
use native.Mathlib.Omega.{arith}
use Rattle.std.specs.Prelude.{Option, Some, None}
use Rattle.filter.specs.Ast.{link_record, ether_proto_offset, net_offset}
use Rattle.filter.specs.declared.ast.LinkType.{LinkType}
use Rattle.filter.specs.declared.ast.LinkType.TheVariants.{Ethernet, RawIp, LinuxSll}

pub net_low : (link : LinkType) → net_offset link ≤ 16
unfolding net_offset link_record
net_low Ethernet = omega arith
net_low RawIp = omega arith
net_low LinuxSll = omega arith

-- An ethertype, where there is one.
pub data Low : Option ℕ → Type 0 where
  below : {off : ℕ} → off ≤ 16 → Low (Some off)
  absent : Low None

pub ether_low : (link : LinkType) → Low (ether_proto_offset link)
unfolding ether_proto_offset link_record
ether_low Ethernet = below {off = 12} (omega arith)
ether_low RawIp = absent
ether_low LinuxSll = below {off = 14} (omega arith)
