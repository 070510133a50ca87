-- Refusals 11 to 19: "Of 10 to 19 the one the Rust meets first is given", inside a primitive; 0 is none.
use Rattle.std.specs.Prelude.{ℕ, zero, suc, ◌*◌, List, cond, eqb, Option, Some, None}
use Rattle.filter.specs.Ast.{ether_proto_offset, has_macs}
use Rattle.filter.specs.Record.{step_at, decode_at}
use Rattle.checks.specs.Check.{steps_before}
use Rattle.filter.specs.declared.ast.LinkType.{LinkType}
use Rattle.filter.specs.declared.ast.Proto as p
use Rattle.filter.specs.declared.ast.Proto.TheVariants.{Ip, Ip6, Arp, Rarp, Tcp, Udp, Icmp, Icmp6, Igmp, Sctp, Num, Ip6Proto}
use Rattle.filter.specs.declared.ast.ArithOp.{ArithOp}
use Rattle.filter.specs.declared.ast.ArithOp.TheVariants.{Add, Sub, Mul, Div, Mod, And, Or, Xor, Shl, Shr}
use Rattle.filter.specs.declared.ast.CmpRhs.{CmpRhs}
use Rattle.filter.specs.declared.ast.CmpRhs.TheVariants.{Const, Load}
use Rattle.filter.specs.declared.ast.ByteAccess as access
use Rattle.filter.specs.declared.ast.Primitive.{Primitive}
use Rattle.filter.specs.declared.ast.Primitive.TheVariants.{Host, Host6, Port, PortRange, Net, Net6, Proto, EtherHost, EtherProto, EtherMulticast, IpBroadcast, IpMulticast, Ip6Multicast, Vlan, Mpls, PppoeDiscovery, PppoeSession, IpProtoChain, Ip6ProtoChain, Len, Inbound, Outbound, ByteAccess}

-- 11 and 15, "on RawIp": what is refused where the link has no ethertype
abbrev pub etherless : Option ℕ → ℕ → ℕ
etherless (Some off) n = 0
etherless None n = n

unfoldable pub unless_ether : LinkType → ℕ → ℕ
unless_ether link n = etherless (ether_proto_offset link) n

-- "13 and 14 are also given on link 2": what is refused where the link has no MAC addresses
unfoldable pub unless_macs : LinkType → ℕ → ℕ
unless_macs link n = cond (has_macs link) 0 n

-- 11: "ethertype on RawIp other than 0x0800"
unfoldable pub ether_refusal : LinkType → ℕ → ℕ
ether_refusal link et = cond (eqb et 0x0800) 0 (unless_ether link 11)

-- "tcp 6, udp 17, sctp 132: IPv4 or IPv6 (RawIp: IPv4 only). Icmp 1, Igmp 2, Num: IPv4. Icmp6 58, Ip6Proto: IPv6"
unfoldable pub proto_refusal : LinkType → p.Proto → ℕ
proto_refusal link Ip = 0
proto_refusal link Ip6 = ether_refusal link 0x86dd
proto_refusal link Arp = ether_refusal link 0x0806
proto_refusal link Rarp = ether_refusal link 0x8035
proto_refusal link Tcp = 0
proto_refusal link Udp = 0
proto_refusal link Icmp = 0
proto_refusal link Icmp6 = ether_refusal link 0x86dd
proto_refusal link Igmp = 0
proto_refusal link Sctp = 0
proto_refusal link (Num n) = 0
proto_refusal link (Ip6Proto n) = ether_refusal link 0x86dd

-- 12: "ports with p not 0, 5, 6 or 10", on both links
unfoldable pub l4_refusal : p.Proto → ℕ
l4_refusal Ip = 12
l4_refusal Ip6 = 12
l4_refusal Arp = 12
l4_refusal Rarp = 12
l4_refusal Tcp = 0
l4_refusal Udp = 0
l4_refusal Icmp = 12
l4_refusal Icmp6 = 12
l4_refusal Igmp = 12
l4_refusal Sctp = 0
l4_refusal (Num n) = 12
l4_refusal (Ip6Proto n) = 12

unfoldable pub port_refusal : Option p.Proto → ℕ
port_refusal None = 0
port_refusal (Some x) = l4_refusal x

-- 18: "division by 0"; 19: "Mod"
unfoldable pub op_refusal : ArithOp → ℕ → ℕ
op_refusal Add n = 0
op_refusal Sub n = 0
op_refusal Mul n = 0
op_refusal Div n = cond (eqb n 0) 18 0
op_refusal Mod n = 19
op_refusal And n = 0
op_refusal Or n = 0
op_refusal Xor n = 0
op_refusal Shl n = 0
op_refusal Shr n = 0

-- of step j
unfoldable pub step_refusal : List ℕ → ℕ → ℕ
step_refusal steps j = op_refusal (step_at steps (5 * j)).op (step_at steps (5 * j)).operand

-- "first bad step" of n from step j on
unfoldable pub steps_refusal : List ℕ → ℕ → ℕ → ℕ
steps_refusal steps zero j = 0
steps_refusal steps (suc n) j = cond (eqb (step_refusal steps j) 0) (steps_refusal steps n (suc j)) (step_refusal steps j)

-- 17: "comparison with a load", which the Rust looks at before the steps
unfoldable pub rhs_refusal : CmpRhs → ℕ → ℕ
rhs_refusal (Const v) n = n
rhs_refusal (Load l) n = 17

unfoldable pub access_refusal : List ℕ → ℕ → access.ByteAccess → ℕ
access_refusal steps from x = rhs_refusal x.rhs (steps_refusal steps x.steps from)

-- the refusal that a primitive earns, whose steps start at step `from`; "13, 14, 15: EtherHost, EtherMulticast, Mpls on RawIp", "16: Inbound, Outbound"
unfoldable pub refusal : LinkType → List ℕ → ℕ → Primitive → ℕ
refusal link steps from (Host addr dir) = 0
refusal link steps from (Host6 addr dir) = ether_refusal link 0x86dd
refusal link steps from (Port port dir proto) = port_refusal proto
refusal link steps from (PortRange lo hi dir proto) = port_refusal proto
refusal link steps from (Net net dir) = 0
refusal link steps from (Net6 net dir) = ether_refusal link 0x86dd
refusal link steps from (Proto x) = proto_refusal link x
refusal link steps from (EtherHost addr dir) = unless_macs link 13
refusal link steps from (EtherProto et) = ether_refusal link et
refusal link steps from EtherMulticast = unless_macs link 14
refusal link steps from IpBroadcast = 0
refusal link steps from IpMulticast = 0
refusal link steps from Ip6Multicast = ether_refusal link 0x86dd
refusal link steps from (Vlan id) = ether_refusal link 0x8100
refusal link steps from (Mpls label) = unless_ether link 15
refusal link steps from PppoeDiscovery = ether_refusal link 0x8863
refusal link steps from (PppoeSession id) = ether_refusal link 0x8864
refusal link steps from (IpProtoChain n) = 0
refusal link steps from (Ip6ProtoChain n) = ether_refusal link 0x86dd
refusal link steps from (Len op value) = 0
refusal link steps from Inbound = 16
refusal link steps from Outbound = 16
refusal link steps from (ByteAccess x) = access_refusal steps from x

-- of record k, whose steps come after those of the records before it
unfoldable pub refusal_at : LinkType → List ℕ → List ℕ → ℕ → ℕ
refusal_at link steps prims k = refusal link steps (steps_before prims k) (decode_at prims (24 * k))
