-- What a primitive that comes from a checked sheet satisfies: its numbers are in range, and refusals 5 and 6 do not meet it.
use Rattle.std.specs.Prelude.{ℕ, zero, suc, ◌*◌, ◌^◌, ◌<◌, false, get_or, ◌≡◌, List, Option, Some, None}
use Rattle.checks.specs.Check.{far, big_shift}
use Rattle.filter.specs.First.{any}
use Rattle.filter.specs.Record.{step_at}
use Rattle.filter.specs.declared.ast.LinkType.{LinkType}
use Rattle.filter.specs.declared.ast.Proto as protos
use Rattle.filter.specs.declared.ast.Proto.TheVariants.{Ip, Ip6, Arp, Rarp, Tcp, Udp, Icmp, Icmp6, Igmp, Sctp, Num, Ip6Proto}
use Rattle.filter.specs.declared.ast.Ipv6Addr.{Ipv6Addr}
use Rattle.filter.specs.declared.ast.CmpRhs.{CmpRhs}
use Rattle.filter.specs.declared.ast.CmpRhs.TheVariants.{Const, Load}
use Rattle.filter.specs.declared.ast.Primitive.{Primitive}
use Rattle.filter.specs.declared.ast.Primitive.TheVariants.{Host, Host6, Port, PortRange, Net, Net6, Proto, EtherHost, EtherProto, EtherMulticast, IpBroadcast, IpMulticast, Ip6Multicast, Vlan, Mpls, PppoeDiscovery, PppoeSession, IpProtoChain, Ip6ProtoChain, Len, Inbound, Outbound, ByteAccess}
use Rattle.filter.specs.declared.ast.ArithOp.{ArithOp}
use Rattle.filter.specs.declared.ast.ArithOp.TheVariants.{Add, Sub, Mul, Div, Mod, And, Or, Xor, Shl, Shr}

-- Steps of a byte access that the machine carries out: refusals 6, 18 and 19 leave no others.
abbrev pub FineStep : ArithOp → ℕ → Type 0
FineStep Add k = k < 2 ^ 32
FineStep Sub k = k < 2 ^ 32
FineStep Mul k = k < 2 ^ 32
FineStep Div k = (k < 2 ^ 32) × (k ≡ 0 → ⊥)
FineStep Mod k = ⊥
FineStep And k = k < 2 ^ 32
FineStep Or k = k < 2 ^ 32
FineStep Xor k = k < 2 ^ 32
FineStep Shl k = k < 32
FineStep Shr k = k < 32

-- n of them from step j on.
abbrev pub FineSteps : List ℕ → ℕ → ℕ → Type 0
FineSteps steps zero j = Unit {0}
FineSteps steps (suc n) j = FineStep (step_at steps (5 * j)).op (step_at steps (5 * j)).operand × FineSteps steps n (suc j)

abbrev pub FineProto : protos.Proto → Type 0
FineProto Ip = Unit {0}
FineProto Ip6 = Unit {0}
FineProto Arp = Unit {0}
FineProto Rarp = Unit {0}
FineProto Tcp = Unit {0}
FineProto Udp = Unit {0}
FineProto Icmp = Unit {0}
FineProto Icmp6 = Unit {0}
FineProto Igmp = Unit {0}
FineProto Sctp = Unit {0}
FineProto (Num n) = n < 256
FineProto (Ip6Proto n) = n < 256

abbrev pub FineId : Option ℕ → Type 0
FineId None = Unit {0}
FineId (Some n) = n < 65536

abbrev pub FineLabel : Option ℕ → Type 0
FineLabel None = Unit {0}
FineLabel (Some n) = n < 2 ^ 32

abbrev pub FineAddr6 : Ipv6Addr → Type 0
FineAddr6 addr = (addr.hi < 2 ^ 64) × (addr.lo < 2 ^ 64)

abbrev pub FineRhs : CmpRhs → Type 0
FineRhs (Const k) = k < 2 ^ 32
FineRhs (Load l) = Unit {0}

-- Of a primitive whose steps start at step j: the numbers have the bits that the sheet gives them.
abbrev pub Fine : LinkType → List ℕ → ℕ → Primitive → Type 0
Fine link steps j (Host addr dir) = addr < 2 ^ 32
Fine link steps j (Host6 addr dir) = FineAddr6 addr
Fine link steps j (Port port dir proto) = port < 65536
Fine link steps j (PortRange lo hi dir proto) = (lo < 65536) × (hi < 65536)
Fine link steps j (Net net dir) = (net.addr < 2 ^ 32) × (net.mask < 2 ^ 32)
Fine link steps j (Net6 net dir) = FineAddr6 net.addr
Fine link steps j (Proto x) = FineProto x
Fine link steps j (EtherHost addr dir) = addr < 2 ^ 48
Fine link steps j (EtherProto et) = et < 65536
Fine link steps j EtherMulticast = Unit {0}
Fine link steps j IpBroadcast = Unit {0}
Fine link steps j IpMulticast = Unit {0}
Fine link steps j Ip6Multicast = Unit {0}
Fine link steps j (Vlan id) = FineId id
Fine link steps j (Mpls label) = FineLabel label
Fine link steps j PppoeDiscovery = Unit {0}
Fine link steps j (PppoeSession id) = FineId id
Fine link steps j (IpProtoChain n) = n < 256
Fine link steps j (Ip6ProtoChain n) = n < 256
Fine link steps j (Len op value) = value < 2 ^ 32
Fine link steps j Inbound = Unit {0}
Fine link steps j Outbound = Unit {0}
Fine link steps j (ByteAccess x) =
    (far link x ≡ false) × (any (big_shift steps) x.steps j ≡ false) × ((i : ℕ) → get_or steps i 0 < 256) × FineRhs x.rhs
