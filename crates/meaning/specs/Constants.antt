-- "Comparison constant: a number compared for equality or order, the fixed ones of IpBroadcast and IpMulticast, and a MAC's first four bytes
-- included; a net's is the address with the mask applied. BitAnd has none." Plain mode's promise is for trees whose constants are all below 2^31.
use Rattle.std.specs.Prelude.{ℕ, ◌/◌, ◌^◌, Bool, true, bit_and, nat_lt, Option, Some, None}
use Rattle.filter.specs.declared.ast.CmpOp.{CmpOp}
use Rattle.filter.specs.declared.ast.CmpOp.TheVariants.{Eq, Ne, Lt, Le, Gt, Ge, BitAnd}
use Rattle.filter.specs.declared.ast.CmpRhs.{CmpRhs}
use Rattle.filter.specs.declared.ast.CmpRhs.TheVariants.{Const, Load}
use Rattle.filter.specs.declared.ast.Primitive.{Primitive}
use Rattle.filter.specs.declared.ast.Primitive.TheVariants.{Host, Host6, Port, PortRange, Net, Net6, Proto, EtherHost, EtherProto, EtherMulticast, IpBroadcast, IpMulticast, Ip6Multicast, Vlan, Mpls, PppoeDiscovery, PppoeSession, IpProtoChain, Ip6ProtoChain, Len, Inbound, Outbound, ByteAccess}

abbrev pub small : ℕ → Bool
small k = nat_lt k (2 ^ 31)

-- A comparison's constant; "BitAnd has none".
unfoldable pub small_compared : CmpOp → ℕ → Bool
small_compared Eq k = small k
small_compared Ne k = small k
small_compared Lt k = small k
small_compared Le k = small k
small_compared Gt k = small k
small_compared Ge k = small k
small_compared BitAnd k = true

abbrev pub small_rhs : CmpOp → CmpRhs → Bool
small_rhs op (Const k) = small_compared op k
small_rhs op (Load l) = true

abbrev pub small_label : Option ℕ → Bool
small_label None = true
small_label (Some n) = small n

-- Every comparison constant of a primitive is below 2^31: those that are bytes, halves or fixed small numbers always are.
unfoldable pub small_constants : Primitive → Bool
small_constants (Host addr dir) = small addr
small_constants (Host6 addr dir) = true
small_constants (Port port dir proto) = true
small_constants (PortRange lo hi dir proto) = true
small_constants (Net net dir) = small (bit_and net.addr net.mask)
small_constants (Net6 net dir) = true
small_constants (Proto x) = true
small_constants (EtherHost addr dir) = small (addr / 65536)
small_constants (EtherProto x) = true
small_constants EtherMulticast = true
small_constants IpBroadcast = small 0xffffffff
small_constants IpMulticast = small 0xe0000000
small_constants Ip6Multicast = true
small_constants (Vlan id) = true
small_constants (Mpls label) = small_label label
small_constants PppoeDiscovery = true
small_constants (PppoeSession id) = true
small_constants (IpProtoChain p) = true
small_constants (Ip6ProtoChain p) = true
small_constants (Len op k) = small_compared op k
small_constants Inbound = true
small_constants Outbound = true
small_constants (ByteAccess x) = small_rhs x.op x.rhs
