-- What each test means: document 01, "What each test means", sentence by sentence. A test that is refused means nothing: what stands here for it is never asked.
use Rattle.std.specs.Prelude.{ℕ, zero, suc, ◌+◌, ◌-◌, ◌*◌, ◌/◌, ◌%◌, ◌^◌, Bool, true, false, cond, not, ◌&&◌, ◌||◌, List, length, ◌==◌, bit_and, bit_or, bit_xor, nat_eq, nat_le, nat_lt, Option, Some, None}
use Rattle.filter.specs.Prefix.{prefix_mask}
use Rattle.filter.specs.Ast.{ether_proto_offset, net_offset, bytes_of, segment_of}
use Rattle.filter.specs.Record.{step_at}
use Rattle.meaning.specs.Frame.{there, number, passes}
use Rattle.filter.specs.declared.ast.LinkType.{LinkType}
use Rattle.filter.specs.declared.ast.Dir.{Dir}
use Rattle.filter.specs.declared.ast.Dir.TheVariants.{SrcOrDst, Src, Dst, SrcAndDst}
use Rattle.filter.specs.declared.ast.Proto as protos
use Rattle.filter.specs.declared.ast.Proto.TheVariants.{Ip, Ip6, Arp, Rarp, Tcp, Udp, Icmp, Icmp6, Igmp, Sctp, Num, Ip6Proto}
use Rattle.filter.specs.declared.ast.Ipv6Addr.{Ipv6Addr}
use Rattle.filter.specs.declared.ast.IpNet.{IpNet}
use Rattle.filter.specs.declared.ast.ArithOp.{ArithOp}
use Rattle.filter.specs.declared.ast.ArithOp.TheVariants.{Add, Sub, Mul, Div, Mod, And, Or, Xor, Shl, Shr}
use Rattle.filter.specs.declared.ast.CmpOp.{CmpOp}
use Rattle.filter.specs.declared.ast.CmpOp.TheVariants.{Eq, Ne, Lt, Le, Gt, Ge, BitAnd}
use Rattle.filter.specs.declared.ast.Layer as layers
use Rattle.filter.specs.declared.ast.Layer.TheVariants as layer
use Rattle.filter.specs.declared.ast.CmpRhs.{CmpRhs}
use Rattle.filter.specs.declared.ast.CmpRhs.TheVariants.{Const, Load}
use Rattle.filter.specs.declared.ast.ByteAccess as access
use Rattle.filter.specs.declared.ast.Primitive.{Primitive}
use Rattle.filter.specs.declared.ast.Primitive.TheVariants.{Host, Host6, Port, PortRange, Net, Net6, Proto, EtherHost, EtherProto, EtherMulticast, IpBroadcast, IpMulticast, Ip6Multicast, Vlan, Mpls, PppoeDiscovery, PppoeSession, IpProtoChain, Ip6ProtoChain, Len, Inbound, Outbound, ByteAccess}

-- "Direction: source, destination, either, both." "Either holds when one side does, though the other's bytes be missing."
unfoldable pub directed : Dir → Bool → Bool → Bool
directed SrcOrDst source destination = source || destination
directed Src source destination = source
directed Dst source destination = destination
directed SrcAndDst source destination = source && destination

-- "add, subtract and multiply modulo 2^32, unsigned division, and, or, xor, shifts". A division by 0, Mod and a shift by 32 or more are refused.
unfoldable pub arith : ArithOp → ℕ → ℕ → ℕ
arith Add v k = (v + k) % 2 ^ 32
arith Sub v k = (v + (2 ^ 32 - k)) % 2 ^ 32
arith Mul v k = v * k % 2 ^ 32
arith Div v k = cond (k == 0) 0 (v / k)
arith Mod v k = v
arith And v k = bit_and v k
arith Or v k = bit_or v k
arith Xor v k = bit_xor v k
arith Shl v k = v * 2 ^ (k % 32) % 2 ^ 32
arith Shr v k = v / 2 ^ (k % 32)

-- "then its steps": n of them from step j on.
unfoldable pub stepped : List ℕ → ℕ → ℕ → ℕ → ℕ
stepped steps zero j v = v
stepped steps (suc n) j v = stepped steps n (suc j) (arith (step_at steps (5 * j)).op v (step_at steps (5 * j)).operand)

-- "then the comparison; BitAnd holds when the common bits are not zero."
unfoldable pub compared : CmpOp → ℕ → ℕ → Bool
compared Eq v k = v == k
compared Ne v k = not (v == k)
compared Lt v k = nat_lt v k
compared Le v k = nat_le v k
compared Gt v k = nat_lt k v
compared Ge v k = nat_le k v
compared BitAnd v k = not (bit_and v k == 0)

-- "prefixes above 128 act as 128": of half i, so many bits lie under the prefix.
unfoldable pub covered : ℕ → ℕ → ℕ
covered prefix i = cond (nat_le (16 * i + 16) prefix) 16 (prefix - 16 * i)

-- The mask of half i: its covered bits are ones, the others zeros.
unfoldable pub half_mask : ℕ → ℕ → ℕ
half_mask prefix i = prefix_mask (covered prefix i)

-- "protocol as given": those that ports are asked with; others are refused.
unfoldable pub given : protos.Proto → ℕ → Bool
given Ip p = false
given Ip6 p = false
given Arp p = false
given Rarp p = false
given Tcp p = 6 == p
given Udp p = 17 == p
given Icmp p = false
given Icmp6 p = false
given Igmp p = false
given Sctp p = 132 == p
given (Num n) p = false
given (Ip6Proto n) p = false

-- "or, with none, 6 or 17".
unfoldable pub l4 : Option protos.Proto → ℕ → Bool
l4 None p = 6 == p || 17 == p
l4 (Some x) p = given x p

module _ (link : LinkType) (f : List ℕ) where
  -- "Ethertype x: the half at 12 is x. On RawIp 0x0800 is true."
  abbrev pub ethertype_at : Option ℕ → ℕ → Bool
  ethertype_at (Some at) x = passes f 2 at (nat_eq x)
  ethertype_at None x = x == 0x0800

  unfoldable pub ethertype : ℕ → Bool
  ethertype x = ethertype_at (ether_proto_offset link) x

  -- "tags relative to the ethertype": the number of n bytes, so many bytes past the ethertype field.
  abbrev pub tagged_at : Option ℕ → ℕ → ℕ → (ℕ → Bool) → Bool
  tagged_at (Some at) n past test = passes f n (at + past) test
  tagged_at None n past test = false

  unfoldable pub tagged : ℕ → ℕ → (ℕ → Bool) → Bool
  tagged n past test = tagged_at (ether_proto_offset link) n past test

  -- "`ip` tests: ethertype 0x0800, then the field." "IPv6: 0x86dd."
  unfoldable pub ip : ℕ → ℕ → (ℕ → Bool) → Bool
  ip n at test = ethertype 0x0800 && passes f n (net_offset link + at) test

  unfoldable pub ip6 : ℕ → ℕ → (ℕ → Bool) → Bool
  ip6 n at test = ethertype 0x86dd && passes f n (net_offset link + at) test

  -- "protocol at net+9", "next header net+6".
  unfoldable pub ip4_proto : ℕ → Bool
  ip4_proto p = ip 1 9 (nat_eq p)

  unfoldable pub ip6_proto : ℕ → Bool
  ip6_proto p = ip6 1 6 (nat_eq p)

  -- "IPv4 or IPv6 (RawIp: IPv4 only)": on RawIp no ethertype is 0x86dd.
  unfoldable pub dual_proto : ℕ → Bool
  dual_proto p = ip4_proto p || ip6_proto p

  -- "Arp 0x0806, Rarp 0x8035." "tcp 6, udp 17, sctp 132 .. Icmp 1, Igmp 2, Num: IPv4. Icmp6 58, Ip6Proto: IPv6."
  unfoldable pub protocol : protos.Proto → Bool
  protocol Ip = ethertype 0x0800
  protocol Ip6 = ethertype 0x86dd
  protocol Arp = ethertype 0x0806
  protocol Rarp = ethertype 0x8035
  protocol Tcp = dual_proto 6
  protocol Udp = dual_proto 17
  protocol Icmp = ip4_proto 1
  protocol Icmp6 = ip6_proto 58
  protocol Igmp = ip4_proto 2
  protocol Sctp = dual_proto 132
  protocol (Num n) = ip4_proto n
  protocol (Ip6Proto n) = ip6_proto n

  -- "source net+12, destination net+16. A net compares under its mask; each address test reads the whole word."
  unfoldable pub address4 : ℕ → ℕ → ℕ → Bool
  address4 mask addr at = passes f 4 (net_offset link + at) (λ w. nat_eq (bit_and w mask) (bit_and addr mask))

  unfoldable pub host4 : ℕ → Dir → Bool
  host4 addr dir = ethertype 0x0800 && directed dir (passes f 4 (net_offset link + 12) (nat_eq addr)) (passes f 4 (net_offset link + 16) (nat_eq addr))

  unfoldable pub net4 : IpNet → Dir → Bool
  net4 net dir = ethertype 0x0800 && directed dir (address4 net.mask net.addr 12) (address4 net.mask net.addr 16)

  -- "a net reading only the halves its prefix enters": n halves from half i on, of the address at a place.
  unfoldable pub halves : Ipv6Addr → ℕ → ℕ → ℕ → ℕ → Bool
  halves addr prefix at zero i = true
  halves addr prefix at (suc n) i =
      cond (nat_le prefix (16 * i)) true
      (passes f 2 (at + 2 * i) (λ h. nat_eq (bit_and h (half_mask prefix i)) (bit_and (segment_of addr i) (half_mask prefix i)))
      && halves addr prefix at n (suc i))

  -- "source net+8, destination net+24".
  unfoldable pub net6 : Ipv6Addr → ℕ → Dir → Bool
  net6 addr prefix dir =
      ethertype 0x86dd && directed dir (halves addr prefix (net_offset link + 8) 8 0) (halves addr prefix (net_offset link + 24) 8 0)

  -- "Transport start: IPv6 net+40; IPv4 net plus four times the low four bits of byte net."
  unfoldable pub start4 : ℕ
  start4 = net_offset link + 4 * (number f 1 (net_offset link) % 16)

  unfoldable pub start6 : ℕ
  start6 = net_offset link + 40

  -- "All four port bytes must be there, even for one port."
  unfoldable pub ports_at : ℕ → Dir → (ℕ → Bool) → Bool
  ports_at at dir test = there f 4 at && directed dir (test (number f 2 at)) (test (number f 2 (at + 2)))

  -- "IPv4 or IPv6 (RawIp: IPv4 only), protocol as given or, with none, 6 or 17."
  unfoldable pub ports : Option protos.Proto → Dir → (ℕ → Bool) → Bool
  ports proto dir test =
      (ip 1 9 (l4 proto) && (there f 1 (net_offset link) && ports_at start4 dir test))
      || (ip6 1 6 (l4 proto) && ports_at start6 dir test)

  -- "MAC: destination 0, source 6; multicast: bit 0 of byte 0."
  unfoldable pub ether_host : ℕ → Dir → Bool
  ether_host addr dir = directed dir (passes f 6 6 (nat_eq addr)) (passes f 6 0 (nat_eq addr))

  -- "Vlan: 0x8100, low 12 bits of the half at 14."
  unfoldable pub vlan : Option ℕ → Bool
  vlan None = ethertype 0x8100
  vlan (Some n) = ethertype 0x8100 && tagged 2 2 (λ h. nat_eq n (h % 4096))

  -- "MPLS: 0x8847 or 0x8848, top 20 bits of the word at 14."
  unfoldable pub mpls : Option ℕ → Bool
  mpls None = ethertype 0x8847 || ethertype 0x8848
  mpls (Some n) = (ethertype 0x8847 || ethertype 0x8848) && tagged 4 2 (λ w. nat_eq n (w / 4096))

  -- "PPPoE session: 0x8864, half at 16".
  unfoldable pub pppoe : Option ℕ → Bool
  pppoe None = ethertype 0x8864
  pppoe (Some n) = ethertype 0x8864 && tagged 2 4 (nat_eq n)

  -- "Byte access: the load, then its steps", from step j of the steps section on; "then the comparison".
  module _ (steps : List ℕ) (j : ℕ) where
    unfoldable pub access_at : access.ByteAccess → ℕ → ℕ → Bool
    access_at x k base = passes f (bytes_of x.size) (base + x.offset) (λ v. compared x.op (stepped steps x.steps j v) k)

    -- "The transport layer starts as IPv4 does, with no protocol test."
    unfoldable pub access_layer : layers.Layer → access.ByteAccess → ℕ → Bool
    access_layer layer.Raw x k = access_at x k 0
    access_layer layer.Net x k = access_at x k (net_offset link)
    access_layer layer.Trans x k = there f 1 (net_offset link) && access_at x k start4

    -- A comparison with a load is refused.
    abbrev pub access_rhs : CmpRhs → access.ByteAccess → Bool
    access_rhs (Const k) x = access_layer x.layer x k
    access_rhs (Load l) x = false

    unfoldable pub byte_access : access.ByteAccess → Bool
    byte_access x = access_rhs x.rhs x

    -- The meaning of a primitive whose steps start at step j.
    unfoldable pub means : Primitive → Bool
    means (Host addr dir) = host4 addr dir
    means (Host6 addr dir) = net6 addr 128 dir
    means (Port port dir proto) = ports proto dir (nat_eq port)
    means (PortRange lo hi dir proto) = ports proto dir (λ x. nat_le lo x && nat_le x hi)
    means (Net net dir) = net4 net dir
    means (Net6 net dir) = net6 net.addr net.prefix_len dir
    means (Proto x) = protocol x
    means (EtherHost addr dir) = ether_host addr dir
    means (EtherProto x) = ethertype x
    means EtherMulticast = passes f 1 0 (λ b. nat_eq (b % 2) 1)
    means IpBroadcast = ip 4 16 (nat_eq 0xffffffff)
    means IpMulticast = ip 4 16 (λ w. nat_eq (w / 2 ^ 28) 14)
    means Ip6Multicast = ip6 1 24 (nat_eq 0xff)
    means (Vlan id) = vlan id
    means (Mpls label) = mpls label
    means PppoeDiscovery = ethertype 0x8863
    means (PppoeSession id) = pppoe id
    means (IpProtoChain p) = ip4_proto p
    means (Ip6ProtoChain p) = ip6_proto p
    means (Len op k) = compared op (length f) k
    means Inbound = false
    means Outbound = false
    means (ByteAccess x) = byte_access x
