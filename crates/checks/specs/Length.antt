-- L: "6 plus one for each Or and Not plus the Rust's count for each primitive, 0 for one that earns 11 to 19".
-- The Rust's counts, function by function of ebpf_codegen.rs: a guarded load of a byte is 4 instructions, of a half or a word 5; a comparison is 1.
use Rattle.std.specs.Prelude.{ℕ, zero, suc, ◌+◌, ◌*◌, ◌/◌, ◌%◌, List, cond, eqb, ltb, take, Option, Some, None}
use Rattle.filter.specs.Ast.{ether_proto_offset}
use Rattle.filter.specs.Record.{decode_at}
use Rattle.filter.specs.declared.ast.LinkType.{LinkType}
use Rattle.filter.specs.declared.ast.Dir.{Dir}
use Rattle.filter.specs.declared.ast.Dir.TheVariants.{SrcOrDst, Src, Dst, SrcAndDst}
use Rattle.filter.specs.declared.ast.Ipv6Net.{Ipv6Net}
use Rattle.filter.specs.declared.ast.Proto as p
use Rattle.filter.specs.declared.ast.Proto.TheVariants.{Ip, Ip6, Arp, Rarp, Tcp, Udp, Icmp, Icmp6, Igmp, Sctp, Num, Ip6Proto}
use Rattle.filter.specs.declared.ast.CmpOp.{CmpOp}
use Rattle.filter.specs.declared.ast.CmpOp.TheVariants.{Eq, Ne, Lt, Le, Gt, Ge, BitAnd}
use Rattle.filter.specs.declared.ast.AccessSize.{AccessSize}
use Rattle.filter.specs.declared.ast.AccessSize.TheVariants.{Byte, Half, Word}
use Rattle.filter.specs.declared.ast.Layer as l
use Rattle.filter.specs.declared.ast.Layer.TheVariants as layers
use Rattle.filter.specs.declared.ast.ByteAccess as access
use Rattle.filter.specs.declared.ast.Primitive.{Primitive}
use Rattle.filter.specs.declared.ast.Primitive.TheVariants.{Host, Host6, Port, PortRange, Net, Net6, Proto, EtherHost, EtherProto, EtherMulticast, IpBroadcast, IpMulticast, Ip6Multicast, Vlan, Mpls, PppoeDiscovery, PppoeSession, IpProtoChain, Ip6ProtoChain, Len, Inbound, Outbound, ByteAccess}
use Rattle.tree.specs.Tokens.{count, is_jump}
use Rattle.checks.specs.Check.{steps_before}
use Rattle.checks.specs.Refusal.{refusal}

-- one number for a link with an ethertype, another for one without
abbrev pub by_ether : Option ℕ → ℕ → ℕ → ℕ
by_ether (Some off) n m = n
by_ether None n m = m

-- emit_ethertype: a half checked, 5 + 1; "RawIp emits nothing for ethertype 0x0800", and refuses the others
unfoldable pub ethertype_size : LinkType → ℕ
ethertype_size link = by_ether (ether_proto_offset link) 6 0

-- n instructions for a side; for either, some have a JA between the two
unfoldable pub sides : Dir → ℕ → ℕ → ℕ
sides SrcOrDst n between = 2 * n + between
sides Src n between = n
sides Dst n between = n
sides SrcAndDst n between = 2 * n

-- "prefixes above 128 act as 128"
unfoldable pub clip : ℕ → ℕ
clip prefix = cond (ltb prefix 128) prefix 128

-- check_net6: 5 + 1 for each half that starts below the prefix, and an AND for the one that the prefix ends in
unfoldable pub net6_side : Ipv6Net → ℕ
net6_side net =
    let q = clip net.prefix_len in
    cond (eqb (q % 16) 0) (6 * ((q + 15) / 16)) (6 * ((q + 15) / 16) + 1)

-- emit_l4_proto_check: a byte checked, 4 + 1; with no protocol, compared with 6 and 17
unfoldable pub l4_size : Option p.Proto → ℕ
l4_size None = 6
l4_size (Some x) = 5

-- emit_port_prereqs: IPv4's part is the protocol check and 12 more (4 load, 5 to R6, 3 guard); with an ethertype 7 before, and IPv6's part of the check, 5 and a JA
unfoldable pub prereq_size : LinkType → Option p.Proto → ℕ
prereq_size link proto = by_ether (ether_proto_offset link) (2 * l4_size proto + 25) (l4_size proto + 12)

-- emit_dual_l4: 5 + 2, a byte checked (5), a JA, a byte checked (5); without an ethertype the last only
unfoldable pub dual_size : LinkType → ℕ
dual_size link = by_ether (ether_proto_offset link) 18 5

-- emit_proto: ethertypes alone, dual-stack protocols, and emit_ip4_l4 and emit_ip6_l4, which check a byte after the ethertype
unfoldable pub proto_size : LinkType → p.Proto → ℕ
proto_size link Ip = ethertype_size link
proto_size link Ip6 = ethertype_size link
proto_size link Arp = ethertype_size link
proto_size link Rarp = ethertype_size link
proto_size link Tcp = dual_size link
proto_size link Udp = dual_size link
proto_size link Icmp = ethertype_size link + 5
proto_size link Icmp6 = ethertype_size link + 5
proto_size link Igmp = ethertype_size link + 5
proto_size link Sctp = dual_size link
proto_size link (Num n) = ethertype_size link + 5
proto_size link (Ip6Proto n) = ethertype_size link + 5

-- the instructions that a number adds
unfoldable pub id_size : Option ℕ → ℕ → ℕ
id_size None n = 0
id_size (Some id) n = n

-- emit_mpls: a word, a shift, a comparison
unfoldable pub label_size : Option ℕ → ℕ
label_size None = 0
label_size (Some label) = 7

-- emit_cmp: BitAnd is a JSET and a JA
unfoldable pub cmp_size : CmpOp → ℕ
cmp_size Eq = 1
cmp_size Ne = 1
cmp_size Lt = 1
cmp_size Le = 1
cmp_size Gt = 1
cmp_size Ge = 1
cmp_size BitAnd = 2

-- the load itself, and the swap of a half or a word
unfoldable pub swap_size : AccessSize → ℕ
swap_size Byte = 1
swap_size Half = 2
swap_size Word = 2

-- what stands before the load: a guard, 3; emit_trans_byte_access: a byte loaded (4), 5 to R6, a guard (3)
unfoldable pub layer_size : l.Layer → ℕ
layer_size layers.Raw = 3
layer_size layers.Net = 3
layer_size layers.Trans = 12

-- emit_byte_access: one instruction a step
unfoldable pub access_size : access.ByteAccess → ℕ
access_size x = layer_size x.layer + swap_size x.size + x.steps + cmp_size x.op

-- "the Rust's count for each primitive" that it does not refuse
unfoldable pub count_of : LinkType → Primitive → ℕ
count_of link (Host addr dir) = ethertype_size link + sides dir 6 0
count_of link (Host6 addr dir) = ethertype_size link + sides dir 48 1
count_of link (Port port dir proto) = prereq_size link proto + sides dir 3 0
count_of link (PortRange lo hi dir proto) = prereq_size link proto + sides dir 4 1
count_of link (Net net dir) = ethertype_size link + sides dir 7 0
count_of link (Net6 net dir) = ethertype_size link + sides dir (net6_side net) 1
count_of link (Proto x) = proto_size link x
count_of link (EtherHost addr dir) = sides dir 12 1
count_of link (EtherProto et) = ethertype_size link
count_of link EtherMulticast = 6
count_of link IpBroadcast = ethertype_size link + 6
count_of link IpMulticast = ethertype_size link + 7
count_of link Ip6Multicast = ethertype_size link + 5
count_of link (Vlan id) = ethertype_size link + id_size id 7
count_of link (Mpls label) = 7 + label_size label
count_of link PppoeDiscovery = ethertype_size link
count_of link (PppoeSession id) = ethertype_size link + id_size id 6
count_of link (IpProtoChain n) = ethertype_size link + 5
count_of link (Ip6ProtoChain n) = ethertype_size link + 5
count_of link (Len op value) = 2 + cmp_size op
count_of link Inbound = 0
count_of link Outbound = 0
count_of link (ByteAccess x) = access_size x

-- "0 for one that earns 11 to 19"
unfoldable pub size_of : LinkType → List ℕ → ℕ → Primitive → ℕ
size_of link steps from prim = cond (eqb (refusal link steps from prim) 0) (count_of link prim) 0

-- the primitive of record i, whose steps come after those of the records before it
unfoldable pub size_at : LinkType → List ℕ → List ℕ → ℕ → ℕ
size_at link steps prims i = size_of link steps (steps_before prims i) (decode_at prims (24 * i))

-- the first n primitives' shares
unfoldable pub sizes_of : LinkType → List ℕ → List ℕ → ℕ → ℕ
sizes_of link steps prims zero = 0
sizes_of link steps prims (suc i) = sizes_of link steps prims i + size_at link steps prims i

-- L, of b primitives and c tokens: 2 instructions before them and 4 after, "one for each Or and Not"
unfoldable pub program_length : LinkType → List ℕ → List ℕ → List ℕ → ℕ → ℕ → ℕ
program_length link steps prims tokens b c = 6 + count is_jump (take c tokens) + sizes_of link steps prims b
