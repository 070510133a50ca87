-- What each definition comes to, for the proofs of the functions that emit.
use Rattle.std.proofs.Common.{◌≡◌, ℕ, ◌+◌, ◌/◌, ◌%◌, ◌^◌, List, [], ◌∷◌, ◌++◌, append-nil, refl, ne_eqb, length, suc, ◌<◌, ◌≤◌, arith, length-append}
use Rattle.std.specs.Prelude.{Option, Some, None}
use Rattle.std.specs.Int.Bits.{bit_and}
use Rattle.ebpf.specs.Opcode.{ADD, SUB, AND, RSH, MOV, JEQ, JNE, JGT, JLT, JSET}
use Rattle.ebpf.specs.Insn.{alu64_reg, alu64_imm, alu32_imm, jump_always}
use Rattle.patches.specs.Code.{Slot}
use Rattle.patches.specs.Code.Slot.{fixed, success, failure}
use Rattle.pieces.specs.Fragments.{sides, guard, load, end_of, emit_load, emit_steps, transport, fails, skips, succeeds, check, emit_cmp}
use Rattle.pieces.specs.Fragments.{emit_ethertype, emit_ip4_l4, emit_ip6_l4, emit_dual_l4}
use Rattle.filter.specs.Ast.{ether_proto_offset, net_offset}
use Rattle.filter.specs.declared.ast.LinkType.{LinkType}
use Rattle.filter.specs.declared.ast.Dir.{Dir}
use Rattle.filter.specs.declared.ast.Dir.TheVariants.{SrcOrDst, Src, Dst, SrcAndDst}
use Rattle.filter.specs.declared.ast.Proto as protos
use Rattle.filter.specs.declared.ast.Proto.TheVariants.{Ip, Ip6, Arp, Rarp, Tcp, Udp, Icmp, Icmp6, Igmp, Sctp, Num, Ip6Proto}
use Rattle.filter.specs.declared.ast.Ipv6Addr.{Ipv6Addr}
use Rattle.filter.specs.declared.ast.IpNet.{IpNet}
use Rattle.filter.specs.declared.ast.AccessSize.TheVariants.{Byte, Half, Word}
use Rattle.filter.specs.declared.ast.CmpOp.{CmpOp}
use Rattle.filter.specs.declared.ast.Layer.TheVariants as layer
use Rattle.filter.specs.declared.ast.CmpRhs.TheVariants.{Const, Load}
use Rattle.filter.specs.declared.ast.ByteAccess as access
use Rattle.filter.specs.declared.ast.Primitive.TheVariants.{Host, Host6, Port, PortRange, Net, Net6, Proto, EtherHost, EtherProto, EtherMulticast, IpBroadcast, IpMulticast, Ip6Multicast, Vlan, Mpls, PppoeDiscovery, PppoeSession, IpProtoChain, Ip6ProtoChain, Len, Inbound, Outbound, ByteAccess}
use Rattle.codegen.specs.Primitives.{access_at_code, check_addr4, check_mac, check_net6, check_port, check_ports, check_range, check_word_at, emit_byte_access, emit_ether_host, emit_ether_multicast, emit_host4, emit_ip6_multicast, emit_ip_broadcast, emit_ip_multicast, emit_l4_proto_check, emit_len, emit_mpls, emit_net, emit_net6, emit_port, emit_port_prereqs, emit_portrange, emit_pppoe_session, emit_primitive, emit_proto, emit_vlan, l4_number, masked, mirrored, over, prereqs_at, prereqs_v4, prereqs_v6, session_id, steps_and_cmp, vlan_id}
use Rattle.filter.specs.declared.ast.ByteLoad as loads
use Rattle.filter.specs.declared.ast.Ipv6Net as nets6
use Rattle.std.proofs.lemmas.Nat.{and_mask}
use Rattle.ebpf.specs.declared.insn.Insn.{Insn}
use Rattle.patches.specs.declared.Patches.{Patches}
use Rattle.pieces.specs.Fragments.{Leads, settled, lead, led, one_of}
use Rattle.pieces.proofs.Leading.{lead_none, lead_append, lead_length, lead_settled, load_to, settled_length}
use Rattle.codegen.proofs.Sizes.{mac_length, range_length}
use Rattle.pieces.proofs.Laws as pieces

pub word_at_is : (mode : ℕ) (link : LinkType) (masked : List Slot) (k off : ℕ) → check_word_at mode link masked k off ≡ emit_load Word off ++ (masked ++ fails mode JNE k)
unfolding check_word_at
word_at_is mode link masked k off = refl

pub addr4_either : (mode : ℕ) (link : LinkType) (masked : List Slot) (k src dst : ℕ) → check_addr4 mode link masked k src dst SrcOrDst ≡ emit_load Word src ++ (masked ++ (succeeds mode JEQ k ∷ check_word_at mode link masked k dst))
unfolding check_addr4
addr4_either mode link masked k src dst = refl

pub addr4_src : (mode : ℕ) (link : LinkType) (masked : List Slot) (k src dst : ℕ) → check_addr4 mode link masked k src dst Src ≡ check_word_at mode link masked k src
unfolding check_addr4
addr4_src mode link masked k src dst = refl

pub addr4_dst : (mode : ℕ) (link : LinkType) (masked : List Slot) (k src dst : ℕ) → check_addr4 mode link masked k src dst Dst ≡ check_word_at mode link masked k dst
unfolding check_addr4
addr4_dst mode link masked k src dst = refl

pub addr4_both : (mode : ℕ) (link : LinkType) (masked : List Slot) (k src dst : ℕ) → check_addr4 mode link masked k src dst SrcAndDst ≡ check_word_at mode link masked k src ++ check_word_at mode link masked k dst
unfolding check_addr4
addr4_both mode link masked k src dst = refl

pub host4_is : (mode : ℕ) (link : LinkType) (addr : ℕ) (dir : Dir) → emit_host4 mode link addr dir ≡ emit_ethertype mode link 0x0800 ++ check_addr4 mode link (masked None) addr (net_offset link + 12) (net_offset link + 16) dir
unfolding emit_host4
host4_is mode link addr dir = refl

pub net_is : (mode : ℕ) (link : LinkType) (net : IpNet) (dir : Dir) → emit_net mode link net dir ≡ emit_ethertype mode link 0x0800 ++ check_addr4 mode link (masked (Some net.mask)) (bit_and net.addr net.mask) (net_offset link + 12) (net_offset link + 16) dir
unfolding emit_net
net_is mode link net dir = refl

pub net6_is : (mode : ℕ) (link : LinkType) (addr : Ipv6Addr) (prefix : ℕ) (dir : Dir) → emit_net6 mode link addr prefix dir ≡ emit_ethertype mode link 0x86dd ++ sides dir (check_net6 mode link addr prefix (net_offset link + 8) 8 0) (check_net6 mode link addr prefix (net_offset link + 24) 8 0)
unfolding emit_net6
net6_is mode link addr prefix dir = refl

pub l4_any : (mode : ℕ) (link : LinkType) (off : ℕ) → emit_l4_proto_check mode link off None ≡ emit_load Byte off ++ (skips mode JEQ 6 1 ∷ fails mode JNE 17)
unfolding emit_l4_proto_check
l4_any mode link off = refl

pub l4_one : (mode : ℕ) (link : LinkType) (off : ℕ) (x : protos.Proto) → emit_l4_proto_check mode link off (Some x) ≡ check mode Byte off (l4_number mode link x)
unfolding emit_l4_proto_check
l4_one mode link off x = refl

pub v6_is : (mode : ℕ) (link : LinkType) (proto : Option protos.Proto) → prereqs_v6 mode link proto ≡ emit_l4_proto_check mode link (net_offset link + 6) proto ++ (fixed (alu64_reg MOV 6 2) ∷ fixed (alu64_imm ADD 6 (net_offset link + 40)) ∷ guard 6 4)
unfolding prereqs_v6
v6_is mode link proto = refl

pub v4_is : (mode : ℕ) (link : LinkType) (proto : Option protos.Proto) → prereqs_v4 mode link proto ≡ emit_l4_proto_check mode link (net_offset link + 9) proto ++ (transport (net_offset link) ++ guard 6 4)
unfolding prereqs_v4
v4_is mode link proto = refl

pub prereqs_is : (mode : ℕ) (link : LinkType) (proto : Option protos.Proto) (off : ℕ) → ether_proto_offset link ≡ Some off → emit_port_prereqs mode link proto ≡ prereqs_at mode link (Some off) proto
unfolding emit_port_prereqs
prereqs_is mode link proto off h = rw h refl

pub prereqs_bare : (mode : ℕ) (link : LinkType) (proto : Option protos.Proto) → ether_proto_offset link ≡ None → emit_port_prereqs mode link proto ≡ prereqs_v4 mode link proto
unfolding emit_port_prereqs
prereqs_bare mode link proto h = rw h refl

pub port_at_is : (mode : ℕ) (link : LinkType) (off port : ℕ) → check_port mode link off port ≡ load Half 6 off ++ fails mode JNE port
unfolding check_port
port_at_is mode link off port = refl

pub ports_either : (mode : ℕ) (link : LinkType) (port : ℕ) → check_ports mode link port SrcOrDst ≡ load Half 6 0 ++ (succeeds mode JEQ port ∷ check_port mode link 2 port)
unfolding check_ports
ports_either mode link port = refl

pub ports_src : (mode : ℕ) (link : LinkType) (port : ℕ) → check_ports mode link port Src ≡ check_port mode link 0 port
unfolding check_ports
ports_src mode link port = refl

pub ports_dst : (mode : ℕ) (link : LinkType) (port : ℕ) → check_ports mode link port Dst ≡ check_port mode link 2 port
unfolding check_ports
ports_dst mode link port = refl

pub ports_both : (mode : ℕ) (link : LinkType) (port : ℕ) → check_ports mode link port SrcAndDst ≡ check_port mode link 0 port ++ check_port mode link 2 port
unfolding check_ports
ports_both mode link port = refl

pub port_is : (mode : ℕ) (link : LinkType) (port : ℕ) (dir : Dir) (proto : Option protos.Proto) → emit_port mode link port dir proto ≡ emit_port_prereqs mode link proto ++ check_ports mode link port dir
unfolding emit_port
port_is mode link port dir proto = refl

pub range_at_is : (mode : ℕ) (link : LinkType) (off lo hi : ℕ) → check_range mode link off lo hi ≡ load Half 6 off ++ (fails mode JLT lo ++ fails mode JGT hi)
unfolding check_range
range_at_is mode link off lo hi = refl

pub range_is : (mode : ℕ) (link : LinkType) (lo hi : ℕ) (dir : Dir) (proto : Option protos.Proto) → emit_portrange mode link lo hi dir proto ≡ emit_port_prereqs mode link proto ++ sides dir (check_range mode link 0 lo hi) (check_range mode link 2 lo hi)
unfolding emit_portrange
range_is mode link lo hi dir proto = refl

pub mac_at_is : (mode : ℕ) (link : LinkType) (off addr : ℕ) → check_mac mode link off addr ≡ check mode Word off (addr / 65536 % 2 ^ 32) ++ check mode Half (off + 4) (addr % 65536)
unfolding check_mac
mac_at_is mode link off addr = refl

pub ether_multicast_is : (mode : ℕ) (link : LinkType) → emit_ether_multicast mode link ≡ emit_load Byte 0 ++ (skips mode JSET 1 1 ∷ failure (jump_always 0) ∷ [])
unfolding emit_ether_multicast
ether_multicast_is mode link = refl

pub broadcast_is : (mode : ℕ) (link : LinkType) → emit_ip_broadcast mode link ≡ emit_ethertype mode link 0x0800 ++ check mode Word (net_offset link + 16) 0xffffffff
unfolding emit_ip_broadcast
broadcast_is mode link = refl

pub multicast_is : (mode : ℕ) (link : LinkType) → emit_ip_multicast mode link ≡ emit_ethertype mode link 0x0800 ++ (emit_load Word (net_offset link + 16) ++ (fixed (alu32_imm AND 4 0xf0000000) ∷ fails mode JNE 0xe0000000))
unfolding emit_ip_multicast
multicast_is mode link = refl

pub ip6_multicast_is : (mode : ℕ) (link : LinkType) → emit_ip6_multicast mode link ≡ emit_ethertype mode link 0x86dd ++ check mode Byte (net_offset link + 24) 0xff
unfolding emit_ip6_multicast
ip6_multicast_is mode link = refl

pub vlan_is : (mode : ℕ) (link : LinkType) (asked : Option ℕ) (id off : ℕ) → asked ≡ Some id → ether_proto_offset link ≡ Some off → emit_vlan mode link asked ≡ emit_ethertype mode link 0x8100 ++ (emit_load Half (off + 2) ++ (fixed (alu32_imm AND 4 0x0fff) ∷ fails mode JNE id))
unfolding emit_vlan
vlan_is mode link asked id off e h = rw (e, h) refl

pub mpls_is : (mode : ℕ) (link : LinkType) (asked : Option ℕ) (label off : ℕ) → asked ≡ Some label → ether_proto_offset link ≡ Some off → emit_mpls mode link asked ≡ emit_load Half off ++ (skips mode JEQ 0x8847 1 ∷ fails mode JNE 0x8848 ++ (emit_load Word (off + 2) ++ (fixed (alu32_imm RSH 4 12) ∷ fails mode JNE label)))
unfolding emit_mpls
mpls_is mode link asked label off e h = rw (e, h) refl

pub session_is : (mode : ℕ) (link : LinkType) (asked : Option ℕ) (id off : ℕ) → asked ≡ Some id → ether_proto_offset link ≡ Some off → emit_pppoe_session mode link asked ≡ emit_ethertype mode link 0x8864 ++ (emit_load Half (off + 4) ++ fails mode JNE id)
unfolding emit_pppoe_session check
session_is mode link asked id off e h = rw (e, h) refl

pub mpls_bare : (mode : ℕ) (link : LinkType) (label : Option ℕ) → ether_proto_offset link ≡ None → emit_mpls mode link label ≡ []
unfolding emit_mpls
mpls_bare mode link label h = rw h refl

pub len_is : (mode : ℕ) (link : LinkType) (op : CmpOp) (value : ℕ) → emit_len mode link op value ≡ fixed (alu64_reg MOV 4 3) ∷ fixed (alu64_reg SUB 4 2) ∷ emit_cmp mode op value
unfolding emit_len
len_is mode link op value = refl

pub steps_is : (mode : ℕ) (link : LinkType) (steps : List ℕ) (j : ℕ) (x : access.ByteAccess) (k : ℕ) → steps_and_cmp mode link steps j x k ≡ emit_steps steps x.steps j ++ emit_cmp mode x.op k
unfolding steps_and_cmp
steps_is mode link steps j x k = refl

pub raw_is : (mode : ℕ) (link : LinkType) (steps : List ℕ) (j : ℕ) (x : access.ByteAccess) (k : ℕ) → access_at_code mode link steps j layer.Raw x k ≡ emit_load x.size x.offset ++ steps_and_cmp mode link steps j x k
unfolding access_at_code
raw_is mode link steps j x k = refl

pub at_net_is : (mode : ℕ) (link : LinkType) (steps : List ℕ) (j : ℕ) (x : access.ByteAccess) (k : ℕ) → access_at_code mode link steps j layer.Net x k ≡ emit_load x.size (net_offset link + x.offset) ++ steps_and_cmp mode link steps j x k
unfolding access_at_code
at_net_is mode link steps j x k = refl

pub trans_is : (mode : ℕ) (link : LinkType) (steps : List ℕ) (j : ℕ) (x : access.ByteAccess) (k : ℕ) → access_at_code mode link steps j layer.Trans x k ≡ transport (net_offset link) ++ (guard 6 (end_of x.size x.offset) ++ (load x.size 6 x.offset ++ steps_and_cmp mode link steps j x k))
unfolding access_at_code
trans_is mode link steps j x k = refl

pub access_is : (mode : ℕ) (link : LinkType) (steps : List ℕ) (j : ℕ) (x : access.ByteAccess) (k : ℕ) → x.rhs ≡ Const k → emit_byte_access mode link steps j x ≡ access_at_code mode link steps j x.layer x k
unfolding emit_byte_access
access_is mode link steps j x k h = rw h refl

pub access_loads : (mode : ℕ) (link : LinkType) (steps : List ℕ) (j : ℕ) (x : access.ByteAccess) (l : loads.ByteLoad) → x.rhs ≡ Load l → emit_byte_access mode link steps j x ≡ []
unfolding emit_byte_access
access_loads mode link steps j x l h = rw h refl

pub proto_ip : (mode : ℕ) (link : LinkType) → emit_proto mode link Ip ≡ emit_ethertype mode link 0x0800
unfolding emit_proto
proto_ip mode link = refl

pub proto_ip6 : (mode : ℕ) (link : LinkType) → emit_proto mode link Ip6 ≡ emit_ethertype mode link 0x86dd
unfolding emit_proto
proto_ip6 mode link = refl

pub proto_arp : (mode : ℕ) (link : LinkType) → emit_proto mode link Arp ≡ emit_ethertype mode link 0x0806
unfolding emit_proto
proto_arp mode link = refl

pub proto_rarp : (mode : ℕ) (link : LinkType) → emit_proto mode link Rarp ≡ emit_ethertype mode link 0x8035
unfolding emit_proto
proto_rarp mode link = refl

pub proto_tcp : (mode : ℕ) (link : LinkType) → emit_proto mode link Tcp ≡ emit_dual_l4 mode link 6
unfolding emit_proto
proto_tcp mode link = refl

pub proto_udp : (mode : ℕ) (link : LinkType) → emit_proto mode link Udp ≡ emit_dual_l4 mode link 17
unfolding emit_proto
proto_udp mode link = refl

pub proto_icmp : (mode : ℕ) (link : LinkType) → emit_proto mode link Icmp ≡ emit_ip4_l4 mode link 1
unfolding emit_proto
proto_icmp mode link = refl

pub proto_icmp6 : (mode : ℕ) (link : LinkType) → emit_proto mode link Icmp6 ≡ emit_ip6_l4 mode link 58
unfolding emit_proto
proto_icmp6 mode link = refl

pub proto_igmp : (mode : ℕ) (link : LinkType) → emit_proto mode link Igmp ≡ emit_ip4_l4 mode link 2
unfolding emit_proto
proto_igmp mode link = refl

pub proto_sctp : (mode : ℕ) (link : LinkType) → emit_proto mode link Sctp ≡ emit_dual_l4 mode link 132
unfolding emit_proto
proto_sctp mode link = refl

pub proto_num : (mode : ℕ) (link : LinkType) (n : ℕ) → emit_proto mode link (Num n) ≡ emit_ip4_l4 mode link n
unfolding emit_proto
proto_num mode link n = refl

pub proto_ip6proto : (mode : ℕ) (link : LinkType) (n : ℕ) → emit_proto mode link (Ip6Proto n) ≡ emit_ip6_l4 mode link n
unfolding emit_proto
proto_ip6proto mode link n = refl

pub vlan_any : (mode : ℕ) (link : LinkType) → emit_vlan mode link None ≡ emit_ethertype mode link 0x8100
unfolding emit_vlan
vlan_any mode link = go (ether_proto_offset link)
  where
    go : (off : Option ℕ) → emit_ethertype mode link 0x8100 ++ vlan_id mode link off None ≡ emit_ethertype mode link 0x8100
    go None = append-nil (emit_ethertype mode link 0x8100)
    go (Some off) = append-nil (emit_ethertype mode link 0x8100)

pub vlan_bare : (mode : ℕ) (link : LinkType) (id : Option ℕ) → ether_proto_offset link ≡ None → emit_vlan mode link id ≡ emit_ethertype mode link 0x8100
unfolding emit_vlan
vlan_bare mode link id h = rw (h, append-nil (emit_ethertype mode link 0x8100)) refl

pub session_any : (mode : ℕ) (link : LinkType) → emit_pppoe_session mode link None ≡ emit_ethertype mode link 0x8864
unfolding emit_pppoe_session
session_any mode link = go (ether_proto_offset link)
  where
    go : (off : Option ℕ) → emit_ethertype mode link 0x8864 ++ session_id mode link off None ≡ emit_ethertype mode link 0x8864
    go None = append-nil (emit_ethertype mode link 0x8864)
    go (Some off) = append-nil (emit_ethertype mode link 0x8864)

pub session_bare : (mode : ℕ) (link : LinkType) (id : Option ℕ) → ether_proto_offset link ≡ None → emit_pppoe_session mode link id ≡ emit_ethertype mode link 0x8864
unfolding emit_pppoe_session
session_bare mode link id h = rw (h, append-nil (emit_ethertype mode link 0x8864)) refl

pub mpls_any : (mode : ℕ) (link : LinkType) (off : ℕ) → ether_proto_offset link ≡ Some off → emit_mpls mode link None ≡ emit_load Half off ++ (skips mode JEQ 0x8847 1 ∷ fails mode JNE 0x8848)
unfolding emit_mpls
mpls_any mode link off h = rw (h, append-nil (fails mode JNE 0x8848)) refl

pub prim_host : (mode : ℕ) (link : LinkType) (steps : List ℕ) (j : ℕ) (addr : ℕ) (dir : Dir) → emit_primitive mode link steps j (Host addr dir) ≡ emit_host4 mode link addr dir
unfolding emit_primitive
prim_host mode link steps j addr dir = refl

pub prim_host6 : (mode : ℕ) (link : LinkType) (steps : List ℕ) (j : ℕ) (addr : Ipv6Addr) (dir : Dir) → emit_primitive mode link steps j (Host6 addr dir) ≡ emit_net6 mode link addr 128 dir
unfolding emit_primitive
prim_host6 mode link steps j addr dir = refl

pub prim_port : (mode : ℕ) (link : LinkType) (steps : List ℕ) (j : ℕ) (port : ℕ) (dir : Dir) (proto : Option protos.Proto) → emit_primitive mode link steps j (Port port dir proto) ≡ emit_port mode link port dir proto
unfolding emit_primitive
prim_port mode link steps j port dir proto = refl

pub prim_portrange : (mode : ℕ) (link : LinkType) (steps : List ℕ) (j : ℕ) (lo : ℕ) (hi : ℕ) (dir : Dir) (proto : Option protos.Proto) → emit_primitive mode link steps j (PortRange lo hi dir proto) ≡ emit_portrange mode link lo hi dir proto
unfolding emit_primitive
prim_portrange mode link steps j lo hi dir proto = refl

pub prim_net : (mode : ℕ) (link : LinkType) (steps : List ℕ) (j : ℕ) (net : IpNet) (dir : Dir) → emit_primitive mode link steps j (Net net dir) ≡ emit_net mode link net dir
unfolding emit_primitive
prim_net mode link steps j net dir = refl

pub prim_net6 : (mode : ℕ) (link : LinkType) (steps : List ℕ) (j : ℕ) (net6 : nets6.Ipv6Net) (dir : Dir) → emit_primitive mode link steps j (Net6 net6 dir) ≡ emit_net6 mode link net6.addr net6.prefix_len dir
unfolding emit_primitive
prim_net6 mode link steps j net6 dir = refl

pub prim_proto : (mode : ℕ) (link : LinkType) (steps : List ℕ) (j : ℕ) (x : protos.Proto) → emit_primitive mode link steps j (Proto x) ≡ emit_proto mode link x
unfolding emit_primitive
prim_proto mode link steps j x = refl

pub prim_etherhost : (mode : ℕ) (link : LinkType) (steps : List ℕ) (j : ℕ) (addr : ℕ) (dir : Dir) → emit_primitive mode link steps j (EtherHost addr dir) ≡ emit_ether_host mode link addr dir
unfolding emit_primitive
prim_etherhost mode link steps j addr dir = refl

pub prim_etherproto : (mode : ℕ) (link : LinkType) (steps : List ℕ) (j : ℕ) (et : ℕ) → emit_primitive mode link steps j (EtherProto et) ≡ emit_ethertype mode link et
unfolding emit_primitive
prim_etherproto mode link steps j et = refl

pub prim_ethermulticast : (mode : ℕ) (link : LinkType) (steps : List ℕ) (j : ℕ) → emit_primitive mode link steps j EtherMulticast ≡ emit_ether_multicast mode link
unfolding emit_primitive
prim_ethermulticast mode link steps j = refl

pub prim_ipbroadcast : (mode : ℕ) (link : LinkType) (steps : List ℕ) (j : ℕ) → emit_primitive mode link steps j IpBroadcast ≡ emit_ip_broadcast mode link
unfolding emit_primitive
prim_ipbroadcast mode link steps j = refl

pub prim_ipmulticast : (mode : ℕ) (link : LinkType) (steps : List ℕ) (j : ℕ) → emit_primitive mode link steps j IpMulticast ≡ emit_ip_multicast mode link
unfolding emit_primitive
prim_ipmulticast mode link steps j = refl

pub prim_ip6multicast : (mode : ℕ) (link : LinkType) (steps : List ℕ) (j : ℕ) → emit_primitive mode link steps j Ip6Multicast ≡ emit_ip6_multicast mode link
unfolding emit_primitive
prim_ip6multicast mode link steps j = refl

pub prim_vlan : (mode : ℕ) (link : LinkType) (steps : List ℕ) (j : ℕ) (id : Option ℕ) → emit_primitive mode link steps j (Vlan id) ≡ emit_vlan mode link id
unfolding emit_primitive
prim_vlan mode link steps j id = refl

pub prim_mpls : (mode : ℕ) (link : LinkType) (steps : List ℕ) (j : ℕ) (id : Option ℕ) → emit_primitive mode link steps j (Mpls id) ≡ emit_mpls mode link id
unfolding emit_primitive
prim_mpls mode link steps j id = refl

pub prim_pppoediscovery : (mode : ℕ) (link : LinkType) (steps : List ℕ) (j : ℕ) → emit_primitive mode link steps j PppoeDiscovery ≡ emit_ethertype mode link 0x8863
unfolding emit_primitive
prim_pppoediscovery mode link steps j = refl

pub prim_pppoesession : (mode : ℕ) (link : LinkType) (steps : List ℕ) (j : ℕ) (id : Option ℕ) → emit_primitive mode link steps j (PppoeSession id) ≡ emit_pppoe_session mode link id
unfolding emit_primitive
prim_pppoesession mode link steps j id = refl

pub prim_ipprotochain : (mode : ℕ) (link : LinkType) (steps : List ℕ) (j : ℕ) (n : ℕ) → emit_primitive mode link steps j (IpProtoChain n) ≡ emit_ip4_l4 mode link n
unfolding emit_primitive
prim_ipprotochain mode link steps j n = refl

pub prim_ip6protochain : (mode : ℕ) (link : LinkType) (steps : List ℕ) (j : ℕ) (n : ℕ) → emit_primitive mode link steps j (Ip6ProtoChain n) ≡ emit_ip6_l4 mode link n
unfolding emit_primitive
prim_ip6protochain mode link steps j n = refl

pub prim_len : (mode : ℕ) (link : LinkType) (steps : List ℕ) (j : ℕ) (op : CmpOp) (n : ℕ) → emit_primitive mode link steps j (Len op n) ≡ emit_len mode link op n
unfolding emit_primitive
prim_len mode link steps j op n = refl

pub prim_inbound : (mode : ℕ) (link : LinkType) (steps : List ℕ) (j : ℕ) → emit_primitive mode link steps j Inbound ≡ []
unfolding emit_primitive
prim_inbound mode link steps j = refl

pub prim_outbound : (mode : ℕ) (link : LinkType) (steps : List ℕ) (j : ℕ) → emit_primitive mode link steps j Outbound ≡ []
unfolding emit_primitive
prim_outbound mode link steps j = refl

pub prim_byteaccess : (mode : ℕ) (link : LinkType) (steps : List ℕ) (j : ℕ) (access : access.ByteAccess) → emit_primitive mode link steps j (ByteAccess access) ≡ emit_byte_access mode link steps j access
unfolding emit_primitive
prim_byteaccess mode link steps j access = refl

-- What is written first is no longer than the whole.
pub vlan_room : (mode : ℕ) (link : LinkType) (id : Option ℕ) → length (emit_ethertype mode link 0x8100) ≤ length (emit_vlan mode link id)
unfolding emit_vlan
vlan_room mode link id = simp length-append (omega arith)

pub session_room : (mode : ℕ) (link : LinkType) (id : Option ℕ) → length (emit_ethertype mode link 0x8864) ≤ length (emit_pppoe_session mode link id)
unfolding emit_pppoe_session
session_room mode link id = simp length-append (omega arith)

pub mpls_room : (mode : ℕ) (link : LinkType) (off : ℕ) (label : Option ℕ) → ether_proto_offset link ≡ Some off → length (emit_load Half off) + 2 ≤ length (emit_mpls mode link label)
unfolding emit_mpls fails
mpls_room mode link off label h = rw h (simp length-append (omega arith))

-- Failures that lead somewhere.
pub leads_at : (end : ℕ) (xs : List Slot) (st : Patches) → st.pos + length xs < 2 ^ 32 → end ≤ st.pos + 65536 → Leads end xs st
leads_at end xs st h k = record { room = h; near = k }

pub lead_more : (end p : ℕ) (x : Slot) (xs : List Slot) → lead end p (x ∷ xs) ≡ led end p x ∷ lead end (suc p) xs
unfolding lead
lead_more end p x xs = refl

pub lead_end : (end p : ℕ) → lead end p [] ≡ []
unfolding lead
lead_end end p = refl

pub led_fixed : (end p : ℕ) (i : Insn) → led end p (fixed i) ≡ fixed i
unfolding led
led_fixed end p i = refl

pub behind : (end p : ℕ) (xs : List Slot) → end ≡ p + length xs + 1 → lead end p xs ≡ settled 1 xs
behind end p xs h = lead_settled p 1 xs end (omega arith) h

pub either_is : (xs ys : List Slot) → sides SrcOrDst xs ys ≡ settled 1 xs ++ (success (jump_always 0) ∷ ys)
unfolding sides one_of
either_is xs ys = refl

pub src_is : (xs ys : List Slot) → sides Src xs ys ≡ xs
unfolding sides
src_is xs ys = refl

pub dst_is : (xs ys : List Slot) → sides Dst xs ys ≡ ys
unfolding sides
dst_is xs ys = refl

pub both_are : (xs ys : List Slot) → sides SrcAndDst xs ys ≡ xs ++ ys
unfolding sides
both_are xs ys = refl

pub mac_either : (mode : ℕ) (link : LinkType) (addr : ℕ) → emit_ether_host mode link addr SrcOrDst ≡ sides SrcOrDst (check_mac mode link 0 addr) (check_mac mode link 6 addr)
unfolding emit_ether_host mirrored
mac_either mode link addr = refl

pub mac_src : (mode : ℕ) (link : LinkType) (addr : ℕ) → emit_ether_host mode link addr Src ≡ check_mac mode link 6 addr
unfolding emit_ether_host mirrored sides
mac_src mode link addr = refl

pub mac_dst : (mode : ℕ) (link : LinkType) (addr : ℕ) → emit_ether_host mode link addr Dst ≡ check_mac mode link 0 addr
unfolding emit_ether_host mirrored sides
mac_dst mode link addr = refl

pub mac_both : (mode : ℕ) (link : LinkType) (addr : ℕ) → emit_ether_host mode link addr SrcAndDst ≡ check_mac mode link 0 addr ++ check_mac mode link 6 addr
unfolding emit_ether_host mirrored sides
mac_both mode link addr = refl

pub shifted : (n : ℕ) → n / 2 ^ 16 ≡ n / 65536
shifted n = refl

pub low32 : (n : ℕ) → bit_and n 4294967295 ≡ n % 2 ^ 32
low32 n = and_mask n 32

pub raw_when : (mode : ℕ) (link : LinkType) (steps : List ℕ) (j : ℕ) (x : access.ByteAccess) (k : ℕ) → x.rhs ≡ Const k → x.layer ≡ layer.Raw → emit_byte_access mode link steps j x ≡ emit_load x.size x.offset ++ steps_and_cmp mode link steps j x k
unfolding emit_byte_access access_at_code
raw_when mode link steps j x k h e = rw (h, e) refl

pub net_when : (mode : ℕ) (link : LinkType) (steps : List ℕ) (j : ℕ) (x : access.ByteAccess) (k : ℕ) → x.rhs ≡ Const k → x.layer ≡ layer.Net → emit_byte_access mode link steps j x ≡ emit_load x.size (net_offset link + x.offset) ++ steps_and_cmp mode link steps j x k
unfolding emit_byte_access access_at_code
net_when mode link steps j x k h e = rw (h, e) refl

pub no_over : over 0 ≡ []
unfolding over
no_over = refl

pub over_is : (end : ℕ) → (end ≡ 0 → ⊥) → over end ≡ success (jump_always 0) ∷ []
unfolding over
over_is end h = rw (ne_eqb end 0 h) refl

pub ruleset primitives = (
  vlan_room,
  session_room,
  mpls_room,
  no_over,
  over_is,
  word_at_is,
  addr4_either,
  addr4_src,
  addr4_dst,
  addr4_both,
  host4_is,
  net_is,
  net6_is,
  l4_any,
  l4_one,
  v6_is,
  v4_is,
  prereqs_is,
  prereqs_bare,
  port_at_is,
  ports_either,
  ports_src,
  ports_dst,
  ports_both,
  port_is,
  range_at_is,
  range_is,
  mac_at_is,
  ether_multicast_is,
  broadcast_is,
  multicast_is,
  ip6_multicast_is,
  vlan_is,
  mpls_is,
  session_is,
  mpls_bare,
  len_is,
  steps_is,
  raw_is,
  at_net_is,
  trans_is,
  access_is,
  access_loads,
  proto_ip,
  proto_ip6,
  proto_arp,
  proto_rarp,
  proto_tcp,
  proto_udp,
  proto_icmp,
  proto_icmp6,
  proto_igmp,
  proto_sctp,
  proto_num,
  proto_ip6proto,
  prim_host,
  prim_host6,
  prim_port,
  prim_portrange,
  prim_net,
  prim_net6,
  prim_proto,
  prim_etherhost,
  prim_etherproto,
  prim_ethermulticast,
  prim_ipbroadcast,
  prim_ipmulticast,
  prim_ip6multicast,
  prim_vlan,
  prim_mpls,
  prim_pppoediscovery,
  prim_pppoesession,
  prim_ipprotochain,
  prim_ip6protochain,
  prim_len,
  prim_inbound,
  prim_outbound,
  prim_byteaccess,
  vlan_any,
  vlan_bare,
  session_any,
  session_bare,
  mpls_any,
)

pub ruleset laws = (pieces.laws, primitives)

-- For the checks whose failures may lead somewhere, and for the two of them that a direction asks for.
pub ruleset leading = (
  pieces.chains,
  pieces.rooms,
  leads_at,
  lead_none,
  lead_append,
  lead_more,
  lead_end,
  led_fixed,
  load_to,
  lead_length,
  settled_length,
  behind,
  either_is,
  src_is,
  dst_is,
  both_are,
  range_is,
  mac_either,
  mac_src,
  mac_dst,
  mac_both,
  mac_length,
  range_length,
  range_at_is,
  mac_at_is,
  pieces.fails_is,
  pieces.low16,
  low32,
)

pub ruleset tags = (
  pieces.chains,
  pieces.rooms,
  pieces.fails_is,
  pieces.skips_is,
  ether_multicast_is,
  broadcast_is,
  multicast_is,
  ip6_multicast_is,
  vlan_is,
  vlan_any,
  vlan_bare,
  vlan_room,
  session_is,
  session_any,
  session_bare,
  session_room,
  mpls_is,
  mpls_any,
  mpls_bare,
  mpls_room,
)

pub ruleset accesses = (pieces.chains, pieces.rooms, len_is, steps_is, raw_is, at_net_is, trans_is, access_is, access_loads)
