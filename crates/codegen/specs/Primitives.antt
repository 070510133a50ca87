-- The code of each primitive, function by function of ebpf_codegen.rs: host, net, port, MAC, tags, length, byte access.
use Rattle.std.specs.Prelude.{ℕ, zero, suc, ◌+◌, ◌-◌, ◌*◌, ◌/◌, ◌%◌, ◌^◌, List, [], ◌∷◌, ◌++◌, cond, eqb, leb, Option, Some, None}
use Rattle.std.specs.Int.Bits.{bit_and}
use Rattle.ebpf.specs.Opcode.{ADD, SUB, AND, RSH, MOV, JEQ, JNE, JGT, JLT, JSET}
use Rattle.ebpf.specs.Insn.{alu64_reg, alu64_imm, alu32_imm, jump_always}
use Rattle.patches.specs.Code.{Slot}
use Rattle.patches.specs.Code.Slot.{fixed, success, failure}
use Rattle.pieces.specs.Fragments.{past, sides, guard, load, end_of, emit_load, emit_steps, transport, fails, skips, succeeds, check, emit_cmp}
use Rattle.pieces.specs.Fragments.{emit_ethertype, emit_ip4_l4, emit_ip6_l4, emit_dual_l4}
use Rattle.filter.specs.Prefix.{prefix_mask}
use Rattle.filter.specs.Ast.{ether_proto_offset, net_offset, segment_of}
use Rattle.filter.specs.declared.ast.LinkType.{LinkType}
use Rattle.filter.specs.declared.ast.Dir.{Dir}
use Rattle.filter.specs.declared.ast.Dir.TheVariants.{SrcOrDst, Src, Dst, SrcAndDst}
use Rattle.filter.specs.declared.ast.Proto as protos
use Rattle.filter.specs.declared.ast.Proto.TheVariants.{Ip, Ip6, Arp, Rarp, Tcp, Udp, Icmp, Icmp6, Igmp, Sctp, Num, Ip6Proto}
use Rattle.filter.specs.declared.ast.Ipv6Addr.{Ipv6Addr}
use Rattle.filter.specs.declared.ast.IpNet.{IpNet}
use Rattle.filter.specs.declared.ast.AccessSize.TheVariants.{Byte, Half, Word}
use Rattle.filter.specs.declared.ast.CmpOp.{CmpOp}
use Rattle.filter.specs.declared.ast.Layer as layers
use Rattle.filter.specs.declared.ast.Layer.TheVariants as layer
use Rattle.filter.specs.declared.ast.CmpRhs.{CmpRhs}
use Rattle.filter.specs.declared.ast.CmpRhs.TheVariants.{Const, Load}
use Rattle.filter.specs.declared.ast.ByteAccess as access
use Rattle.filter.specs.declared.ast.Primitive.{Primitive}
use Rattle.filter.specs.declared.ast.Primitive.TheVariants.{Host, Host6, Port, PortRange, Net, Net6, Proto, EtherHost, EtherProto, EtherMulticast, IpBroadcast, IpMulticast, Ip6Multicast, Vlan, Mpls, PppoeDiscovery, PppoeSession, IpProtoChain, Ip6ProtoChain, Len, Inbound, Outbound, ByteAccess}

-- Source and destination change places: the Rust's MAC checks begin with the destination.
unfoldable pub mirrored : Dir → Dir
mirrored SrcOrDst = SrcOrDst
mirrored Src = Dst
mirrored Dst = Src
mirrored SrcAndDst = SrcAndDst

-- The chosen addresses, of which the source is 0 and the destination 1: the first one, and the number behind the last.
unfoldable pub first_side : Dir → ℕ
first_side SrcOrDst = 0
first_side Src = 0
first_side Dst = 1
first_side SrcAndDst = 0

unfoldable pub past_sides : Dir → ℕ
past_sides SrcOrDst = 2
past_sides Src = 1
past_sides Dst = 2
past_sides SrcAndDst = 2

-- Where the failures of a side lead that begins at place p and has n instructions: behind its JA, or nowhere yet.
unfoldable pub side_end : Dir → ℕ → ℕ → ℕ → ℕ
side_end SrcOrDst side p n = cond (eqb side 0) (p + n + 1) 0
side_end Src side p n = 0
side_end Dst side p n = 0
side_end SrcAndDst side p n = 0

-- The JA behind a side whose failures lead to end.
unfoldable pub over : ℕ → List Slot
over end = cond (eqb end 0) [] (success (jump_always 0) ∷ [])

-- The word under a mask, if there is one.
abbrev pub masked : Option ℕ → List Slot
masked None = []
masked (Some mask) = fixed (alu32_imm AND 4 mask) ∷ []

module _ (mode : ℕ) (link : LinkType) where
  -- `check_addr4` and its like: one word under a mask (all ones: none), compared with k.
  module _ (masked : List Slot) (k : ℕ) where
    unfoldable pub check_word_at : ℕ → List Slot
    check_word_at off = emit_load Word off ++ (masked ++ fails mode JNE k)

    unfoldable pub check_addr4 : ℕ → ℕ → Dir → List Slot
    check_addr4 src dst SrcOrDst = emit_load Word src ++ (masked ++ (succeeds mode JEQ k ∷ check_word_at dst))
    check_addr4 src dst Src = check_word_at src
    check_addr4 src dst Dst = check_word_at dst
    check_addr4 src dst SrcAndDst = check_word_at src ++ check_word_at dst

  -- `emit_host4`.
  unfoldable pub emit_host4 : ℕ → Dir → List Slot
  emit_host4 addr dir = emit_ethertype mode link 0x0800 ++ check_addr4 [] addr (net_offset link + 12) (net_offset link + 16) dir

  -- `emit_net`.
  unfoldable pub emit_net : IpNet → Dir → List Slot
  emit_net net dir =
      emit_ethertype mode link 0x0800
      ++ check_addr4 (fixed (alu32_imm AND 4 net.mask) ∷ []) (bit_and net.addr net.mask) (net_offset link + 12) (net_offset link + 16) dir

  -- `check_net6`, of one half: the whole half, or the bits that the prefix covers.
  unfoldable pub check_segment : Ipv6Addr → ℕ → ℕ → ℕ → List Slot
  check_segment addr prefix at i =
      emit_load Half (at + 2 * i)
      ++ cond (leb (16 * i + 16) prefix) (fails mode JNE (segment_of addr i))
      (fixed (alu32_imm AND 4 (prefix_mask (prefix - 16 * i))) ∷ fails mode JNE (bit_and (segment_of addr i) (prefix_mask (prefix - 16 * i))))

  -- "The walk over an IPv6 address stops at the first segment that starts at or past the prefix": n halves from half i on.
  unfoldable pub check_net6 : Ipv6Addr → ℕ → ℕ → ℕ → ℕ → List Slot
  check_net6 addr prefix at zero i = []
  check_net6 addr prefix at (suc n) i =
      cond (leb prefix (16 * i)) [] (check_segment addr prefix at i ++ check_net6 addr prefix at n (suc i))

  -- `emit_net6`; `emit_host6` is the same with the whole address.
  unfoldable pub emit_net6 : Ipv6Addr → ℕ → Dir → List Slot
  emit_net6 addr prefix dir =
      emit_ethertype mode link 0x86dd
      ++ sides dir (check_net6 addr prefix (net_offset link + 8) 8 0) (check_net6 addr prefix (net_offset link + 24) 8 0)

  -- `emit_l4_proto_check`: one protocol, or TCP or UDP; the others are refused.
  abbrev pub l4_number : protos.Proto → ℕ
  l4_number Ip = 0
  l4_number Ip6 = 0
  l4_number Arp = 0
  l4_number Rarp = 0
  l4_number Tcp = 6
  l4_number Udp = 17
  l4_number Icmp = 0
  l4_number Icmp6 = 0
  l4_number Igmp = 0
  l4_number Sctp = 132
  l4_number (Num n) = 0
  l4_number (Ip6Proto n) = 0

  unfoldable pub emit_l4_proto_check : ℕ → Option protos.Proto → List Slot
  emit_l4_proto_check off None = emit_load Byte off ++ (skips mode JEQ 6 1 ∷ fails mode JNE 17)
  emit_l4_proto_check off (Some x) = check mode Byte off (l4_number x)

  -- `emit_port_prereqs`: R6 at the transport header, with four bytes there; the two blocks, and the ethertype between them.
  unfoldable pub prereqs_v6 : Option protos.Proto → List Slot
  prereqs_v6 proto =
      emit_l4_proto_check (net_offset link + 6) proto
      ++ (fixed (alu64_reg MOV 6 2) ∷ fixed (alu64_imm ADD 6 (net_offset link + 40)) ∷ guard 6 4)

  unfoldable pub prereqs_v4 : Option protos.Proto → List Slot
  prereqs_v4 proto = emit_l4_proto_check (net_offset link + 9) proto ++ (transport (net_offset link) ++ guard 6 4)

  abbrev pub prereqs_at : Option ℕ → Option protos.Proto → List Slot
  prereqs_at (Some off) proto =
      emit_load Half off
      ++ (skips mode JEQ 0x0800 (suc (past (prereqs_v6 proto) 1)) ∷ fails mode JNE 0x86dd
      ++ (prereqs_v6 proto ++ (fixed (jump_always (past (prereqs_v4 proto) 0)) ∷ prereqs_v4 proto)))
  prereqs_at None proto = prereqs_v4 proto

  unfoldable pub emit_port_prereqs : Option protos.Proto → List Slot
  emit_port_prereqs proto = prereqs_at (ether_proto_offset link) proto

  -- `emit_port`.
  unfoldable pub check_port : ℕ → ℕ → List Slot
  check_port off port = load Half 6 off ++ fails mode JNE port

  unfoldable pub check_ports : ℕ → Dir → List Slot
  check_ports port SrcOrDst = load Half 6 0 ++ (succeeds mode JEQ port ∷ check_port 2 port)
  check_ports port Src = check_port 0 port
  check_ports port Dst = check_port 2 port
  check_ports port SrcAndDst = check_port 0 port ++ check_port 2 port

  unfoldable pub emit_port : ℕ → Dir → Option protos.Proto → List Slot
  emit_port port dir proto = emit_port_prereqs proto ++ check_ports port dir

  -- `emit_portrange`.
  unfoldable pub check_range : ℕ → ℕ → ℕ → List Slot
  check_range off lo hi = load Half 6 off ++ (fails mode JLT lo ++ fails mode JGT hi)

  unfoldable pub emit_portrange : ℕ → ℕ → Dir → Option protos.Proto → List Slot
  emit_portrange lo hi dir proto = emit_port_prereqs proto ++ sides dir (check_range 0 lo hi) (check_range 2 lo hi)

  -- `emit_ether_host`: the first four bytes of an address, then the last two; the destination at 0 comes first.
  unfoldable pub check_mac : ℕ → ℕ → List Slot
  check_mac off addr = check mode Word off (addr / 65536 % 2 ^ 32) ++ check mode Half (off + 4) (addr % 65536)

  unfoldable pub emit_ether_host : ℕ → Dir → List Slot
  emit_ether_host addr dir = sides (mirrored dir) (check_mac 0 addr) (check_mac 6 addr)

  -- `emit_ether_multicast`, `emit_ip_broadcast`, `emit_ip_multicast`, `emit_ip6_multicast`.
  unfoldable pub emit_ether_multicast : List Slot
  emit_ether_multicast = emit_load Byte 0 ++ (skips mode JSET 1 1 ∷ failure (jump_always 0) ∷ [])

  unfoldable pub emit_ip_broadcast : List Slot
  emit_ip_broadcast = emit_ethertype mode link 0x0800 ++ check mode Word (net_offset link + 16) 0xffffffff

  unfoldable pub emit_ip_multicast : List Slot
  emit_ip_multicast =
      emit_ethertype mode link 0x0800
      ++ (emit_load Word (net_offset link + 16) ++ (fixed (alu32_imm AND 4 0xf0000000) ∷ fails mode JNE 0xe0000000))

  unfoldable pub emit_ip6_multicast : List Slot
  emit_ip6_multicast = emit_ethertype mode link 0x86dd ++ check mode Byte (net_offset link + 24) 0xff

  -- `emit_vlan`; the number stands behind an ethertype, and where there is none there is no code.
  abbrev pub vlan_number : ℕ → Option ℕ → List Slot
  vlan_number off None = []
  vlan_number off (Some id) = emit_load Half (off + 2) ++ (fixed (alu32_imm AND 4 0x0fff) ∷ fails mode JNE id)

  abbrev pub vlan_id : Option ℕ → Option ℕ → List Slot
  vlan_id (Some off) id = vlan_number off id
  vlan_id None id = []

  unfoldable pub emit_vlan : Option ℕ → List Slot
  emit_vlan id = emit_ethertype mode link 0x8100 ++ vlan_id (ether_proto_offset link) id

  -- `emit_mpls`.
  abbrev pub mpls_label : ℕ → Option ℕ → List Slot
  mpls_label off None = []
  mpls_label off (Some label) = emit_load Word (off + 2) ++ (fixed (alu32_imm RSH 4 12) ∷ fails mode JNE label)

  abbrev pub mpls_at : Option ℕ → Option ℕ → List Slot
  mpls_at (Some off) label = emit_load Half off ++ (skips mode JEQ 0x8847 1 ∷ fails mode JNE 0x8848 ++ mpls_label off label)
  mpls_at None label = []

  unfoldable pub emit_mpls : Option ℕ → List Slot
  emit_mpls label = mpls_at (ether_proto_offset link) label

  -- `emit_pppoe_session`.
  abbrev pub session_number : ℕ → Option ℕ → List Slot
  session_number off None = []
  session_number off (Some id) = check mode Half (off + 4) id

  abbrev pub session_id : Option ℕ → Option ℕ → List Slot
  session_id (Some off) id = session_number off id
  session_id None id = []

  unfoldable pub emit_pppoe_session : Option ℕ → List Slot
  emit_pppoe_session id = emit_ethertype mode link 0x8864 ++ session_id (ether_proto_offset link) id

  -- `emit_len`.
  unfoldable pub emit_len : CmpOp → ℕ → List Slot
  emit_len op value = fixed (alu64_reg MOV 4 3) ∷ fixed (alu64_reg SUB 4 2) ∷ emit_cmp mode op value

  -- `emit_proto`.
  unfoldable pub emit_proto : protos.Proto → List Slot
  emit_proto Ip = emit_ethertype mode link 0x0800
  emit_proto Ip6 = emit_ethertype mode link 0x86dd
  emit_proto Arp = emit_ethertype mode link 0x0806
  emit_proto Rarp = emit_ethertype mode link 0x8035
  emit_proto Tcp = emit_dual_l4 mode link 6
  emit_proto Udp = emit_dual_l4 mode link 17
  emit_proto Icmp = emit_ip4_l4 mode link 1
  emit_proto Icmp6 = emit_ip6_l4 mode link 58
  emit_proto Igmp = emit_ip4_l4 mode link 2
  emit_proto Sctp = emit_dual_l4 mode link 132
  emit_proto (Num n) = emit_ip4_l4 mode link n
  emit_proto (Ip6Proto n) = emit_ip6_l4 mode link n

  -- `emit_byte_access`, `emit_trans_byte_access`: the load, the steps from step j on, the comparison.
  module _ (steps : List ℕ) (j : ℕ) where
    unfoldable pub steps_and_cmp : access.ByteAccess → ℕ → List Slot
    steps_and_cmp x k = emit_steps steps x.steps j ++ emit_cmp mode x.op k

    unfoldable pub access_at_code : layers.Layer → access.ByteAccess → ℕ → List Slot
    access_at_code layer.Raw x k = emit_load x.size x.offset ++ steps_and_cmp x k
    access_at_code layer.Net x k = emit_load x.size (net_offset link + x.offset) ++ steps_and_cmp x k
    access_at_code layer.Trans x k =
        transport (net_offset link) ++ (guard 6 (end_of x.size x.offset) ++ (load x.size 6 x.offset ++ steps_and_cmp x k))

    abbrev pub access_rhs_code : CmpRhs → access.ByteAccess → List Slot
    access_rhs_code (Const k) x = access_at_code x.layer x k
    access_rhs_code (Load l) x = []

    unfoldable pub emit_byte_access : access.ByteAccess → List Slot
    emit_byte_access x = access_rhs_code x.rhs x

    -- `emit_primitive`, of a primitive that is not refused.
    unfoldable pub emit_primitive : Primitive → List Slot
    emit_primitive (Host addr dir) = emit_host4 addr dir
    emit_primitive (Host6 addr dir) = emit_net6 addr 128 dir
    emit_primitive (Port port dir proto) = emit_port port dir proto
    emit_primitive (PortRange lo hi dir proto) = emit_portrange lo hi dir proto
    emit_primitive (Net net dir) = emit_net net dir
    emit_primitive (Net6 net dir) = emit_net6 net.addr net.prefix_len dir
    emit_primitive (Proto x) = emit_proto x
    emit_primitive (EtherHost addr dir) = emit_ether_host addr dir
    emit_primitive (EtherProto et) = emit_ethertype mode link et
    emit_primitive EtherMulticast = emit_ether_multicast
    emit_primitive IpBroadcast = emit_ip_broadcast
    emit_primitive IpMulticast = emit_ip_multicast
    emit_primitive Ip6Multicast = emit_ip6_multicast
    emit_primitive (Vlan id) = emit_vlan id
    emit_primitive (Mpls label) = emit_mpls label
    emit_primitive PppoeDiscovery = emit_ethertype mode link 0x8863
    emit_primitive (PppoeSession id) = emit_pppoe_session id
    emit_primitive (IpProtoChain n) = emit_ip4_l4 mode link n
    emit_primitive (Ip6ProtoChain n) = emit_ip6_l4 mode link n
    emit_primitive (Len op value) = emit_len op value
    emit_primitive Inbound = []
    emit_primitive Outbound = []
    emit_primitive (ByteAccess x) = emit_byte_access x
