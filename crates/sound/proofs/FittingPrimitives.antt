-- THEOREM: the code of every fine primitive fits: its immediates have 32 bits, and the distances that are set inside it count forward.
use Prim.Native.Nat.{ℕ, zero, suc, ◌+◌, ◌-◌, ◌*◌, ◌/◌, ◌%◌, ◌^◌, ◌<◌, ◌≤◌}
use mathlib.Core.Bool.{Bool, true, false, cond}
use mathlib.Core.List.{List, [], ◌∷◌, ◌++◌}
use native.Mathlib.Omega.{arith}
use lib.Dec.{leb}
use lib.ListN.{get_or}
use lib.Bits.{bit_and, and_le_l}
use Rattle.std.specs.Prelude.{Option, Some, None}
use Rattle.ebpf.specs.Opcode.{JNE, AND, LSH, RSH}
use Rattle.ebpf.specs.Insn.{alu32_imm}
use Rattle.patches.specs.Code.{Slot}
use Rattle.patches.specs.Code.Slot.{fixed}
use Rattle.pieces.specs.Fragments.{past, sides, guard, load, end_of, emit_load, alu32_of, emit_steps, transport, fails, skips, succeeds, check, emit_cmp}
use Rattle.pieces.specs.Fragments.{ethertype_at_code, emit_ethertype, emit_ip4_l4, emit_ip6_l4, dual_at, emit_dual_l4}
use Rattle.filter.specs.Prefix.{prefix_mask}
use Rattle.filter.proofs.Masks.{mask_low}
use Rattle.codegen.specs.Primitives.{check_word_at, check_addr4, emit_host4, emit_net, check_segment, check_net6, emit_net6, l4_number}
use Rattle.codegen.specs.Primitives.{emit_l4_proto_check, prereqs_v6, prereqs_v4, prereqs_at, emit_port_prereqs, check_port, check_ports, emit_port, check_range, emit_portrange}
use Rattle.codegen.specs.Primitives.{check_mac, mirrored, emit_ether_host, emit_ether_multicast, emit_ip_broadcast, emit_ip_multicast, emit_ip6_multicast}
use Rattle.codegen.specs.Primitives.{vlan_id, emit_vlan, mpls_at, emit_mpls, session_id, emit_pppoe_session, emit_len, emit_proto, steps_and_cmp, access_at_code, access_rhs_code, emit_byte_access, emit_primitive}
use Rattle.filter.specs.Ast.{ether_proto_offset, net_offset, segment_of}
use Rattle.filter.specs.Record.{step_at}
use Rattle.filter.specs.declared.ast.LinkType.{LinkType}
use Rattle.filter.specs.declared.ast.AccessSize.{AccessSize}
use Rattle.filter.specs.declared.ast.AccessSize.TheVariants.{Byte, Half, Word}
use Rattle.filter.specs.declared.ast.Dir.{Dir}
use Rattle.filter.specs.declared.ast.Dir.TheVariants.{SrcOrDst, Src, Dst, SrcAndDst}
use Rattle.filter.specs.declared.ast.Proto as protos
use Rattle.filter.specs.declared.ast.Proto.TheVariants.{Ip, Ip6, Arp, Rarp, Tcp, Udp, Icmp, Icmp6, Igmp, Sctp, Num, Ip6Proto}
use Rattle.filter.specs.declared.ast.Ipv6Addr.{Ipv6Addr}
use Rattle.filter.specs.declared.ast.CmpOp.{CmpOp}
use Rattle.filter.specs.declared.ast.CmpOp.TheVariants.{Eq, Ne, Lt, Le, Gt, Ge, BitAnd}
use Rattle.filter.specs.declared.ast.Layer as layers
use Rattle.filter.specs.declared.ast.Layer.TheVariants as layer
use Rattle.filter.specs.declared.ast.CmpRhs.{CmpRhs}
use Rattle.filter.specs.declared.ast.CmpRhs.TheVariants.{Const, Load}
use Rattle.filter.specs.declared.ast.ByteAccess as access
use Rattle.filter.specs.declared.ast.Primitive.{Primitive}
use Rattle.filter.specs.declared.ast.Primitive.TheVariants.{Host, Host6, Port, PortRange, Net, Net6, Proto, EtherHost, EtherProto, EtherMulticast, IpBroadcast, IpMulticast, Ip6Multicast, Vlan, Mpls, PppoeDiscovery, PppoeSession, IpProtoChain, Ip6ProtoChain, Len, Inbound, Outbound, ByteAccess}
use Rattle.checks.specs.Check.{base_of}
use Rattle.sound.specs.Fine.{FineProto, FineId, FineLabel, FineRhs, Fine}
use Rattle.sound.specs.Fitting.{FitSlots, no_slots}
use Rattle.sound.proofs.Filled.{past_append}
use Rattle.filter.proofs.Links.{Low, net_low, ether_low}
use Rattle.filter.proofs.Links.Low.{below, absent}
use Rattle.sound.proofs.Nets6.{half_low}
use Rattle.sound.proofs.Accesses.{operand_low, near_offset}
use Rattle.sound.proofs.Fitting.{fixed_fits, success_fits, failure_fits, append_fits, one_of_fits, short_near}

-- The end of a number in the frame has 32 bits.
end_low : (size : AccessSize) (off : ℕ) → end_of size off < 2 ^ 32
unfolding end_of
end_low size off = omega arith

guard_fits : (base n : ℕ) → n < 2 ^ 32 → FitSlots (guard base n)
unfolding guard
guard_fits base n m =
    fixed_fits _ _ _ _ _ (omega arith) (omega arith) (fixed_fits _ _ _ _ _ (omega arith) m (failure_fits _ _ _ _ _ (omega arith) no_slots))

load_fits : (size : AccessSize) (base off : ℕ) → off < 2 ^ 15 → FitSlots (load size base off)
unfolding load
load_fits Byte base off l = fixed_fits _ _ _ _ _ (omega arith) (omega arith) no_slots
load_fits Half base off l = fixed_fits _ _ _ _ _ (omega arith) (omega arith) (fixed_fits _ _ _ _ _ (omega arith) (omega arith) no_slots)
load_fits Word base off l = fixed_fits _ _ _ _ _ (omega arith) (omega arith) (fixed_fits _ _ _ _ _ (omega arith) (omega arith) no_slots)

emit_load_fits : (size : AccessSize) (off : ℕ) → off < 2 ^ 15 → FitSlots (emit_load size off)
unfolding emit_load
emit_load_fits size off l = append_fits (guard_fits 2 (end_of size off) (end_low size off)) (load_fits size 2 off l)

module _ (mode : ℕ) where
  fails_fits : (operation k : ℕ) → k < 2 ^ 32 → FitSlots (fails mode operation k)
  unfolding fails
  fails_fits operation k l = failure_fits _ _ _ _ _ l no_slots

  skips_fits : {xs : List Slot} (operation k d : ℕ) → k < 2 ^ 32 → d < 2 ^ 15 → FitSlots xs → FitSlots (skips mode operation k d ∷ xs)
  unfolding skips
  skips_fits operation k d l m fs = fixed_fits _ _ _ _ _ m l fs

  succeeds_fits : {xs : List Slot} (operation k : ℕ) → k < 2 ^ 32 → FitSlots xs → FitSlots (succeeds mode operation k ∷ xs)
  unfolding succeeds
  succeeds_fits operation k l fs = success_fits _ _ _ _ _ l fs

  check_fits : (size : AccessSize) (off k : ℕ) → off < 2 ^ 15 → k < 2 ^ 32 → FitSlots (check mode size off k)
  unfolding check
  check_fits size off k m l = append_fits (emit_load_fits size off m) (fails_fits JNE k l)

  cmp_fits : (op : CmpOp) (k : ℕ) → k < 2 ^ 32 → FitSlots (emit_cmp mode op k)
  unfolding emit_cmp
  cmp_fits Eq k l = fails_fits _ k l
  cmp_fits Ne k l = fails_fits _ k l
  cmp_fits Gt k l = fails_fits _ k l
  cmp_fits Ge k l = fails_fits _ k l
  cmp_fits Lt k l = fails_fits _ k l
  cmp_fits Le k l = fails_fits _ k l
  cmp_fits BitAnd k l = skips_fits _ k 1 l (omega arith) (failure_fits _ _ _ _ _ (omega arith) no_slots)

  ethertype_fits : (link : LinkType) (et : ℕ) → et < 65536 → FitSlots (emit_ethertype mode link et)
  unfolding emit_ethertype
  ethertype_fits link et l = go (ether_proto_offset link) (ether_low link)
    where
      go : (e : Option ℕ) → Low e → FitSlots (ethertype_at_code mode e et)
      go (Some off) (below h) = check_fits Half off et (omega arith) (omega arith)
      go None absent = no_slots

  ip4_fits : (link : LinkType) (n : ℕ) → n < 256 → FitSlots (emit_ip4_l4 mode link n)
  unfolding emit_ip4_l4
  ip4_fits link n l =
      let near = net_low link in append_fits (ethertype_fits link 0x0800 (omega arith)) (check_fits Byte (net_offset link + 9) n (omega arith) (omega arith))

  ip6_fits : (link : LinkType) (n : ℕ) → n < 256 → FitSlots (emit_ip6_l4 mode link n)
  unfolding emit_ip6_l4
  ip6_fits link n l =
      let near = net_low link in append_fits (ethertype_fits link 0x86dd (omega arith)) (check_fits Byte (net_offset link + 6) n (omega arith) (omega arith))

  dual_fits : (link : LinkType) (n : ℕ) → n < 256 → FitSlots (emit_dual_l4 mode link n)
  unfolding emit_dual_l4
  dual_fits link n l = go (ether_proto_offset link) (ether_low link)
    where
      go : (e : Option ℕ) → Low e → FitSlots (dual_at mode e link n)
      go (Some off) (below h) =
          let near = net_low link in
          append_fits (emit_load_fits Half off (omega arith)) (append_fits (skips_fits _ 0x0800 7 (omega arith) (omega arith) (fails_fits _ 0x86dd (omega arith)))
          (append_fits (check_fits Byte (net_offset link + 6) n (omega arith) (omega arith))
          (fixed_fits _ _ _ _ _ (omega arith) (omega arith) (check_fits Byte (net_offset link + 9) n (omega arith) (omega arith)))))
      go None absent = ip4_fits link n l

  proto_fits : (link : LinkType) (x : protos.Proto) → FineProto x → FitSlots (emit_proto mode link x)
  unfolding emit_proto
  proto_fits link Ip f = ethertype_fits link _ (omega arith)
  proto_fits link Ip6 f = ethertype_fits link _ (omega arith)
  proto_fits link Arp f = ethertype_fits link _ (omega arith)
  proto_fits link Rarp f = ethertype_fits link _ (omega arith)
  proto_fits link Tcp f = dual_fits link _ (omega arith)
  proto_fits link Udp f = dual_fits link _ (omega arith)
  proto_fits link Icmp f = ip4_fits link _ (omega arith)
  proto_fits link Icmp6 f = ip6_fits link _ (omega arith)
  proto_fits link Igmp f = ip4_fits link _ (omega arith)
  proto_fits link Sctp f = dual_fits link _ (omega arith)
  proto_fits link (Num n) f = ip4_fits link n f
  proto_fits link (Ip6Proto n) f = ip6_fits link n f

  module _ (link : LinkType) where
    -- Addresses: a word under a mask.
    word_fits : {masked : List Slot} (k off : ℕ) → FitSlots masked → k < 2 ^ 32 → off < 2 ^ 15 → FitSlots (check_word_at mode link masked k off)
    unfolding check_word_at
    word_fits k off fs l m = append_fits (emit_load_fits Word off m) (append_fits fs (fails_fits _ k l))

    words_fit : {masked : List Slot} (k src dst : ℕ) (dir : Dir) → FitSlots masked → k < 2 ^ 32 → src < 2 ^ 15 → dst < 2 ^ 15
        → FitSlots (check_addr4 mode link masked k src dst dir)
    unfolding check_addr4
    words_fit k src dst SrcOrDst fs l m n =
        append_fits (emit_load_fits Word src m) (append_fits fs (succeeds_fits _ k l (word_fits k dst fs l n)))
    words_fit k src dst Src fs l m n = word_fits k src fs l m
    words_fit k src dst Dst fs l m n = word_fits k dst fs l n
    words_fit k src dst SrcAndDst fs l m n = append_fits (word_fits k src fs l m) (word_fits k dst fs l n)

    masked_fits : {xs : List Slot} (operation imm : ℕ) → imm < 2 ^ 32 → FitSlots xs → FitSlots (fixed (alu32_imm operation 4 imm) ∷ xs)
    masked_fits operation imm l fs = fixed_fits _ _ _ _ _ (omega arith) l fs

    -- Two sides, the first of them short.
    sides_fit : {xs ys : List Slot} (dir : Dir) → past xs 1 < 2 ^ 15 → FitSlots xs → FitSlots ys → FitSlots (sides dir xs ys)
    unfolding sides
    sides_fit {xs} SrcOrDst l fs gs = one_of_fits fs (short_near 1 xs l) gs
    sides_fit Src l fs gs = fs
    sides_fit Dst l fs gs = gs
    sides_fit SrcAndDst l fs gs = append_fits fs gs

    module _ (addr : Ipv6Addr) (prefix at : ℕ) where
      segment_fits : (i : ℕ) → at + 2 * i < 2 ^ 15 → FitSlots (check_segment mode link addr prefix at i)
      unfolding check_segment segment_of
      segment_fits i m = append_fits (emit_load_fits Half (at + 2 * i) m) (go (leb (16 * i + 16) prefix))
        where
          go : (full : Bool) → FitSlots (cond full (fails mode JNE (segment_of addr i)) (fixed (alu32_imm AND 4 (prefix_mask (prefix - 16 * i)))
              ∷ fails mode JNE (bit_and (segment_of addr i) (prefix_mask (prefix - 16 * i)))))
          go true = fails_fits JNE (segment_of addr i) (let low = half_low addr i in omega arith)
          go false =
              let low = half_low addr i in
              let low' = mask_low (prefix - 16 * i) in
              masked_fits AND (prefix_mask (prefix - 16 * i)) (omega arith)
              (fails_fits JNE (bit_and (segment_of addr i) (prefix_mask (prefix - 16 * i))) (omega (arith, and_le_l (segment_of addr i) (prefix_mask (prefix - 16 * i)))))

      halves_fit : (n i : ℕ) → at + 2 * i + 2 * n < 2 ^ 15 → FitSlots (check_net6 mode link addr prefix at n i)
      unfolding check_net6
      halves_fit zero i m = no_slots
      halves_fit (suc n) i m = go (leb prefix (16 * i)) (halves_fit n (suc i) (omega arith))
        where
          go : (past-it : Bool) {ys : List Slot} → FitSlots ys → FitSlots (cond past-it [] (check_segment mode link addr prefix at i ++ ys))
          go true fs = no_slots
          go false fs = append_fits (segment_fits i (omega arith)) fs

      -- A half has at most seven instructions.
      segment_short : (i k : ℕ) → past (check_segment mode link addr prefix at i) k ≤ 7 + k
      unfolding check_segment emit_load guard load fails past
      segment_short i k = go (leb (16 * i + 16) prefix)
        where
          go : (full : Bool) → past (emit_load Half (at + 2 * i) ++ cond full (fails mode JNE (segment_of addr i))
              (fixed (alu32_imm AND 4 (prefix_mask (prefix - 16 * i))) ∷ fails mode JNE (bit_and (segment_of addr i) (prefix_mask (prefix - 16 * i))))) k ≤ 7 + k
          go true = omega arith
          go false = omega arith

      halves_short : (n i k : ℕ) → past (check_net6 mode link addr prefix at n i) k ≤ 7 * n + k
      unfolding check_net6 past
      halves_short zero i k = omega arith
      halves_short (suc n) i k = go (leb prefix (16 * i)) (check_net6 mode link addr prefix at n (suc i)) (halves_short n (suc i) k)
        where
          go : (past-it : Bool) (ys : List Slot) → past ys k ≤ 7 * n + k
              → past (cond past-it [] (check_segment mode link addr prefix at i ++ ys)) k ≤ 7 * suc n + k
          go true ys l = omega arith
          go false ys l = rw (past_append (check_segment mode link addr prefix at i) ys k) (omega (arith, segment_short i (past ys k)))

    net6_fits : (addr : Ipv6Addr) (prefix : ℕ) (dir : Dir) → FitSlots (emit_net6 mode link addr prefix dir)
    unfolding emit_net6
    net6_fits addr prefix dir =
        let near = net_low link in
        append_fits (ethertype_fits link 0x86dd (omega arith))
        (sides_fit dir (omega (arith, halves_short addr prefix (net_offset link + 8) 8 0 1)) (halves_fit addr prefix (net_offset link + 8) 8 0 (omega arith))
        (halves_fit addr prefix (net_offset link + 24) 8 0 (omega arith)))

    transport_fits : FitSlots (transport (net_offset link))
    unfolding transport
    transport_fits =
        let near = net_low link in
        append_fits (emit_load_fits Byte (net_offset link) (omega arith)) (masked_fits AND 0x0f (omega arith) (masked_fits LSH 2 (omega arith)
        (fixed_fits _ _ _ _ _ (omega arith) (omega arith) (fixed_fits _ _ _ _ _ (omega arith) (omega arith)
        (fixed_fits _ _ _ _ _ (omega arith) (omega arith) no_slots)))))

    l4_number_low : (x : protos.Proto) → l4_number mode link x < 256
    l4_number_low Ip = omega arith
    l4_number_low Ip6 = omega arith
    l4_number_low Arp = omega arith
    l4_number_low Rarp = omega arith
    l4_number_low Tcp = omega arith
    l4_number_low Udp = omega arith
    l4_number_low Icmp = omega arith
    l4_number_low Icmp6 = omega arith
    l4_number_low Igmp = omega arith
    l4_number_low Sctp = omega arith
    l4_number_low (Num n) = omega arith
    l4_number_low (Ip6Proto n) = omega arith

    l4_fits : (off : ℕ) (proto : Option protos.Proto) → off < 2 ^ 15 → FitSlots (emit_l4_proto_check mode link off proto)
    unfolding emit_l4_proto_check
    l4_fits off None m = append_fits (emit_load_fits Byte off m) (skips_fits _ 6 1 (omega arith) (omega arith) (fails_fits _ 17 (omega arith)))
    l4_fits off (Some x) m = check_fits Byte off (l4_number mode link x) m (let low = l4_number_low x in omega arith)

    six_fits : (proto : Option protos.Proto) → FitSlots (prereqs_v6 mode link proto)
    unfolding prereqs_v6
    six_fits proto =
        let near = net_low link in
        append_fits (l4_fits (net_offset link + 6) proto (omega arith))
        (fixed_fits _ _ _ _ _ (omega arith) (omega arith) (fixed_fits _ _ _ _ _ (omega arith) (omega arith) (guard_fits 6 4 (omega arith))))

    four_fits : (proto : Option protos.Proto) → FitSlots (prereqs_v4 mode link proto)
    unfolding prereqs_v4
    four_fits proto =
        let near = net_low link in
        append_fits (l4_fits (net_offset link + 9) proto (omega arith)) (append_fits transport_fits (guard_fits 6 4 (omega arith)))

    -- The two blocks are short.
    six_short : (proto : Option protos.Proto) → past (prereqs_v6 mode link proto) 1 ≤ 100
    unfolding prereqs_v6 emit_l4_proto_check check emit_load guard load fails past
    six_short None = omega arith
    six_short (Some x) = omega arith

    four_short : (proto : Option protos.Proto) → past (prereqs_v4 mode link proto) 0 ≤ 100
    unfolding prereqs_v4 transport emit_l4_proto_check check emit_load guard load fails past
    four_short None = omega arith
    four_short (Some x) = omega arith

    port_fits : (off port : ℕ) → off < 2 ^ 15 → port < 65536 → FitSlots (check_port mode link off port)
    unfolding check_port
    port_fits off port m l = append_fits (load_fits Half 6 off m) (fails_fits _ port (omega arith))

    ports_fit : (port : ℕ) (dir : Dir) → port < 65536 → FitSlots (check_ports mode link port dir)
    unfolding check_ports
    ports_fit port SrcOrDst l = append_fits (load_fits Half 6 0 (omega arith)) (succeeds_fits _ port (omega arith) (port_fits 2 port (omega arith) l))
    ports_fit port Src l = port_fits 0 port (omega arith) l
    ports_fit port Dst l = port_fits 2 port (omega arith) l
    ports_fit port SrcAndDst l = append_fits (port_fits 0 port (omega arith) l) (port_fits 2 port (omega arith) l)

    range_fits : (off lo hi : ℕ) → off < 2 ^ 15 → lo < 65536 → hi < 65536 → FitSlots (check_range mode link off lo hi)
    unfolding check_range
    range_fits off lo hi m l l' = append_fits (load_fits Half 6 off m) (append_fits (fails_fits _ lo (omega arith)) (fails_fits _ hi (omega arith)))

    range_short : (off lo hi : ℕ) → past (check_range mode link off lo hi) 1 < 2 ^ 15
    unfolding check_range load fails past
    range_short off lo hi = omega arith

    mac_fits : (off addr : ℕ) → off < 2 ^ 14 → FitSlots (check_mac mode link off addr)
    unfolding check_mac
    mac_fits off addr m =
        append_fits (check_fits Word off (addr / 65536 % 2 ^ 32) (omega arith) (omega arith)) (check_fits Half (off + 4) (addr % 65536) (omega arith) (omega arith))

    mac_short : (off addr : ℕ) → past (check_mac mode link off addr) 1 < 2 ^ 15
    unfolding check_mac check emit_load guard load fails past
    mac_short off addr = omega arith

  prereqs_fit : (link : LinkType) (proto : Option protos.Proto) → FitSlots (emit_port_prereqs mode link proto)
  unfolding emit_port_prereqs
  prereqs_fit link proto = go (ether_proto_offset link) (ether_low link)
    where
      go : (e : Option ℕ) → Low e → FitSlots (prereqs_at mode link e proto)
      go (Some off) (below h) =
          append_fits (emit_load_fits Half off (omega arith))
          (append_fits (skips_fits _ 0x0800 (suc (past (prereqs_v6 mode link proto) 1)) (omega arith) (let short = six_short link proto in omega arith)
          (fails_fits _ 0x86dd (omega arith)))
          (append_fits (six_fits link proto) (fixed_fits _ _ _ _ _ (let short = four_short link proto in omega arith) (omega arith) (four_fits link proto))))
      go None absent = four_fits link proto

  vlan_fits : (link : LinkType) (id : Option ℕ) → FineId id → FitSlots (emit_vlan mode link id)
  unfolding emit_vlan
  vlan_fits link id f = append_fits (ethertype_fits link 0x8100 (omega arith)) (go (ether_proto_offset link) (ether_low link) id f)
    where
      go : (e : Option ℕ) → Low e → (id : Option ℕ) → FineId id → FitSlots (vlan_id mode link e id)
      go (Some off) (below h) None f = no_slots
      go (Some off) (below h) (Some n) f =
          append_fits (emit_load_fits Half (off + 2) (omega arith)) (masked_fits link AND 0x0fff (omega arith) (fails_fits JNE n (omega arith)))
      go None absent id f = no_slots

  session_fits : (link : LinkType) (id : Option ℕ) → FineId id → FitSlots (emit_pppoe_session mode link id)
  unfolding emit_pppoe_session
  session_fits link id f = append_fits (ethertype_fits link 0x8864 (omega arith)) (go (ether_proto_offset link) (ether_low link) id f)
    where
      go : (e : Option ℕ) → Low e → (id : Option ℕ) → FineId id → FitSlots (session_id mode link e id)
      go (Some off) (below h) None f = no_slots
      go (Some off) (below h) (Some n) f = check_fits Half (off + 4) n (omega arith) (omega arith)
      go None absent id f = no_slots

  label_fits : (link : LinkType) (label : Option ℕ) → FineLabel label → FitSlots (emit_mpls mode link label)
  unfolding emit_mpls
  label_fits link label f = go (ether_proto_offset link) (ether_low link) label f
    where
      go : (e : Option ℕ) → Low e → (label : Option ℕ) → FineLabel label → FitSlots (mpls_at mode link e label)
      go (Some off) (below h) None f =
          append_fits (emit_load_fits Half off (omega arith)) (append_fits (skips_fits _ 0x8847 1 (omega arith) (omega arith) (fails_fits _ 0x8848 (omega arith))) no_slots)
      go (Some off) (below h) (Some n) f =
          append_fits (emit_load_fits Half off (omega arith)) (append_fits (skips_fits _ 0x8847 1 (omega arith) (omega arith) (fails_fits _ 0x8848 (omega arith)))
          (append_fits (emit_load_fits Word (off + 2) (omega arith)) (masked_fits link RSH 12 (omega arith) (fails_fits JNE n f))))
      go None absent label f = no_slots

  module _ (link : LinkType) (steps : List ℕ) where
    steps_fit : (n j : ℕ) → ((p : ℕ) → get_or steps p 0 < 256) → FitSlots (emit_steps steps n j)
    unfolding emit_steps
    steps_fit zero j byte = no_slots
    steps_fit (suc n) j byte = masked_fits link (alu32_of (step_at steps (5 * j)).op) (step_at steps (5 * j)).operand (operand_low steps j byte) (steps_fit n (suc j) byte)

    module _ (j : ℕ) where
      compared_fits : (x : access.ByteAccess) (k : ℕ) → ((p : ℕ) → get_or steps p 0 < 256) → k < 2 ^ 32 → FitSlots (steps_and_cmp mode link steps j x k)
      unfolding steps_and_cmp
      compared_fits x k byte l = append_fits (steps_fit x.steps j byte) (cmp_fits x.op k l)

      access_fits : (x : access.ByteAccess) (k : ℕ) (l : layers.Layer) → x.offset + base_of link l < 2 ^ 15 → FitSlots (steps_and_cmp mode link steps j x k)
          → FitSlots (access_at_code mode link steps j l x k)
      unfolding access_at_code base_of
      access_fits x k layer.Raw m fs = append_fits (emit_load_fits x.size x.offset (omega arith)) fs
      access_fits x k layer.Net m fs = append_fits (emit_load_fits x.size (net_offset link + x.offset) (omega arith)) fs
      access_fits x k layer.Trans m fs =
          append_fits (transport_fits link) (append_fits (guard_fits 6 (end_of x.size x.offset) (end_low x.size x.offset))
          (append_fits (load_fits x.size 6 x.offset (omega arith)) fs))

      rhs_fits : (x : access.ByteAccess) (rhs : CmpRhs) → Fine link steps j (ByteAccess x) → FineRhs rhs → FitSlots (access_rhs_code mode link steps j rhs x)
      rhs_fits x (Const k) f l = access_fits x k x.layer (near_offset link x f.0) (compared_fits x k f.2 l)
      rhs_fits x (Load l) f r = no_slots

      pub primitive_fits : (prim : Primitive) → Fine link steps j prim → FitSlots (emit_primitive mode link steps j prim)
      unfolding emit_primitive emit_host4 emit_net emit_port emit_portrange emit_ether_host emit_ether_multicast emit_ip_broadcast emit_ip_multicast emit_ip6_multicast emit_len emit_byte_access
      primitive_fits (Host addr dir) f =
          let near = net_low link in
          append_fits (ethertype_fits link 0x0800 (omega arith)) (words_fit link addr (net_offset link + 12) (net_offset link + 16) dir no_slots f (omega arith) (omega arith))
      primitive_fits (Host6 addr dir) f = net6_fits link addr 128 dir
      primitive_fits (Port port dir proto) f = append_fits (prereqs_fit link proto) (ports_fit link port dir f)
      primitive_fits (PortRange lo hi dir proto) f =
          append_fits (prereqs_fit link proto) (sides_fit link dir (range_short link 0 lo hi)
          (range_fits link 0 lo hi (omega arith) f.0 f.1) (range_fits link 2 lo hi (omega arith) f.0 f.1))
      primitive_fits (Net net dir) f =
          let near = net_low link in
          append_fits (ethertype_fits link 0x0800 (omega arith)) (words_fit link (bit_and net.addr net.mask) (net_offset link + 12) (net_offset link + 16) dir
          (masked_fits link AND net.mask f.1 no_slots) (omega (arith, f.0, and_le_l net.addr net.mask)) (omega arith) (omega arith))
      primitive_fits (Net6 net dir) f = net6_fits link net.addr net.prefix_len dir
      primitive_fits (Proto x) f = proto_fits link x f
      primitive_fits (EtherHost addr dir) f =
          sides_fit link (mirrored dir) (mac_short link 0 addr) (mac_fits link 0 addr (omega arith)) (mac_fits link 6 addr (omega arith))
      primitive_fits (EtherProto et) f = ethertype_fits link et f
      primitive_fits EtherMulticast f =
          append_fits (emit_load_fits Byte 0 (omega arith)) (skips_fits _ 1 1 (omega arith) (omega arith) (failure_fits _ _ _ _ _ (omega arith) no_slots))
      primitive_fits IpBroadcast f =
          let near = net_low link in
          append_fits (ethertype_fits link 0x0800 (omega arith)) (check_fits Word (net_offset link + 16) 0xffffffff (omega arith) (omega arith))
      primitive_fits IpMulticast f =
          let near = net_low link in
          append_fits (ethertype_fits link 0x0800 (omega arith)) (append_fits (emit_load_fits Word (net_offset link + 16) (omega arith))
          (masked_fits link AND 0xf0000000 (omega arith) (fails_fits JNE 0xe0000000 (omega arith))))
      primitive_fits Ip6Multicast f =
          let near = net_low link in
          append_fits (ethertype_fits link 0x86dd (omega arith)) (check_fits Byte (net_offset link + 24) 0xff (omega arith) (omega arith))
      primitive_fits (Vlan id) f = vlan_fits link id f
      primitive_fits (Mpls label) f = label_fits link label f
      primitive_fits PppoeDiscovery f = ethertype_fits link 0x8863 (omega arith)
      primitive_fits (PppoeSession id) f = session_fits link id f
      primitive_fits (IpProtoChain n) f = ip4_fits link n f
      primitive_fits (Ip6ProtoChain n) f = ip6_fits link n f
      primitive_fits (Len op value) f =
          fixed_fits _ _ _ _ _ (omega arith) (omega arith) (fixed_fits _ _ _ _ _ (omega arith) (omega arith) (cmp_fits op value f))
      primitive_fits Inbound f = no_slots
      primitive_fits Outbound f = no_slots
      primitive_fits (ByteAccess x) f = rhs_fits x x.rhs f f.3
