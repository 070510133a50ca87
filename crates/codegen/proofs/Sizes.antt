-- L counts what comes out: the code of a primitive that is not refused has as many instructions as its share of L.
use Prim.Native.Nat.{ℕ, zero, suc, ◌+◌, ◌-◌, ◌*◌, ◌/◌, ◌%◌, ◌<◌, ◌≤◌}
use mathlib.Core.Path.{◌≡◌, refl, ap, ◌∙◌}
use mathlib.Core.List.{List, [], ◌++◌}
use mathlib.Core.Bool.{Bool, true, false, cond}
use native.Mathlib.Omega.{arith}
use borrow.Author.Tests.{le-leb, lt-leb, leb-true, leb-false, ltb-true, ltb-false, eqb-true, eqb-false}
use native.Mathlib.Nat.{le_refl, sub-zero}
use lib.ListN.{length, length-append}
use lib.Dec.{eqb, leb, ltb}
use Rattle.std.specs.Prelude.{Option, Some, None}
use Rattle.patches.specs.Code.{Slot}
use Rattle.pieces.proofs.Leading.{settled_length}
use Rattle.pieces.specs.Fragments.{one_of, sides, guard, load, emit_load, emit_steps, transport, fails, skips, succeeds, check, emit_cmp, ethertype_at_code, emit_ethertype, emit_ip4_l4, emit_ip6_l4, dual_at, emit_dual_l4}
use Rattle.codegen.specs.Primitives.{check_word_at, check_addr4, emit_host4, emit_net, check_segment, check_net6, emit_net6, emit_l4_proto_check, prereqs_v6, prereqs_v4, prereqs_at, emit_port_prereqs, check_port, check_ports, emit_port, check_range, emit_portrange, check_mac, emit_ether_host, emit_ether_multicast, emit_ip_broadcast, emit_ip_multicast, emit_ip6_multicast, vlan_id, emit_vlan, mpls_at, emit_mpls, session_id, emit_pppoe_session, emit_len, emit_proto, steps_and_cmp, access_at_code, access_rhs_code, emit_byte_access, emit_primitive, mirrored}
use Rattle.checks.specs.Length as count
use Rattle.checks.specs.Refusal.{refusal, etherless, unless_ether, ether_refusal, steps_refusal, access_refusal, rhs_refusal}
use Rattle.filter.specs.Ast.{ether_proto_offset}
use Rattle.filter.specs.declared.ast.LinkType.{LinkType}
use Rattle.filter.specs.declared.ast.Dir.{Dir}
use Rattle.filter.specs.declared.ast.Dir.TheVariants.{SrcOrDst, Src, Dst, SrcAndDst}
use Rattle.filter.specs.declared.ast.Ipv6Addr.{Ipv6Addr}
use Rattle.filter.specs.declared.ast.IpNet.{IpNet}
use Rattle.filter.specs.declared.ast.Layer as layers
use Rattle.filter.specs.declared.ast.Layer.TheVariants as layer
use Rattle.filter.specs.declared.ast.CmpRhs.{CmpRhs}
use Rattle.filter.specs.declared.ast.CmpRhs.TheVariants.{Const, Load}
use Rattle.filter.specs.declared.ast.ByteAccess as access
use Rattle.filter.specs.declared.ast.Primitive.{Primitive}
use Rattle.filter.specs.declared.ast.Primitive.TheVariants.{Host, Host6, Port, PortRange, Net, Net6, Proto, EtherHost, EtherProto, EtherMulticast, IpBroadcast, IpMulticast, Ip6Multicast, Vlan, Mpls, PppoeDiscovery, PppoeSession, IpProtoChain, Ip6ProtoChain, Len, Inbound, Outbound, ByteAccess}
use Rattle.filter.specs.declared.ast.Proto as protos
use Rattle.filter.specs.declared.ast.Proto.TheVariants.{Ip, Ip6, Arp, Rarp, Tcp, Udp, Icmp, Icmp6, Igmp, Sctp, Num, Ip6Proto}
use Rattle.filter.specs.declared.ast.Ipv6Net.{Ipv6Net}
use Rattle.filter.specs.declared.ast.AccessSize.{AccessSize}
use Rattle.filter.specs.declared.ast.AccessSize.TheVariants.{Byte, Half, Word}
use Rattle.filter.specs.declared.ast.CmpOp.{CmpOp}
use Rattle.filter.specs.declared.ast.CmpOp.TheVariants.{Eq, Ne, Lt, Le, Gt, Ge, BitAnd}

-- Two checks of n instructions each; for either, a JA between them.
sides_length : (dir : Dir) (xs ys : List Slot) (n : ℕ) → length xs ≡ n → length ys ≡ n → length (sides dir xs ys) ≡ count.sides dir n 1
unfolding sides one_of count.sides
sides_length SrcOrDst xs ys n p q = simp (length-append, settled_length 1 xs, p, q) (omega arith)
sides_length Src xs ys n p q = p
sides_length Dst xs ys n p q = q
sides_length SrcAndDst xs ys n p q = simp (length-append, p, q) (omega arith)

-- A step is one instruction.
steps_length : (steps : List ℕ) (n j : ℕ) → length (emit_steps steps n j) ≡ n
unfolding emit_steps
steps_length steps zero j = refl
steps_length steps (suc n) j = ap suc (steps_length steps n (suc j))

load_length : (size : AccessSize) (base off : ℕ) → length (load size base off) ≡ count.swap_size size
unfolding load count.swap_size
load_length Byte base off = refl
load_length Half base off = refl
load_length Word base off = refl

byte_load : count.swap_size Byte ≡ 1
unfolding count.swap_size
byte_load = refl

-- What an IPv6 address costs of which r bits are left under the prefix: six for each half, and one for the half that is covered in part.
abbrev share : ℕ → ℕ
share r = 6 * ((r + 15) / 16) + (r % 16 + 15) / 16

share_whole : (r s : ℕ) → r ≡ 16 + s → 6 + share s ≡ share r
share_whole r s e =
    let halves : (r + 15) / 16 ≡ suc ((s + 15) / 16) = omega arith in
    let part : r % 16 ≡ s % 16 = omega arith in
    rw (halves, part) (omega arith)

share_part : (r s : ℕ) → s ≡ 0 → 0 < r → r < 16 → 7 + share s ≡ share r
share_part r s e h k =
    let halves : (r + 15) / 16 ≡ 1 = omega arith in
    let part : (r % 16 + 15) / 16 ≡ 1 = omega arith in
    rw (halves, part, e)

module _ (mode : ℕ) where
  ethertype_length : (link : LinkType) (et : ℕ) → length (emit_ethertype mode link et) ≡ count.ethertype_size link
  unfolding emit_ethertype check emit_load guard load fails count.ethertype_size
  ethertype_length link et = go (ether_proto_offset link)
    where
      go : (e : Option ℕ) → length (ethertype_at_code mode e et) ≡ count.by_ether e 6 0
      go (Some off) = refl
      go None = refl

  -- What comes after the ethertype.
  after_ethertype : (link : LinkType) (et n : ℕ) (xs : List Slot) → length xs ≡ n
      → length (emit_ethertype mode link et ++ xs) ≡ count.ethertype_size link + n
  after_ethertype link et n xs e = simp (length-append, ethertype_length link et, e)

  cmp_length : (op : CmpOp) (k : ℕ) → length (emit_cmp mode op k) ≡ count.cmp_size op
  unfolding emit_cmp fails count.cmp_size
  cmp_length Eq k = refl
  cmp_length Ne k = refl
  cmp_length Lt k = refl
  cmp_length Le k = refl
  cmp_length Gt k = refl
  cmp_length Ge k = refl
  cmp_length BitAnd k = refl

  addr4_length : (link : LinkType) (masked : List Slot) (m k src dst : ℕ) (dir : Dir) → length masked ≡ m
      → length (check_addr4 mode link masked k src dst dir) ≡ count.sides dir (6 + m) 0
  unfolding check_addr4 check_word_at emit_load guard load fails succeeds count.sides
  addr4_length link masked m k src dst SrcOrDst e = simp (length-append, e) (omega arith)
  addr4_length link masked m k src dst Src e = simp (length-append, e) (omega arith)
  addr4_length link masked m k src dst Dst e = simp (length-append, e) (omega arith)
  addr4_length link masked m k src dst SrcAndDst e = simp (length-append, e) (omega arith)

  host4_length : (link : LinkType) (addr : ℕ) (dir : Dir) → length (emit_host4 mode link addr dir) ≡ count.ethertype_size link + count.sides dir 6 0
  unfolding emit_host4
  host4_length link addr dir = after_ethertype link _ _ _ (addr4_length link [] 0 addr _ _ dir refl)

  net_length : (link : LinkType) (net : IpNet) (dir : Dir) → length (emit_net mode link net dir) ≡ count.ethertype_size link + count.sides dir 7 0
  unfolding emit_net
  net_length link net dir = after_ethertype link _ _ _ (addr4_length link _ 1 _ _ _ dir refl)

  -- A half of an IPv6 address: checked whole, or masked first.
  segment_whole : (link : LinkType) (addr : Ipv6Addr) (prefix at i : ℕ) → 16 * i + 16 ≤ prefix → length (check_segment mode link addr prefix at i) ≡ 6
  unfolding check_segment emit_load guard load fails
  segment_whole link addr prefix at i h = rw (le-leb (16 * i + 16) prefix h)

  segment_part : (link : LinkType) (addr : Ipv6Addr) (prefix at i : ℕ) → prefix < 16 * i + 16 → length (check_segment mode link addr prefix at i) ≡ 7
  unfolding check_segment emit_load guard load fails
  segment_part link addr prefix at i h = rw (lt-leb (16 * i + 16) prefix h)

  -- The halves from half i on, under a prefix that acts as q.
  module _ (link : LinkType) (addr : Ipv6Addr) (prefix at q : ℕ) (under : q ≤ prefix) (low : q ≤ 128) (acts : (k : ℕ) → k ≤ 128 → k ≤ prefix → k ≤ q) where
    halves_length : (n i : ℕ) → n + i ≡ 8 → length (check_net6 mode link addr prefix at n i) ≡ share (q - 16 * i)
    unfolding check_net6
    halves_length zero i h = let none : q - 16 * i ≡ 0 = omega arith in rw none
    halves_length (suc n) i h = enters (leb prefix (16 * i)) refl (halves_length n (suc i) (omega arith))
      where
        covers : (b : Bool) → leb (16 * i + 16) prefix ≡ b → 16 * i < prefix → length (check_net6 mode link addr prefix at n (suc i)) ≡ share (q - 16 * suc i)
            → length (check_segment mode link addr prefix at i ++ check_net6 mode link addr prefix at n (suc i)) ≡ share (q - 16 * i)
        covers true e p r =
            let inside : 16 * i + 16 ≤ q = acts (16 * i + 16) (omega arith) (leb-true (16 * i + 16) prefix e) in
            simp (length-append, segment_whole link addr prefix at i (leb-true (16 * i + 16) prefix e), r) (share_whole (q - 16 * i) (q - 16 * suc i) (omega arith))
        covers false e p r =
            let begun : 16 * i + 1 ≤ q = acts (16 * i + 1) (omega arith) (omega arith) in
            let ended : q < 16 * i + 16 = omega (arith, leb-false (16 * i + 16) prefix e) in
            simp (length-append, segment_part link addr prefix at i (leb-false (16 * i + 16) prefix e), r) (share_part (q - 16 * i) (q - 16 * suc i) (omega arith) (omega arith) (omega arith))

        enters : (b : Bool) → leb prefix (16 * i) ≡ b → length (check_net6 mode link addr prefix at n (suc i)) ≡ share (q - 16 * suc i)
            → length (cond b [] (check_segment mode link addr prefix at i ++ check_net6 mode link addr prefix at n (suc i))) ≡ share (q - 16 * i)
        enters true e r =
            let none : q - 16 * i ≡ 0 = omega (arith, leb-true prefix (16 * i) e) in
            rw none
        enters false e r = covers (leb (16 * i + 16) prefix) refl (leb-false prefix (16 * i) e) r

  -- One side of an IPv6 net: the prefix acts as at most 128.
  pub net6_side_lem : (link : LinkType) (net : Ipv6Net) (at : ℕ) → length (check_net6 mode link net.addr net.prefix_len at 8 0) ≡ count.net6_side net
  unfolding count.net6_side count.clip
  net6_side_lem link net at = sized (ltb net.prefix_len 128) refl
    where
      p : ℕ
      p = net.prefix_len

      shares : (q : ℕ) → share q ≡ cond (eqb (q % 16) 0) (6 * ((q + 15) / 16)) (6 * ((q + 15) / 16) + 1)
      shares q = even (eqb (q % 16) 0) refl
        where
          even : (b : Bool) → eqb (q % 16) 0 ≡ b → share q ≡ cond b (6 * ((q + 15) / 16)) (6 * ((q + 15) / 16) + 1)
          even true e = let none : q % 16 ≡ 0 = eqb-true (q % 16) 0 e in rw none (omega arith)
          even false e = omega (arith, eqb-false (q % 16) 0 e)

      sized : (b : Bool) → ltb p 128 ≡ b
          → length (check_net6 mode link net.addr p at 8 0)
          ≡ cond (eqb (cond b p 128 % 16) 0) (6 * ((cond b p 128 + 15) / 16)) (6 * ((cond b p 128 + 15) / 16) + 1)
      sized true e = halves_length link net.addr p at p (le_refl p) (omega (arith, ltb-true p 128 e)) (λ k h g. g) 8 0 refl ∙ ap share (sub-zero p) ∙ shares p
      sized false e = halves_length link net.addr p at 128 (ltb-false p 128 e) (le_refl 128) (λ k h g. h) 8 0 refl ∙ shares 128

  net6_length : (link : LinkType) (net : Ipv6Net) (dir : Dir)
      → length (emit_net6 mode link net.addr net.prefix_len dir) ≡ count.ethertype_size link + count.sides dir (count.net6_side net) 1
  unfolding emit_net6
  net6_length link net dir = after_ethertype link _ _ _ (sides_length dir _ _ _ (net6_side_lem link net _) (net6_side_lem link net _))

  -- All eight halves.
  host6_side : (link : LinkType) (addr : Ipv6Addr) (at : ℕ) → length (check_net6 mode link addr 128 at 8 0) ≡ 48
  host6_side link addr at = halves_length link addr 128 at 128 (le_refl 128) (le_refl 128) (λ k h g. h) 8 0 refl

  host6_length : (link : LinkType) (addr : Ipv6Addr) (dir : Dir)
      → length (emit_net6 mode link addr 128 dir) ≡ count.ethertype_size link + count.sides dir 48 1
  unfolding emit_net6
  host6_length link addr dir = after_ethertype link _ _ _ (sides_length dir _ _ _ (host6_side link addr _) (host6_side link addr _))

  prereqs_length : (link : LinkType) (proto : Option protos.Proto) → length (emit_port_prereqs mode link proto) ≡ count.prereq_size link proto
  unfolding emit_port_prereqs prereqs_v4 prereqs_v6 emit_l4_proto_check transport check emit_load guard load fails skips count.prereq_size count.l4_size
  prereqs_length link proto = go (ether_proto_offset link) proto
    where
      go : (e : Option ℕ) (proto : Option protos.Proto)
          → length (prereqs_at mode link e proto) ≡ count.by_ether e (2 * count.l4_size proto + 25) (count.l4_size proto + 12)
      go (Some off) None = refl
      go (Some off) (Some x) = refl
      go None None = refl
      go None (Some x) = refl

  ports_length : (link : LinkType) (port : ℕ) (dir : Dir) → length (check_ports mode link port dir) ≡ count.sides dir 3 0
  unfolding check_ports check_port load fails succeeds count.sides
  ports_length link port SrcOrDst = refl
  ports_length link port Src = refl
  ports_length link port Dst = refl
  ports_length link port SrcAndDst = refl

  port_length : (link : LinkType) (port : ℕ) (dir : Dir) (proto : Option protos.Proto)
      → length (emit_port mode link port dir proto) ≡ count.prereq_size link proto + count.sides dir 3 0
  unfolding emit_port
  port_length link port dir proto = simp (length-append, prereqs_length link proto, ports_length link port dir)

  pub range_length : (link : LinkType) (off lo hi : ℕ) → length (check_range mode link off lo hi) ≡ 4
  unfolding check_range load fails
  range_length link off lo hi = refl

  portrange_length : (link : LinkType) (lo hi : ℕ) (dir : Dir) (proto : Option protos.Proto)
      → length (emit_portrange mode link lo hi dir proto) ≡ count.prereq_size link proto + count.sides dir 4 1
  unfolding emit_portrange
  portrange_length link lo hi dir proto =
      simp (length-append, prereqs_length link proto)
      (ap (λ (n : ℕ). count.prereq_size link proto + n) (sides_length dir _ _ 4 (range_length link 0 lo hi) (range_length link 2 lo hi)))

  mirrored_sides : (dir : Dir) (n m : ℕ) → count.sides (mirrored dir) n m ≡ count.sides dir n m
  unfolding mirrored count.sides
  mirrored_sides SrcOrDst n m = refl
  mirrored_sides Src n m = refl
  mirrored_sides Dst n m = refl
  mirrored_sides SrcAndDst n m = refl

  pub mac_length : (link : LinkType) (off addr : ℕ) → length (check_mac mode link off addr) ≡ 12
  unfolding check_mac check emit_load guard load fails
  mac_length link off addr = refl

  ether_host_length : (link : LinkType) (addr : ℕ) (dir : Dir) → length (emit_ether_host mode link addr dir) ≡ count.sides dir 12 1
  unfolding emit_ether_host
  ether_host_length link addr dir =
      sides_length (mirrored dir) _ _ 12 (mac_length link 0 addr) (mac_length link 6 addr) ∙ mirrored_sides dir 12 1

  dual_length : (link : LinkType) (p : ℕ) → length (emit_dual_l4 mode link p) ≡ count.dual_size link
  unfolding emit_dual_l4 emit_ip4_l4 emit_ethertype check emit_load guard load fails skips count.dual_size
  dual_length link p = go (ether_proto_offset link) refl
    where
      go : (e : Option ℕ) → ether_proto_offset link ≡ e → length (dual_at mode e link p) ≡ count.by_ether e 18 5
      go (Some off) q = refl
      go None q = rw q

  check_length : (off k : ℕ) → length (check mode Byte off k) ≡ 5
  unfolding check emit_load guard load fails
  check_length off k = refl

  ip4_length : (link : LinkType) (p : ℕ) → length (emit_ip4_l4 mode link p) ≡ count.ethertype_size link + 5
  unfolding emit_ip4_l4
  ip4_length link p = after_ethertype link _ _ _ (check_length _ _)

  ip6_length : (link : LinkType) (p : ℕ) → length (emit_ip6_l4 mode link p) ≡ count.ethertype_size link + 5
  unfolding emit_ip6_l4
  ip6_length link p = after_ethertype link _ _ _ (check_length _ _)

  proto_length : (link : LinkType) (x : protos.Proto) → length (emit_proto mode link x) ≡ count.proto_size link x
  unfolding emit_proto count.proto_size
  proto_length link Ip = ethertype_length link _
  proto_length link Ip6 = ethertype_length link _
  proto_length link Arp = ethertype_length link _
  proto_length link Rarp = ethertype_length link _
  proto_length link Tcp = dual_length link _
  proto_length link Udp = dual_length link _
  proto_length link Icmp = ip4_length link _
  proto_length link Icmp6 = ip6_length link _
  proto_length link Igmp = ip4_length link _
  proto_length link Sctp = dual_length link _
  proto_length link (Num n) = ip4_length link _
  proto_length link (Ip6Proto n) = ip6_length link _

  -- Where there is no ethertype these three are refused.
  vlan_length : (link : LinkType) (id : Option ℕ) → ether_refusal link 0x8100 ≡ 0 → length (emit_vlan mode link id) ≡ count.ethertype_size link + count.id_size id 7
  unfolding emit_vlan emit_load guard load fails count.id_size ether_refusal unless_ether
  vlan_length link id r = after_ethertype link _ _ _ (go (ether_proto_offset link) id r)
    where
      go : (e : Option ℕ) (id : Option ℕ) → etherless e 11 ≡ 0 → length (vlan_id mode link e id) ≡ count.id_size id 7
      go (Some off) None r = refl
      go (Some off) (Some n) r = refl
      go None id r = absurd (omega arith)

  pppoe_length : (link : LinkType) (id : Option ℕ) → ether_refusal link 0x8864 ≡ 0 → length (emit_pppoe_session mode link id) ≡ count.ethertype_size link + count.id_size id 6
  unfolding emit_pppoe_session check emit_load guard load fails count.id_size ether_refusal unless_ether
  pppoe_length link id r = after_ethertype link _ _ _ (go (ether_proto_offset link) id r)
    where
      go : (e : Option ℕ) (id : Option ℕ) → etherless e 11 ≡ 0 → length (session_id mode link e id) ≡ count.id_size id 6
      go (Some off) None r = refl
      go (Some off) (Some n) r = refl
      go None id r = absurd (omega arith)

  mpls_length : (link : LinkType) (label : Option ℕ) → unless_ether link 15 ≡ 0 → length (emit_mpls mode link label) ≡ 7 + count.label_size label
  unfolding emit_mpls emit_load guard load fails skips count.label_size unless_ether
  mpls_length link label r = go (ether_proto_offset link) label r
    where
      go : (e : Option ℕ) (label : Option ℕ) → etherless e 15 ≡ 0 → length (mpls_at mode link e label) ≡ 7 + count.label_size label
      go (Some off) None r = refl
      go (Some off) (Some n) r = refl
      go None label r = absurd (omega arith)

  multicast_length : (link : LinkType) → length (emit_ether_multicast mode link) ≡ 6
  unfolding emit_ether_multicast emit_load guard load skips
  multicast_length link = refl

  broadcast_length : (link : LinkType) → length (emit_ip_broadcast mode link) ≡ count.ethertype_size link + 6
  unfolding emit_ip_broadcast check emit_load guard load fails
  broadcast_length link = after_ethertype link _ _ _ refl

  ip_multicast_length : (link : LinkType) → length (emit_ip_multicast mode link) ≡ count.ethertype_size link + 7
  unfolding emit_ip_multicast emit_load guard load fails
  ip_multicast_length link = after_ethertype link _ _ _ refl

  ip6_multicast_length : (link : LinkType) → length (emit_ip6_multicast mode link) ≡ count.ethertype_size link + 5
  unfolding emit_ip6_multicast
  ip6_multicast_length link = after_ethertype link _ _ _ (check_length _ _)

  len_length : (link : LinkType) (op : CmpOp) (value : ℕ) → length (emit_len mode link op value) ≡ 2 + count.cmp_size op
  unfolding emit_len
  len_length link op value = simp (cmp_length op value) (omega arith)

  -- A byte access: what stands before the load, the load, a step each, the comparison.
  module _ (link : LinkType) (steps : List ℕ) (j : ℕ) where
    rest_length : (x : access.ByteAccess) (k : ℕ) → length (steps_and_cmp mode link steps j x k) ≡ x.steps + count.cmp_size x.op
    unfolding steps_and_cmp
    rest_length x k = simp (length-append, steps_length steps x.steps j, cmp_length x.op k)

    layer_length : (l : layers.Layer) (x : access.ByteAccess) (k : ℕ)
        → length (access_at_code mode link steps j l x k) ≡ count.layer_size l + count.swap_size x.size + x.steps + count.cmp_size x.op
    unfolding access_at_code count.layer_size transport guard emit_load
    layer_length layer.Raw x k = simp (length-append, load_length, rest_length x k) (omega arith)
    layer_length layer.Net x k = simp (length-append, load_length, rest_length x k) (omega arith)
    layer_length layer.Trans x k = simp (length-append, load_length, rest_length x k) (simp byte_load (omega arith))

    -- Against a load it is refused.
    access_length : (x : access.ByteAccess) → access_refusal steps j x ≡ 0 → length (emit_byte_access mode link steps j x) ≡ count.access_size x
    unfolding emit_byte_access count.access_size access_refusal rhs_refusal
    access_length x e = go x.rhs e
      where
        go : (r : CmpRhs) → rhs_refusal r (steps_refusal steps x.steps j) ≡ 0
            → length (access_rhs_code mode link steps j r x) ≡ count.layer_size x.layer + count.swap_size x.size + x.steps + count.cmp_size x.op
        go (Const k) e = layer_length x.layer x k
        go (Load l) e = absurd (omega arith)

    -- THEOREM: the code of a primitive that is not refused has as many instructions as its share of L.
    pub primitive_length : (p : Primitive) → refusal link steps j p ≡ 0 → length (emit_primitive mode link steps j p) ≡ count.count_of link p
    unfolding emit_primitive count.count_of refusal
    primitive_length (Host addr dir) e = host4_length link addr dir
    primitive_length (Host6 addr dir) e = host6_length link addr dir
    primitive_length (Port port dir proto) e = port_length link port dir proto
    primitive_length (PortRange lo hi dir proto) e = portrange_length link lo hi dir proto
    primitive_length (Net net dir) e = net_length link net dir
    primitive_length (Net6 net dir) e = net6_length link net dir
    primitive_length (Proto x) e = proto_length link x
    primitive_length (EtherHost addr dir) e = ether_host_length link addr dir
    primitive_length (EtherProto et) e = ethertype_length link et
    primitive_length EtherMulticast e = multicast_length link
    primitive_length IpBroadcast e = broadcast_length link
    primitive_length IpMulticast e = ip_multicast_length link
    primitive_length Ip6Multicast e = ip6_multicast_length link
    primitive_length (Vlan id) e = vlan_length link id e
    primitive_length (Mpls label) e = mpls_length link label e
    primitive_length PppoeDiscovery e = ethertype_length link _
    primitive_length (PppoeSession id) e = pppoe_length link id e
    primitive_length (IpProtoChain n) e = ip4_length link n
    primitive_length (Ip6ProtoChain n) e = ip6_length link n
    primitive_length (Len op value) e = len_length link op value
    primitive_length Inbound e = refl
    primitive_length Outbound e = refl
    primitive_length (ByteAccess x) e = access_length x e
