-- THEOREM: the code of every primitive that is not refused means what document 01 says of it.
use Prim.Native.Nat.{ℕ, ◌^◌, ◌<◌}
use mathlib.Core.Path.{◌≡◌, refl}
use mathlib.Core.Bool.{true}
use mathlib.Core.List.{List}
use native.Mathlib.Omega.{arith}
use lib.Bits.{bit_and}
use Rattle.std.specs.Prelude.{Option, Some, None}
use Rattle.codegen.specs.Primitives.{emit_mpls, emit_proto, access_rhs_code, emit_byte_access, emit_primitive}
use Rattle.filter.specs.declared.ast.LinkType.{LinkType}
use Rattle.filter.specs.declared.ast.Proto as protos
use Rattle.filter.specs.declared.ast.Proto.TheVariants.{Ip, Ip6, Arp, Rarp, Tcp, Udp, Icmp, Icmp6, Igmp, Sctp, Num, Ip6Proto}
use Rattle.filter.specs.declared.ast.CmpOp.{CmpOp}
use Rattle.filter.specs.declared.ast.CmpOp.TheVariants.{Eq, Ne, Lt, Le, Gt, Ge, BitAnd}
use Rattle.filter.specs.declared.ast.Layer as layers
use Rattle.filter.specs.declared.ast.Layer.TheVariants as layer
use Rattle.filter.specs.declared.ast.CmpRhs.{CmpRhs}
use Rattle.filter.specs.declared.ast.CmpRhs.TheVariants.{Const, Load}
use Rattle.filter.specs.declared.ast.ByteAccess as access
use Rattle.filter.specs.declared.ast.Primitive.{Primitive}
use Rattle.filter.specs.declared.ast.Primitive.TheVariants.{Host, Host6, Port, PortRange, Net, Net6, Proto, EtherHost, EtherProto, EtherMulticast, IpBroadcast, IpMulticast, Ip6Multicast, Vlan, Mpls, PppoeDiscovery, PppoeSession, IpProtoChain, Ip6ProtoChain, Len, Inbound, Outbound, ByteAccess}
use Rattle.checks.specs.Refusal.{unless_ether, proto_refusal, rhs_refusal, steps_refusal, access_refusal, refusal}
use Rattle.meaning.specs.Meaning.{compared, host4, address4, net4, protocol, mpls, access_at, access_layer, access_rhs, byte_access, means}
use Rattle.meaning.specs.Constants.{small_compared, small_rhs, small_label, small_constants}
use Rattle.program.specs.Ends.{Frame}
use Rattle.sound.specs.Piece.{Tests, Means}
use Rattle.sound.specs.Reads.{Sound}
use Rattle.sound.specs.Fine.{Fine, FineProto, FineRhs}
use Rattle.sound.specs.Accessed.{accessed}
use Rattle.sound.proofs.Pieces.{decides, lands}
use Rattle.sound.proofs.Compares.{takes_small, reads, reads_equal}
use Rattle.sound.proofs.Ethertypes.{ethertype_means, is_ip, ip4_means, ip6_means, dual_means}
use Rattle.sound.proofs.Addresses.{host_means, net_means}
use Rattle.sound.proofs.Nets6.{net6_means}
use Rattle.sound.proofs.Macs.{first_four_read, ether_host_means, ether_host_exact}
use Rattle.sound.proofs.Tags.{ether_multicast_means, broadcast_means, multicast_means, multicast_exact, ip6_multicast_means}
use Rattle.sound.proofs.Tags.{vlan_means, pppoe_means, mpls_means, mpls_label_means, len_means}
use Rattle.sound.proofs.Ports.{port_tests, range_tests}
use Rattle.sound.proofs.Accesses.{fine_steps, near_offset, access_compared}

-- A constant that counts as small in plain mode is sound.
sound_constant : (mode : ℕ) (op : CmpOp) (k : ℕ) → k < 2 ^ 32 → (mode ≡ 0 → small_compared op k ≡ true) → Sound mode op k
unfolding small_compared
sound_constant mode Eq k l s = takes_small mode k s
sound_constant mode Ne k l s = takes_small mode k s
sound_constant mode Lt k l s = takes_small mode k s
sound_constant mode Le k l s = takes_small mode k s
sound_constant mode Gt k l s = takes_small mode k s
sound_constant mode Ge k l s = takes_small mode k s
sound_constant mode BitAnd k l s = l

-- What an access is, with its own comparison.
accessed_exact : (link : LinkType) (frame steps : List ℕ) (j : ℕ) (x : access.ByteAccess) (k : ℕ) (l : layers.Layer)
    → accessed link frame steps j x (λ v. compared x.op v k) l ≡ access_layer link frame steps j l x k
unfolding access_layer access_at
accessed_exact link frame steps j x k layer.Raw = refl
accessed_exact link frame steps j x k layer.Net = refl
accessed_exact link frame steps j x k layer.Trans = refl

module _ {frame : List ℕ} {start : ℕ} (w : Frame frame start) (mode : ℕ) (link : LinkType) where
  proto_means : (x : protos.Proto) → FineProto x → proto_refusal link x ≡ 0 → Tests frame start (emit_proto mode link x) (protocol link frame x)
  unfolding emit_proto protocol proto_refusal
  proto_means Ip f e = is_ip w mode link
  proto_means Ip6 f e = ethertype_means w mode link 0x86dd (omega arith) e
  proto_means Arp f e = ethertype_means w mode link 0x0806 (omega arith) e
  proto_means Rarp f e = ethertype_means w mode link 0x8035 (omega arith) e
  proto_means Tcp f e = dual_means w mode link 6 (omega arith)
  proto_means Udp f e = dual_means w mode link 17 (omega arith)
  proto_means Icmp f e = ip4_means w mode link 1 (omega arith)
  proto_means Icmp6 f e = ip6_means w mode link 58 (omega arith) e
  proto_means Igmp f e = ip4_means w mode link 2 (omega arith)
  proto_means Sctp f e = dual_means w mode link 132 (omega arith)
  proto_means (Num n) f e = ip4_means w mode link n f
  proto_means (Ip6Proto n) f e = ip6_means w mode link n f e

mpls_exact : {frame : List ℕ} {start : ℕ} → Frame frame start → (mode : ℕ) (link : LinkType) (label : Option ℕ) → unless_ether link 15 ≡ 0
    → (mode ≡ 0 → small_label label ≡ true) → Tests frame start (emit_mpls mode link label) (mpls link frame label)
unfolding mpls
mpls_exact w mode link None e s = mpls_means w mode link e
mpls_exact w mode link (Some n) e s = mpls_label_means w link n e (reads_equal (takes_small mode n s))

module _ {frame : List ℕ} {start : ℕ} (w : Frame frame start) (mode : ℕ) (link : LinkType) (steps : List ℕ) (j : ℕ) where
  access_means : (x : access.ByteAccess) (rhs : CmpRhs) → Fine link steps j (ByteAccess x) → FineRhs rhs
      → rhs_refusal rhs (steps_refusal steps x.steps j) ≡ 0 → (mode ≡ 0 → small_rhs x.op rhs ≡ true)
      → Tests frame start (access_rhs_code mode link steps j rhs x) (access_rhs link frame steps j rhs x)
  unfolding rhs_refusal
  access_means x (Const k) f l e s =
      decides (access_compared w link steps j x (reads x.op (sound_constant mode x.op k l s)) (fine_steps steps x.steps j f.2 e f.1)
      x.layer (near_offset link x f.0)) (accessed_exact link frame steps j x k x.layer)
  access_means x (Load l) f r e s = absurd (omega arith)

  -- THEOREM: a primitive that is not refused, with numbers that a sheet can give, in plain mode with constants below 2^31.
  pub primitive_means : (prim : Primitive) → Fine link steps j prim → refusal link steps j prim ≡ 0 → (mode ≡ 0 → small_constants prim ≡ true)
      → Means frame start (emit_primitive mode link steps j prim) (means link frame steps j prim)
  unfolding emit_primitive means refusal small_constants host4 net4 address4 emit_byte_access byte_access access_refusal compared
  primitive_means (Host addr dir) f e s = host_means w link dir addr (reads_equal (takes_small mode addr s))
  primitive_means (Host6 addr dir) f e s = net6_means w mode link addr 128 dir e
  primitive_means (Port port dir proto) f e s = port_tests w mode link port dir proto f e
  primitive_means (PortRange lo hi dir proto) f e s = range_tests w mode link lo hi dir proto f.0 f.1 e
  primitive_means (Net net dir) f e s = net_means w link dir net f.1 (reads Eq (takes_small mode (bit_and net.addr net.mask) s))
  primitive_means (Net6 net dir) f e s = net6_means w mode link net.addr net.prefix_len dir e
  primitive_means (Proto x) f e s = lands (proto_means w mode link x f e)
  primitive_means (EtherHost addr dir) f e s =
      decides (ether_host_means w link addr (first_four_read mode addr f s) dir) (ether_host_exact w link dir addr)
  primitive_means (EtherProto et) f e s = lands (ethertype_means w mode link et f e)
  primitive_means EtherMulticast f e s = lands (ether_multicast_means w mode link)
  primitive_means IpBroadcast f e s = lands (broadcast_means w link (reads_equal (takes_small mode 0xffffffff s)))
  primitive_means IpMulticast f e s = lands (decides (multicast_means w link (reads Eq (takes_small mode 0xe0000000 s))) (multicast_exact w link))
  primitive_means Ip6Multicast f e s = lands (ip6_multicast_means w mode link e)
  primitive_means (Vlan id) f e s = lands (vlan_means w mode link id f e)
  primitive_means (Mpls label) f e s = lands (mpls_exact w mode link label e s)
  primitive_means PppoeDiscovery f e s = lands (ethertype_means w mode link 0x8863 (omega arith) e)
  primitive_means (PppoeSession id) f e s = lands (pppoe_means w mode link id f e)
  primitive_means (IpProtoChain n) f e s = lands (ip4_means w mode link n f)
  primitive_means (Ip6ProtoChain n) f e s = lands (ip6_means w mode link n f e)
  primitive_means (Len op value) f e s = lands (len_means w link op (reads op (sound_constant mode op value f s)))
  primitive_means Inbound f e s = absurd (omega arith)
  primitive_means Outbound f e s = absurd (omega arith)
  primitive_means (ByteAccess x) f e s = lands (access_means x x.rhs f f.3 e s)
