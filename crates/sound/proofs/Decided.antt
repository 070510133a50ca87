-- Whatever its constants, the code of a primitive that is not refused decides something of every frame: it always comes to success or to failure.
use Prim.Native.Nat.{ℕ}
use mathlib.Core.Path.{◌≡◌, refl}
use mathlib.Core.Bool.{Bool, true}
use mathlib.Core.List.{List}
use native.Mathlib.Omega.{arith}
use Rattle.std.specs.Prelude.{Option, Some, None}
use Rattle.codegen.specs.Primitives.{emit_mpls, access_rhs_code, emit_byte_access, emit_primitive}
use Rattle.filter.specs.declared.ast.LinkType.{LinkType}
use Rattle.filter.specs.declared.ast.CmpRhs.{CmpRhs}
use Rattle.filter.specs.declared.ast.CmpRhs.TheVariants.{Const, Load}
use Rattle.filter.specs.declared.ast.ByteAccess as access
use Rattle.filter.specs.declared.ast.Primitive.{Primitive}
use Rattle.filter.specs.declared.ast.Primitive.TheVariants.{Host, Host6, Port, PortRange, Net, Net6, Proto, EtherHost, EtherProto, EtherMulticast, IpBroadcast, IpMulticast, Ip6Multicast, Vlan, Mpls, PppoeDiscovery, PppoeSession, IpProtoChain, Ip6ProtoChain, Len, Inbound, Outbound, ByteAccess}
use Rattle.checks.specs.Refusal.{unless_ether, rhs_refusal, steps_refusal, access_refusal, refusal}
use Rattle.meaning.specs.Meaning.{means}
use Rattle.meaning.specs.Constants.{small_constants}
use Rattle.program.specs.Ends.{Frame}
use Rattle.sound.specs.Piece.{Means}
use Rattle.sound.specs.Fine.{Fine}
use Rattle.sound.proofs.Pieces.{lands}
use Rattle.sound.proofs.Compares.{reads_something}
use Rattle.sound.proofs.Addresses.{host_means, net_means}
use Rattle.sound.proofs.Macs.{ether_host_means}
use Rattle.sound.proofs.Tags.{broadcast_means, multicast_means, mpls_means, mpls_label_means, len_means}
use Rattle.sound.proofs.Accesses.{fine_steps, near_offset, access_compared}
use Rattle.sound.proofs.Primitives.{primitive_means}

mpls_decides : {frame : List ℕ} {start : ℕ} → Frame frame start → (mode : ℕ) (link : LinkType) (label : Option ℕ) → unless_ether link 15 ≡ 0
    → (q : Bool) × Means frame start (emit_mpls mode link label) q
mpls_decides w mode link None e = (_, lands (mpls_means w mode link e))
mpls_decides w mode link (Some n) e = (_, lands (mpls_label_means w link n e reads_something))

module _ {frame : List ℕ} {start : ℕ} (w : Frame frame start) (mode : ℕ) (link : LinkType) (steps : List ℕ) (j : ℕ) where
  access_decides : (x : access.ByteAccess) (rhs : CmpRhs) → Fine link steps j (ByteAccess x)
      → rhs_refusal rhs (steps_refusal steps x.steps j) ≡ 0 → (q : Bool) × Means frame start (access_rhs_code mode link steps j rhs x) q
  unfolding rhs_refusal
  access_decides x (Const k) f e =
      (_, lands (access_compared w link steps j x reads_something (fine_steps steps x.steps j f.2 e f.1) x.layer (near_offset link x f.0)))
  access_decides x (Load l) f e = absurd (omega arith)

  -- Where the constants are small in any case, it decides what it means.
  exactly : (prim : Primitive) → Fine link steps j prim → refusal link steps j prim ≡ 0 → small_constants prim ≡ true
      → (q : Bool) × Means frame start (emit_primitive mode link steps j prim) q
  exactly prim f e s = (means link frame steps j prim, primitive_means w mode link steps j prim f e (λ z. s))

  -- THEOREM: in either mode and with any constants.
  pub primitive_decides : (prim : Primitive) → Fine link steps j prim → refusal link steps j prim ≡ 0
      → (q : Bool) × Means frame start (emit_primitive mode link steps j prim) q
  unfolding emit_primitive refusal small_constants emit_byte_access access_refusal
  primitive_decides (Host addr dir) f e = (_, host_means w link dir addr reads_something)
  primitive_decides (Host6 addr dir) f e = exactly (Host6 addr dir) f e refl
  primitive_decides (Port port dir proto) f e = exactly (Port port dir proto) f e refl
  primitive_decides (PortRange lo hi dir proto) f e = exactly (PortRange lo hi dir proto) f e refl
  primitive_decides (Net net dir) f e = (_, net_means w link dir net f.1 reads_something)
  primitive_decides (Net6 net dir) f e = exactly (Net6 net dir) f e refl
  primitive_decides (Proto x) f e = exactly (Proto x) f e refl
  primitive_decides (EtherHost addr dir) f e = (_, ether_host_means w link addr reads_something dir)
  primitive_decides (EtherProto et) f e = exactly (EtherProto et) f e refl
  primitive_decides EtherMulticast f e = exactly EtherMulticast f e refl
  primitive_decides IpBroadcast f e = (_, lands (broadcast_means w link reads_something))
  primitive_decides IpMulticast f e = (_, lands (multicast_means w link reads_something))
  primitive_decides Ip6Multicast f e = exactly Ip6Multicast f e refl
  primitive_decides (Vlan id) f e = exactly (Vlan id) f e refl
  primitive_decides (Mpls label) f e = mpls_decides w mode link label e
  primitive_decides PppoeDiscovery f e = exactly PppoeDiscovery f e refl
  primitive_decides (PppoeSession id) f e = exactly (PppoeSession id) f e refl
  primitive_decides (IpProtoChain n) f e = exactly (IpProtoChain n) f e refl
  primitive_decides (Ip6ProtoChain n) f e = exactly (Ip6ProtoChain n) f e refl
  primitive_decides (Len op value) f e = (_, lands (len_means w link op reads_something))
  primitive_decides Inbound f e = absurd (omega arith)
  primitive_decides Outbound f e = absurd (omega arith)
  primitive_decides (ByteAccess x) f e = access_decides x x.rhs f e
