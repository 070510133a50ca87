-- Tags behind the ethertype (VLAN, MPLS, PPPoE), broadcast and multicast, and the frame's length.
use Prim.Native.Nat.{ℕ, ◌+◌, ◌*◌, ◌/◌, ◌%◌, ◌^◌, ◌<◌, ◌≤◌}
use mathlib.Core.Path.{◌≡◌, refl, sym, ap, ◌∙◌}
use mathlib.Core.Bool.{Bool, true, false, not, ◌&&◌, ◌||◌}
use mathlib.Core.List.{List, [], ◌∷◌, ◌++◌}
use mathlib.Core.Option.{none, some}
use native.Mathlib.Omega.{arith}
use borrow.Author.Tests.{eqb-true, eqb-false, eq-eqb, ne_eqb}
use lib.Dec.{eqb}
use lib.ListN.{length}
use lib.Bits.{bit_and, and_mask, and_block, and_zero_r}
use Rattle.std.specs.Prelude.{Option, Some, None}
use Rattle.ebpf.specs.Opcode.{RSH, MOV, SUB, JEQ, JNE}
use Rattle.ebpf.specs.Insn.{alu32_imm, alu64_reg}
use Rattle.ebpf.specs.Alu.{alu32}
use Rattle.patches.specs.Code.{Slot}
use Rattle.patches.specs.Code.Slot.{fixed}
use Rattle.pieces.specs.Fragments.{emit_load, emit_cmp, fails, skips}
use Rattle.codegen.specs.Primitives.{emit_ether_multicast, emit_ip_broadcast, emit_ip_multicast, emit_ip6_multicast, vlan_id, emit_vlan, mpls_at, emit_mpls, session_id, emit_pppoe_session, emit_len}
use Rattle.filter.specs.Ast.{ether_proto_offset, net_offset, bytes_of}
use Rattle.filter.specs.declared.ast.LinkType.{LinkType}
use Rattle.filter.specs.declared.ast.AccessSize.TheVariants.{Byte, Half, Word}
use Rattle.filter.specs.declared.ast.CmpOp.{CmpOp}
use Rattle.filter.specs.declared.ast.CmpOp.TheVariants.{Eq, BitAnd}
use Rattle.checks.specs.Refusal.{etherless, unless_ether, ether_refusal}
use Rattle.meaning.specs.Frame.{there, number, passes}
use Rattle.meaning.specs.Meaning.{compared, ethertype_at, ethertype, tagged_at, tagged, ip, ip6, vlan, mpls, pppoe}
use Rattle.program.specs.Kinds.{rsh32}
use Rattle.program.specs.Ends.{Frame}
use Rattle.program.proofs.Registers.{r2, r3, r4}
use Rattle.program.proofs.Steps.{on_mov, on_sub}
use Rattle.sound.specs.Filled.{filled}
use Rattle.sound.specs.Piece.{knows, nothing, falls, Piece, Tests, Changes}
use Rattle.sound.specs.Reads.{Reads}
use Rattle.sound.specs.Fine.{FineId}
use Rattle.sound.proofs.Bools.{and_true}
use Rattle.sound.proofs.Pieces.{both, no_code, decides, forgets}
use Rattle.sound.proofs.Loads.{number_low}
use Rattle.sound.proofs.Compares.{takes_always, reads, reads_equal, compares_with, equal_either}
use Rattle.sound.proofs.Fields.{computes, field, checks}
use Rattle.filter.proofs.Links.{Low, net_low, ether_low}
use Rattle.filter.proofs.Links.Low.{below, absent}
use Rattle.sound.proofs.Ethertypes.{ethertype_means, is_ip}
use Rattle.sound.proofs.Addresses.{masks, changed_field}

-- The lowest bit is set or not.
lowest_bit : (x : ℕ) → not (eqb (bit_and x 1) 0) ≡ eqb (x % 2) 1
lowest_bit x = rw (and_mask x 1) (go (eqb (x % 2) 0) refl)
  where
    go : (t : Bool) → eqb (x % 2) 0 ≡ t → not t ≡ eqb (x % 2) 1
    go true e = sym (ne_eqb (x % 2) 1 (λ h. absurd (omega (arith, eqb-true (x % 2) 0 e))))
    go false e = sym (eq-eqb (x % 2) 1 (let n = eqb-false (x % 2) 0 e in omega arith))

-- The four highest bits of a word.
highest_bits : (x : ℕ) → x < 2 ^ 32 → bit_and x 0xf0000000 ≡ x / 2 ^ 28 * 2 ^ 28
highest_bits x l =
    let low : x % 2 ^ 28 < 2 ^ 28 = omega arith in
    let parts : x ≡ x / 2 ^ 28 * 2 ^ 28 + x % 2 ^ 28 = omega arith in
    let four : x / 2 ^ 28 % 16 ≡ x / 2 ^ 28 = omega arith in
    ap (λ (y : ℕ). bit_and y 0xf0000000) parts ∙ and_block 28 (x / 2 ^ 28) 15 (x % 2 ^ 28) 0 low (omega arith)
    ∙ rw (and_mask (x / 2 ^ 28) 4, four, and_zero_r (x % 2 ^ 28)) (omega arith)

-- "IpMulticast" by its highest bits: 1110.
multicast_bits : (x : ℕ) → x < 2 ^ 32 → eqb (bit_and x 0xf0000000) 0xe0000000 ≡ eqb (x / 2 ^ 28) 14
multicast_bits x l = rw (highest_bits x l) (go (eqb (x / 2 ^ 28) 14) refl)
  where
    go : (t : Bool) → eqb (x / 2 ^ 28) 14 ≡ t → eqb (x / 2 ^ 28 * 2 ^ 28) 0xe0000000 ≡ t
    go true e = rw (eqb-true (x / 2 ^ 28) 14 e)
    go false e = ne_eqb (x / 2 ^ 28 * 2 ^ 28) 0xe0000000 (λ h. eqb-false (x / 2 ^ 28) 14 e (omega arith))

-- Of two ethertypes one, and then a test.
either_type : (t p q r : Bool) → (t && ((p || q) && r)) ≡ (((t && p) || (t && q)) && r)
either_type true p q r = refl
either_type false p q r = refl

module _ {frame : List ℕ} {start : ℕ} (w : Frame frame start) where
  -- "multicast: bit 0 of byte 0".
  pub ether_multicast_means : (mode : ℕ) (link : LinkType)
      → Tests frame start (emit_ether_multicast mode link) (passes frame 1 0 (λ b. eqb (b % 2) 1))
  unfolding emit_ether_multicast emit_cmp compared passes bytes_of
  ether_multicast_means mode link =
      decides (field w Byte 0 (omega arith) (forgets (compares_with {mode = mode} BitAnd (reads BitAnd {k = 1} (omega arith)) (number_low w Byte 0))))
      (rw (lowest_bit (number frame 1 0)))

  module _ {mode : ℕ} {test : ℕ → Bool} (link : LinkType) where
    pub broadcast_means : Reads mode Eq 0xffffffff test → Tests frame start (emit_ip_broadcast mode link) (ip link frame 4 16 test)
    unfolding emit_ip_broadcast ip bytes_of
    broadcast_means r =
        let near = net_low link in
        both (is_ip w mode link) (λ t. checks w Word (net_offset link + 16) r (omega arith))

    pub multicast_means : Reads mode Eq 0xe0000000 test
        → Tests frame start (emit_ip_multicast mode link) (ip link frame 4 16 (λ x. test (bit_and x 0xf0000000)))
    unfolding emit_ip_multicast ip bytes_of
    multicast_means r =
        let near = net_low link in
        both (is_ip w mode link) (λ t. changed_field w r (masks 0xf0000000 (omega arith)) Word (net_offset link + 16) (omega arith))

  pub multicast_exact : (link : LinkType) → ip link frame 4 16 (λ x. eqb (bit_and x 0xf0000000) 0xe0000000) ≡ ip link frame 4 16 (λ x. eqb (x / 2 ^ 28) 14)
  unfolding ip passes bytes_of
  multicast_exact link = let x = number frame 4 (net_offset link + 16) in rw (multicast_bits x (number_low w Word (net_offset link + 16)))

  module _ (mode : ℕ) (link : LinkType) where
    pub ip6_multicast_means : ether_refusal link 0x86dd ≡ 0 → Tests frame start (emit_ip6_multicast mode link) (ip6 link frame 1 24 (eqb 0xff))
    unfolding emit_ip6_multicast ip6 bytes_of
    ip6_multicast_means e =
        let near = net_low link in
        both (ethertype_means w mode link 0x86dd (omega arith) e)
        (λ t. checks w Byte (net_offset link + 24) (reads_equal (takes_always mode (omega arith))) (omega arith))

  -- "Vlan: 0x8100, low 12 bits of the half at 14": of the half behind the ethertype, where there is one.
  vlan_tag : (mode : ℕ) (link : LinkType) (n : ℕ) → n < 65536 → (e : Option ℕ) → Low e → etherless e 11 ≡ 0
      → Tests frame start (vlan_id mode link e (Some n)) (tagged_at link frame e 2 2 (λ h. eqb n (h % 4096)))
  unfolding passes bytes_of
  vlan_tag mode link n m (Some off) (below h) r =
      decides (changed_field w (reads_equal (takes_always mode (omega arith))) (masks 0x0fff (omega arith)) Half (off + 2) (omega arith))
      (rw (and_mask (number frame 2 (off + 2)) 12))
  vlan_tag mode link n m None absent r = absurd (omega arith)

  no_vlan_tag : (mode : ℕ) (link : LinkType) (e : Option ℕ) → Tests frame start (vlan_id mode link e None) true
  no_vlan_tag mode link (Some off) = no_code
  no_vlan_tag mode link None = no_code

  pub vlan_means : (mode : ℕ) (link : LinkType) (id : Option ℕ) → FineId id → ether_refusal link 0x8100 ≡ 0
      → Tests frame start (emit_vlan mode link id) (vlan link frame id)
  unfolding emit_vlan vlan tagged ether_refusal unless_ether
  vlan_means mode link None m r =
      decides (both (ethertype_means w mode link 0x8100 (omega arith) r) (λ t. no_vlan_tag mode link (ether_proto_offset link))) (and_true _)
  vlan_means mode link (Some n) m r =
      both (ethertype_means w mode link 0x8100 (omega arith) r) (λ t. vlan_tag mode link n m (ether_proto_offset link) (ether_low link) r)

  -- "PPPoE session: 0x8864, half at 16".
  session_tag : (mode : ℕ) (link : LinkType) (n : ℕ) → n < 65536 → (e : Option ℕ) → Low e → etherless e 11 ≡ 0
      → Tests frame start (session_id mode link e (Some n)) (tagged_at link frame e 2 4 (eqb n))
  unfolding bytes_of
  session_tag mode link n m (Some off) (below h) r = checks w Half (off + 4) (reads_equal (takes_always mode (omega arith))) (omega arith)
  session_tag mode link n m None absent r = absurd (omega arith)

  no_session_tag : (mode : ℕ) (link : LinkType) (e : Option ℕ) → Tests frame start (session_id mode link e None) true
  no_session_tag mode link (Some off) = no_code
  no_session_tag mode link None = no_code

  pub pppoe_means : (mode : ℕ) (link : LinkType) (id : Option ℕ) → FineId id → ether_refusal link 0x8864 ≡ 0
      → Tests frame start (emit_pppoe_session mode link id) (pppoe link frame id)
  unfolding emit_pppoe_session pppoe tagged ether_refusal unless_ether
  pppoe_means mode link None m r =
      decides (both (ethertype_means w mode link 0x8864 (omega arith) r) (λ t. no_session_tag mode link (ether_proto_offset link))) (and_true _)
  pppoe_means mode link (Some n) m r =
      both (ethertype_means w mode link 0x8864 (omega arith) r) (λ t. session_tag mode link n m (ether_proto_offset link) (ether_low link) r)

  -- "MPLS: 0x8847 or 0x8848", before whatever is asked of the label.
  mpls_type : {ys : List Slot} {q : Bool} (mode off : ℕ) → off ≤ 16 → Tests frame start ys q
      → Tests frame start (emit_load Half off ++ (skips mode JEQ 0x8847 1 ∷ fails mode JNE 0x8848 ++ ys))
      ((passes frame 2 off (eqb 0x8847) || passes frame 2 off (eqb 0x8848)) && q)
  unfolding passes bytes_of fails
  mpls_type mode off h m =
      decides (field w Half off (omega arith) (both (forgets (equal_either
      (reads_equal (takes_always mode {k = 0x8847} (omega arith))) (reads_equal (takes_always mode {k = 0x8848} (omega arith))) (number_low w Half off)))
      (λ t. m)))
      (either_type (there frame 2 off) _ _ _)

  shifts_down : Changes frame start (fixed (alu32_imm RSH 4 12) ∷ []) (λ x. x / 4096)
  unfolding alu32
  shifts_down = record { makes = λ x l. computes (rsh32 (omega arith)) l; stays_low = λ x l. omega arith }

  -- "top 20 bits of the word at 14": of the word behind the ethertype, where there is one.
  pub mpls_means : (mode : ℕ) (link : LinkType) → unless_ether link 15 ≡ 0 → Tests frame start (emit_mpls mode link None) (mpls link frame None)
  unfolding emit_mpls mpls ethertype unless_ether
  mpls_means mode link r = go (ether_proto_offset link) (ether_low link) r
    where
      go : (e : Option ℕ) → Low e → etherless e 15 ≡ 0
          → Tests frame start (mpls_at mode link e None) (ethertype_at link frame e 0x8847 || ethertype_at link frame e 0x8848)
      go (Some off) (below h) q = decides (mpls_type mode off h no_code) (and_true _)
      go None absent q = absurd (omega arith)

  pub mpls_label_means : {mode : ℕ} {test : ℕ → Bool} (link : LinkType) (label : ℕ) → unless_ether link 15 ≡ 0 → Reads mode Eq label test
      → Tests frame start (emit_mpls mode link (Some label))
      ((ethertype link frame 0x8847 || ethertype link frame 0x8848) && tagged link frame 4 2 (λ x. test (x / 4096)))
  unfolding emit_mpls ethertype tagged bytes_of unless_ether
  mpls_label_means {mode} {test} link label r reads = go (ether_proto_offset link) (ether_low link) r
    where
      go : (e : Option ℕ) → Low e → etherless e 15 ≡ 0 → Tests frame start (mpls_at mode link e (Some label))
          ((ethertype_at link frame e 0x8847 || ethertype_at link frame e 0x8848) && tagged_at link frame e 4 2 (λ x. test (x / 4096)))
      go (Some off) (below h) q = mpls_type mode off h (changed_field w reads shifts_down Word (off + 2) (omega arith))
      go None absent q = absurd (omega arith)

  -- The length: R3 less R2.
  pub len_means : {mode k : ℕ} {test : ℕ → Bool} (link : LinkType) (op : CmpOp) → Reads mode op k test
      → Tests frame start (emit_len mode link op k) (test (length frame))
  unfolding emit_len filled
  len_means {mode} {k} link op r =
      let low : length frame < 2 ^ 32 = omega (arith, w.low) in
      let measure : Piece frame start falls nothing (knows (some (length frame)) none) nothing
      (fixed (alu64_reg MOV 4 3) ∷ fixed (alu64_reg SUB 4 2) ∷ []) true =
      record { runs = λ v a b rest h h' c0 c4 c5 c6 q. on_mov r4 r3 (on_sub r4 r2 (omega (arith, w.low)) (h refl c0 _ c5 c6 (refl, tt))) } in
      both measure (λ t. forgets (compares_with op r low))
