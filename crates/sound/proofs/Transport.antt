-- The transport header: R6 at it, behind IPv4 and IPv6, with the protocol that ports are asked with.
use Prim.Native.Nat.{ℕ, ◌+◌, ◌*◌, ◌%◌, ◌^◌, ◌<◌, ◌≤◌}
use mathlib.Core.Path.{◌≡◌, refl}
use mathlib.Core.Bool.{Bool, true, false, cond, ◌&&◌, ◌||◌}
use mathlib.Core.List.{List, [], ◌∷◌}
use mathlib.Core.Option.{none, some}
use native.Mathlib.Omega.{arith}
use native.Mathlib.Nat.{add_assoc}
use borrow.Author.Tests.{leb-true}
use lib.Dec.{eqb}
use lib.ListN.{length}
use lib.Bits.{and_mask}
use Rattle.std.specs.Prelude.{Option, Some, None}
use Rattle.filter.specs.declared.ast.Proto.{Proto}
use Rattle.ebpf.specs.Opcode.{ADD, AND, LSH, MOV}
use Rattle.ebpf.specs.Insn.{alu32_imm, alu64_imm, alu64_reg}
use Rattle.ebpf.specs.Alu.{alu32}
use Rattle.patches.specs.Code.Slot.{fixed}
use Rattle.pieces.specs.Fragments.{past, transport, fails}
use Rattle.codegen.specs.Primitives.{emit_l4_proto_check, prereqs_v4, prereqs_v6, emit_port_prereqs}
use Rattle.filter.specs.Ast.{ether_proto_offset, net_offset, bytes_of}
use Rattle.filter.specs.declared.ast.LinkType.{LinkType}
use Rattle.filter.specs.declared.ast.AccessSize.TheVariants.{Byte, Half}
use Rattle.filter.specs.declared.ast.Proto.TheVariants.{Ip, Ip6, Arp, Rarp, Tcp, Udp, Icmp, Icmp6, Igmp, Sctp, Num, Ip6Proto}
use Rattle.checks.specs.Refusal.{port_refusal, l4_refusal}
use Rattle.meaning.specs.Frame.{there, number, passes}
use Rattle.meaning.specs.Meaning.{l4, given, ethertype, ip, ip6, start4, start6}
use Rattle.program.specs.Kinds.{and32, lsh32}
use Rattle.program.specs.Ends.{Frame}
use Rattle.program.proofs.Registers.{r2, r4, r6}
use Rattle.program.proofs.Values.{arithmetic_fits}
use Rattle.program.proofs.Steps.{on_mov, on_add, on_add_imm, on_arithmetic}
use Rattle.sound.specs.Filled.{filled}
use Rattle.sound.specs.Piece.{Known, knows, nothing, falls, Piece, Tests}
use Rattle.sound.specs.Transport.{Header}
use Rattle.checks.proofs.Bounds.{second_true}
use Rattle.sound.proofs.Bools.{or_false, and_true, and_assoc}
use Rattle.sound.proofs.Pieces.{both, decides, forgets, forgets_on_failure, ignores}
use Rattle.sound.proofs.Loads.{loads, guards, number1_low, number_low}
use Rattle.sound.proofs.Compares.{takes_always, reads_equal, fails_unless_equal, equal_either, two_ways}
use Rattle.sound.proofs.Fields.{field, checks}
use Rattle.filter.proofs.Links.{Low, net_low, ether_low}
use Rattle.filter.proofs.Links.Low.{below, absent}
use Rattle.sound.proofs.Ethertypes.{not_both}

-- "four times the low four bits".
header_length : (x : ℕ) → alu32 LSH (alu32 AND x 0x0f) 2 ≡ 4 * (x % 16)
unfolding alu32
header_length x = rw (and_mask x 4) (omega arith)

pub start4_low : (link : LinkType) (frame : List ℕ) → start4 link frame ≤ 76
unfolding start4
start4_low link frame = let near = net_low link in omega arith

module _ {frame : List ℕ} {start : ℕ} (w : Frame frame start) where
  -- From byte net in R4 to the transport header in R6.
  to_header : {else : Known} (net x : ℕ) → net ≤ 16 → x < 256
      → Piece frame start falls (knows (some x) none) (knows none (some (start + (net + 4 * (x % 16))))) else
      (fixed (alu32_imm AND 4 0x0f) ∷ fixed (alu32_imm LSH 4 2) ∷ fixed (alu64_reg MOV 6 2) ∷ fixed (alu64_imm ADD 6 net) ∷ fixed (alu64_reg ADD 6 4) ∷ []) true
  unfolding filled
  to_header net x m l =
      let low = arithmetic_fits x (and32 {imm = 0x0f}) (omega arith) (omega arith) in
      let e = header_length x in
      record {
        runs = λ v a b rest h h' c0 c4 c5 c6 q. rw q.0
            (on_arithmetic and32 r4 (omega arith) (on_arithmetic (lsh32 (omega arith)) r4 low
            (on_mov r6 r2 (on_add_imm r6 (omega arith) (omega (arith, w.low)) (on_add r6 r4 (omega (arith, w.low, e))
            (rw (e, add_assoc start net (4 * (x % 16))) (h refl c0 _ c5 _ (tt, refl))))))));
      }

  -- "Transport start: .. IPv4 net plus four times the low four bits of byte net."
  pub transports : (link : LinkType)
      → Piece frame start falls nothing (knows none (some (start + start4 link frame))) nothing (transport (net_offset link))
      (there frame 1 (net_offset link))
  unfolding transport start4 bytes_of
  transports link =
      let near = net_low link in
      decides (both (loads w Byte (net_offset link) (omega arith))
      (λ t. to_header (net_offset link) (number frame 1 (net_offset link)) near (number1_low w (net_offset link)))) (and_true _)

  -- `emit_l4_proto_check`: "protocol as given or, with none, 6 or 17."
  l4_means : (mode : ℕ) (link : LinkType) (off : ℕ) (proto : Option Proto) → port_refusal proto ≡ 0 → off < 2 ^ 15
      → Tests frame start (emit_l4_proto_check mode link off proto) (passes frame 1 off (l4 proto))
  unfolding emit_l4_proto_check l4 given passes bytes_of port_refusal l4_refusal
  l4_means mode link off None e m =
      field w Byte off m (forgets (equal_either (reads_equal (takes_always mode {k = 6} (omega arith)))
      (reads_equal (takes_always mode {k = 17} (omega arith))) (number_low w Byte off)))
  l4_means mode link off (Some Tcp) e m = checks w Byte off (reads_equal (takes_always mode (omega arith))) m
  l4_means mode link off (Some Udp) e m = checks w Byte off (reads_equal (takes_always mode (omega arith))) m
  l4_means mode link off (Some Sctp) e m = checks w Byte off (reads_equal (takes_always mode (omega arith))) m
  l4_means mode link off (Some Ip) e m = absurd (omega arith)
  l4_means mode link off (Some Ip6) e m = absurd (omega arith)
  l4_means mode link off (Some Arp) e m = absurd (omega arith)
  l4_means mode link off (Some Rarp) e m = absurd (omega arith)
  l4_means mode link off (Some Icmp) e m = absurd (omega arith)
  l4_means mode link off (Some Icmp6) e m = absurd (omega arith)
  l4_means mode link off (Some Igmp) e m = absurd (omega arith)
  l4_means mode link off (Some (Num n)) e m = absurd (omega arith)
  l4_means mode link off (Some (Ip6Proto n)) e m = absurd (omega arith)

  module _ (mode : ℕ) (link : LinkType) (proto : Option Proto) (e : port_refusal proto ≡ 0) where
    -- The block of IPv4, and the block of IPv6.
    four_comes : Piece frame start falls nothing (knows none (some (start + start4 link frame))) nothing (prereqs_v4 mode link proto)
        (passes frame 1 (net_offset link + 9) (l4 proto) && (there frame 1 (net_offset link) && there frame 4 (start4 link frame)))
    unfolding prereqs_v4
    four_comes =
        let near = net_low link in
        let low = start4_low link frame in
        both (l4_means mode link (net_offset link + 9) proto e (omega arith))
        (λ t. both (transports link) (λ t. forgets_on_failure (guards w (start4 link frame) 4 (omega arith) (omega arith))))

    six_comes : Piece frame start falls nothing (knows none (some (start + start6 link frame))) nothing (prereqs_v6 mode link proto)
        (passes frame 1 (net_offset link + 6) (l4 proto) && there frame 4 (start6 link frame))
    unfolding prereqs_v6 start6 filled
    six_comes =
        let near = net_low link in
        let moves : Piece frame start falls nothing (knows none (some (start + (net_offset link + 40)))) nothing
        (fixed (alu64_reg MOV 6 2) ∷ fixed (alu64_imm ADD 6 (net_offset link + 40)) ∷ []) true =
        record {
          runs = λ v a b rest h h' c0 c4 c5 c6 q.
              on_mov r6 r2 (on_add_imm r6 (omega arith) (omega (arith, w.low)) (h refl c0 _ c5 _ (tt, refl)));
        } in
        both (l4_means mode link (net_offset link + 6) proto e (omega arith))
        (λ t. both moves (λ t. forgets_on_failure (guards w (net_offset link + 40) 4 (omega arith) (omega arith))))

-- The two blocks by ethertype, and a test at the place that they come to: as the code asks, and as document 01 says it.
one_block : (p b g d : Bool) → ((p && (b && g)) && d) ≡ ((p && (b && (g && d))) || false)
one_block p b g d = simp (and_assoc, or_false)

by_block : (t four six p b g p' g' : Bool) (test : ℕ → Bool) (s s' : ℕ) → (four ≡ true → six ≡ false)
    → ((t && cond four (p && (b && g)) (six && (p' && g'))) && test (cond four s s'))
    ≡ ((((t && four) && p) && (b && (g && test s))) || (((t && six) && p') && (g' && test s')))
by_block false four six p b g p' g' test s s' h = refl
by_block true true six p b g p' g' test s s' h = rw (h refl) (one_block p b g (test s))
by_block true false six p b g p' g' test s s' h = simp and_assoc

-- Where they come, four bytes are there.
block_room : (room : ℕ → Bool) (t four six p b p' : Bool) (s s' : ℕ)
    → (t && cond four (p && (b && room s)) (six && (p' && room s'))) ≡ true → room (cond four s s') ≡ true
block_room room t true six p b p' s s' e = second_true b (room s) (second_true p (b && room s) (second_true t (p && (b && room s)) e))
block_room room t false six p b p' s s' e = second_true p' (room s') (second_true six (p' && room s') (second_true t (six && (p' && room s')) e))

module _ {frame : List ℕ} {start : ℕ} (w : Frame frame start) where
  four_there : (at : ℕ) → there frame 4 at ≡ true → at + 4 ≤ length frame
  unfolding there
  four_there at e = leb-true (at + 4) (length frame) e

  -- "IPv4 or IPv6 (RawIp: IPv4 only)": the transport header that ports stand in.
  pub header_comes : (mode : ℕ) (link : LinkType) (proto : Option Proto) → port_refusal proto ≡ 0 → Header frame start mode link proto
  unfolding emit_port_prereqs ip ip6 ethertype passes bytes_of past fails
  header_comes mode link proto r = go (ether_proto_offset link) refl (ether_low link)
    where
      s : ℕ
      s = start4 link frame

      s' : ℕ
      s' = start6 link frame

      p : Bool
      p = passes frame 1 (net_offset link + 9) (l4 proto)

      p' : Bool
      p' = passes frame 1 (net_offset link + 6) (l4 proto)

      b : Bool
      b = there frame 1 (net_offset link)

      go : (e : Option ℕ) → ether_proto_offset link ≡ e → Low e → Header frame start mode link proto
      go (Some off) q (below h) =
          let x : ℕ = number frame 2 off in
          let small = number_low w Half off in
          record {
            place = cond (eqb 0x0800 x) s s';
            found = there frame 2 off && cond (eqb 0x0800 x) (p && (b && there frame 4 s)) (eqb 0x86dd x && (p' && there frame 4 s'));
            comes = rw q (both (loads w Half off (omega arith)) (λ t. two_ways (λ four. knows none (some (start + cond four s s')))
                (reads_equal (takes_always mode {k = 0x0800} (omega arith))) small (ignores (four_comes w mode link proto r))
                (both (forgets (fails_unless_equal (reads_equal (takes_always mode {k = 0x86dd} (omega arith))) small)) (λ t. six_comes w mode link proto r))));
            room = λ t. four_there (cond (eqb 0x0800 x) s s') (block_room (there frame 4) (there frame 2 off) (eqb 0x0800 x) (eqb 0x86dd x) p b p' s s' t);
            exact = λ test. rw q (by_block (there frame 2 off) (eqb 0x0800 x) (eqb 0x86dd x) p b (there frame 4 s) p' (there frame 4 s') test s s'
                (not_both 0x0800 0x86dd x refl));
          }
      go None q absent =
          record {
            place = s;
            found = p && (b && there frame 4 s);
            comes = rw q (four_comes w mode link proto r);
            room = λ t. four_there s (second_true b (there frame 4 s) (second_true p (b && there frame 4 s) t));
            exact = λ test. rw q (one_block p b (there frame 4 s) (test s));
          }
