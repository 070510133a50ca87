-- IPv6 addresses and nets: half by half, as far as the prefix goes.
use Prim.Native.Nat.{ℕ, zero, suc, ◌+◌, ◌-◌, ◌*◌, ◌/◌, ◌%◌, ◌^◌, ◌<◌}
use mathlib.Core.Path.{◌≡◌, ◌∙◌}
use mathlib.Core.Bool.{Bool, true, false, cond, ◌&&◌}
use mathlib.Core.List.{List, [], ◌∷◌, ◌++◌}
use native.Mathlib.Omega.{arith}
use native.Mathlib.Nat.{mod-eq_of_lt}
use lib.Dec.{eqb, leb, ltb}
use lib.Bits.{bit_and, and_mask, and_le_l}
use Rattle.ebpf.specs.Opcode.{AND, JNE}
use Rattle.ebpf.specs.Insn.{alu32_imm}
use Rattle.patches.specs.Code.{Slot}
use Rattle.patches.specs.Code.Slot.{fixed}
use Rattle.pieces.specs.Fragments.{emit_load, fails, check}
use Rattle.filter.specs.Prefix.{prefix_mask}
use Rattle.filter.proofs.Masks.{mask_low}
use Rattle.codegen.specs.Primitives.{check_segment, check_net6, emit_net6}
use Rattle.filter.specs.Ast.{net_offset, segment_of, bytes_of}
use Rattle.filter.specs.declared.ast.LinkType.{LinkType}
use Rattle.filter.specs.declared.ast.Ipv6Addr.{Ipv6Addr}
use Rattle.filter.specs.declared.ast.Dir.{Dir}
use Rattle.filter.specs.declared.ast.AccessSize.TheVariants.{Half}
use Rattle.filter.specs.declared.ast.CmpOp.TheVariants.{Eq}
use Rattle.checks.specs.Refusal.{ether_refusal}
use Rattle.meaning.specs.Frame.{number, passes}
use Rattle.meaning.specs.Meaning.{compared, covered, half_mask, halves, net6}
use Rattle.program.specs.Ends.{Frame}
use Rattle.sound.specs.Piece.{Tests, Means}
use Rattle.sound.proofs.Pieces.{both, no_code, decides, by_direction}
use Rattle.sound.proofs.Loads.{number2_low}
use Rattle.sound.proofs.Compares.{takes_always, reads}
use Rattle.sound.proofs.Fields.{checks}
use Rattle.filter.proofs.Links.{net_low}
use Rattle.sound.proofs.Ethertypes.{ethertype_means}
use Rattle.sound.proofs.Addresses.{masks, changed_field}

pub half_low : (addr : Ipv6Addr) (i : ℕ) → segment_of addr i < 65536
unfolding segment_of
half_low addr i = go (ltb i 4)
  where
    go : (high : Bool) → cond high (addr.hi / 2 ^ (16 * (3 - i)) % 65536) (addr.lo / 2 ^ (16 * (7 - i)) % 65536) < 65536
    go true = omega arith
    go false = omega arith

-- All sixteen bits of a half.
whole_half : (h : ℕ) → h < 65536 → bit_and h 65535 ≡ h
whole_half h l = and_mask h 16 ∙ mod-eq_of_lt l

module _ {frame : List ℕ} {start : ℕ} (w : Frame frame start) (mode : ℕ) (link : LinkType) (addr : Ipv6Addr) (prefix : ℕ) where
  -- The bits of a half that count, all or some of them: as the code asks, and as document 01 says it.
  half_as : (full : Bool) (bits off k : ℕ) → k < 65536 → off < 2 ^ 15
      → Tests frame start (emit_load Half off ++ cond full (fails mode JNE k)
      (fixed (alu32_imm AND 4 (prefix_mask bits)) ∷ fails mode JNE (bit_and k (prefix_mask bits))))
      (passes frame 2 off (λ h. eqb (bit_and h (prefix_mask (cond full 16 bits))) (bit_and k (prefix_mask (cond full 16 bits)))))
  unfolding check prefix_mask passes bytes_of compared
  half_as true bits off k l m =
      decides (checks w Half off (reads Eq (takes_always mode {k = k} (omega arith))) m)
      (rw (whole_half k l, whole_half (number frame 2 off) (number2_low w off)))
  half_as false bits off k l m =
      let mask = mask_low bits in
      changed_field w (reads Eq (takes_always mode (omega (arith, and_le_l k (prefix_mask bits))))) (masks (prefix_mask bits) (omega arith)) Half off m

  half_means : (at i : ℕ) → at + 2 * i < 2 ^ 15
      → Tests frame start (check_segment mode link addr prefix at i)
      (passes frame 2 (at + 2 * i) (λ h. eqb (bit_and h (half_mask prefix i)) (bit_and (segment_of addr i) (half_mask prefix i))))
  unfolding check_segment segment_of prefix_mask half_mask covered
  half_means at i m = half_as (leb (16 * i + 16) prefix) (prefix - 16 * i) (at + 2 * i) (segment_of addr i) (half_low addr i) m

  -- n halves from half i on.
  halves_mean : (at n i : ℕ) → at + 2 * i + 2 * n < 2 ^ 15
      → Tests frame start (check_net6 mode link addr prefix at n i) (halves link frame addr prefix at n i)
  unfolding check_net6 halves
  halves_mean at zero i m = no_code
  halves_mean at (suc n) i m = go (leb prefix (16 * i)) (halves_mean at n (suc i) (omega arith))
    where
      go : (past-it : Bool) {ys : List Slot} {q : Bool} → Tests frame start ys q
          → Tests frame start (cond past-it [] (check_segment mode link addr prefix at i ++ ys))
          (cond past-it true (passes frame 2 (at + 2 * i) (λ h. eqb (bit_and h (half_mask prefix i)) (bit_and (segment_of addr i) (half_mask prefix i))) && q))
      go true more = no_code
      go false more = both (half_means at i (omega arith)) (λ t. more)

  -- "source net+8, destination net+24".
  pub net6_means : (dir : Dir) → ether_refusal link 0x86dd ≡ 0 → Means frame start (emit_net6 mode link addr prefix dir) (net6 link frame addr prefix dir)
  unfolding emit_net6 net6
  net6_means dir e =
      let near = net_low link in
      both (ethertype_means w mode link 0x86dd (omega arith) e)
      (λ t. by_direction dir (halves_mean (net_offset link + 8) 8 0 (omega arith)) (halves_mean (net_offset link + 24) 8 0 (omega arith)))
