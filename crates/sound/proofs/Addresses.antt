-- IPv4 addresses and nets: one word under a mask, on the side that the direction says.
use Prim.Native.Nat.{ℕ, ◌+◌, ◌^◌, ◌<◌, ◌≤◌}
use mathlib.Core.Path.{◌≡◌, refl}
use mathlib.Core.Bool.{Bool, true, false, ◌&&◌, ◌||◌}
use mathlib.Core.List.{List, [], ◌∷◌, ◌++◌}
use native.Mathlib.Omega.{arith}
use borrow.Author.Tests.{leb-false, lt-leb}
use lib.ListN.{length}
use lib.Bits.{bit_and}
use Rattle.ebpf.specs.Opcode.{AND, JNE}
use Rattle.ebpf.specs.Insn.{alu32_imm}
use Rattle.ebpf.specs.Alu.{alu32}
use Rattle.patches.specs.Code.{Slot}
use Rattle.patches.specs.Code.Slot.{fixed}
use Rattle.pieces.specs.Fragments.{emit_load, fails}
use Rattle.codegen.specs.Primitives.{check_word_at, check_addr4, emit_host4, emit_net}
use Rattle.filter.specs.Ast.{net_offset, bytes_of}
use Rattle.filter.specs.declared.ast.LinkType.{LinkType}
use Rattle.filter.specs.declared.ast.IpNet.{IpNet}
use Rattle.filter.specs.declared.ast.Dir.{Dir}
use Rattle.filter.specs.declared.ast.Dir.TheVariants.{SrcOrDst, Src, Dst, SrcAndDst}
use Rattle.filter.specs.declared.ast.AccessSize.{AccessSize}
use Rattle.filter.specs.declared.ast.AccessSize.TheVariants.{Word}
use Rattle.filter.specs.declared.ast.CmpOp.TheVariants.{Eq}
use Rattle.meaning.specs.Frame.{there, number, passes}
use Rattle.meaning.specs.Meaning.{directed, ethertype}
use Rattle.program.specs.Kinds.{and32}
use Rattle.program.specs.Ends.{Frame}
use Rattle.program.proofs.Values.{arithmetic_fits}
use Rattle.sound.specs.Piece.{Tests, Means, Changes}
use Rattle.sound.specs.Reads.{Reads}
use Rattle.sound.proofs.Pieces.{both, no_code, decides, forgets, ignores, lands}
use Rattle.sound.proofs.Loads.{number_low}
use Rattle.sound.proofs.Compares.{fails_unless_equal, equal_or}
use Rattle.sound.proofs.Fields.{computes, field}
use Rattle.filter.proofs.Links.{net_low}
use Rattle.sound.proofs.Ethertypes.{is_ip}

-- Where the second is not there without the first, the first's being there can be asked before either test.
first_there : (t t' p q : Bool) → (t ≡ false → t' ≡ false) → (t && (p || (t' && q))) ≡ ((t && p) || (t' && q))
first_there true t' p q h = refl
first_there false t' p q h = rw (h refl)

module _ {frame : List ℕ} {start : ℕ} where
  pub unchanged : Changes frame start [] (λ x. x)
  unchanged = record { makes = λ x l. no_code; stays_low = λ x l. l }

  pub masks : (mask : ℕ) → mask < 2 ^ 32 → Changes frame start (fixed (alu32_imm AND 4 mask) ∷ []) (λ x. bit_and x mask)
  unfolding alu32
  masks mask m = record { makes = λ x l. computes and32 l; stays_low = λ x l. arithmetic_fits x (and32 {imm = mask}) l m }

  module _ (w : Frame frame start) {mode k : ℕ} {test : ℕ → Bool} {work : ℕ → ℕ} {masked : List Slot} (r : Reads mode Eq k test)
      (c : Changes frame start masked work) where
    -- A field, what a piece makes of it, and the check.
    pub changed_field : (size : AccessSize) (off : ℕ) → off < 2 ^ 15
        → Tests frame start (emit_load size off ++ (masked ++ fails mode JNE k)) (passes frame (bytes_of size) off (λ x. test (work x)))
    unfolding passes
    changed_field size off m =
        let low = number_low w size off in
        let x : ℕ = number frame (bytes_of size) off in
        field w size off m (both (c.makes x low) (λ t. forgets (fails_unless_equal r (c.stays_low x low))))

    -- `check_addr4` and its like: the source's word stands before the destination's.
    pub words_mean : (link : LinkType) (src dst : ℕ) (dir : Dir) → src ≤ dst → dst < 2 ^ 15
        → Means frame start (check_addr4 mode link masked k src dst dir)
        (directed dir (passes frame 4 src (λ x. test (work x))) (passes frame 4 dst (λ x. test (work x))))
    unfolding check_addr4 check_word_at directed bytes_of passes there
    words_mean link src dst SrcOrDst o m =
        let low = number_low w Word src in
        let x : ℕ = number frame 4 src in
        decides (field w Word src (omega arith)
        (both (c.makes x low) (λ t. equal_or r (c.stays_low x low) (ignores (lands (changed_field Word dst m))))))
        (first_there (there frame 4 src) (there frame 4 dst) (test (work x)) (test (work (number frame 4 dst)))
        (λ e. let short = leb-false (src + 4) (length frame) e in lt-leb (dst + 4) (length frame) (omega arith)))
    words_mean link src dst Src o m = lands (changed_field Word src (omega arith))
    words_mean link src dst Dst o m = lands (changed_field Word dst m)
    words_mean link src dst SrcAndDst o m = lands (both (changed_field Word src (omega arith)) (λ t. changed_field Word dst m))

  module _ (w : Frame frame start) {mode : ℕ} {test : ℕ → Bool} (link : LinkType) (dir : Dir) where
    -- "`ip` tests: ethertype 0x0800, then the field": an address, and a net under its mask.
    pub host_means : (addr : ℕ) → Reads mode Eq addr test
        → Means frame start (emit_host4 mode link addr dir)
        (ethertype link frame 0x0800 && directed dir (passes frame 4 (net_offset link + 12) test) (passes frame 4 (net_offset link + 16) test))
    unfolding emit_host4
    host_means addr r =
        let near = net_low link in
        both (is_ip w mode link) (λ t. words_mean w r unchanged link (net_offset link + 12) (net_offset link + 16) dir (omega arith) (omega arith))

    pub net_means : (net : IpNet) → net.mask < 2 ^ 32 → Reads mode Eq (bit_and net.addr net.mask) test
        → Means frame start (emit_net mode link net dir)
        (ethertype link frame 0x0800 && directed dir (passes frame 4 (net_offset link + 12) (λ x. test (bit_and x net.mask)))
        (passes frame 4 (net_offset link + 16) (λ x. test (bit_and x net.mask))))
    unfolding emit_net
    net_means net m r =
        let near = net_low link in
        both (is_ip w mode link)
        (λ t. words_mean w r (masks net.mask m) link (net_offset link + 12) (net_offset link + 16) dir (omega arith) (omega arith))
