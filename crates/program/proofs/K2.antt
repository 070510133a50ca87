-- K2 of document 01, Ethernet `ip` in plain mode, on every frame: a first use of the laws.
use Prim.Native.Nat.{ℕ, ◌+◌, ◌*◌, ◌<◌, ◌≤◌}
use mathlib.Core.Path.{◌≡◌, refl, sym, ap, ◌∙◌}
use mathlib.Core.Bool.{Bool, true, false, not, cond, ◌&&◌}
use mathlib.Core.List.{List, [], ◌∷◌}
use native.Mathlib.Omega.{arith}
use borrow.Author.Tests.{le-leb, lt-leb, ltb-true, eqb-true, eqb-false, eq-eqb, ne_eqb, not-true, not-false}
use lib.Dec.{eqb, leb}
use lib.ListN.{length, get_or}
use Rattle.ebpf.specs.Opcode.{ADD, MOV, JGT, JNE, JMP, WORD, HALF}
use Rattle.ebpf.specs.Insn.{new, to_le_bytes, alu64_reg, alu64_imm, to_be, ldx, jump_imm, jump_reg, exit_insn}
use Rattle.ebpf.specs.Alu.{compares}
use Rattle.ebpf.specs.Regs.{fresh}
use Rattle.ebpf.specs.Run.{run_of}
use Rattle.ebpf.specs.declared.insn.Insn.{Insn}
use Rattle.program.specs.Program.{code_of, Fits, none}
use Rattle.program.specs.Kinds.{jmp, jne, half, bits16}
use Rattle.program.specs.Ends.{Ends, Exits, Frame, At}
use Rattle.program.proofs.Bytes.{fits_new}
use Rattle.program.proofs.Registers.{r0, r2, r3, r4, r5}
use Rattle.program.proofs.Steps.{on_mov, on_add_imm, on_jgt, on_load, on_swap, on_compare, on_mov_imm, on_exit, on_skip}
use Rattle.program.proofs.Values.{half_value}
use Rattle.program.proofs.Whole.{on_prologue, run_ends}

-- The listing's instructions: the frame's ends, the test of the half at 12, and the two exits.
abbrev pub k2 : List Insn
k2 =
    ldx WORD 2 1 0 ∷ ldx WORD 3 1 4
    ∷ alu64_reg MOV 5 2 ∷ alu64_imm ADD 5 14 ∷ jump_reg JGT 5 3 5 ∷ ldx HALF 4 2 12 ∷ to_be 16 4 ∷ jump_imm JMP JNE 4 0x0800 2
    ∷ alu64_imm MOV 0 2 ∷ exit_insn ∷ alu64_imm MOV 0 1 ∷ exit_insn ∷ []

-- "Ethertype x: the half at 12 is x", of 0x0800, byte by byte.
abbrev pub is_ip : List ℕ → Bool
is_ip frame = leb 14 (length frame) && (eqb (get_or frame 12 0) 8 && eqb (get_or frame 13 0) 0)

half_is : (a b : ℕ) (s t : Bool) → b < 256 → eqb a 8 ≡ s → eqb b 0 ≡ t → eqb (a * 256 + b) 0x0800 ≡ (s && t)
half_is a b true true h p q = eq-eqb (a * 256 + b) 0x0800 (omega (arith, eqb-true a 8 p, eqb-true b 0 q))
half_is a b true false h p q = ne_eqb (a * 256 + b) 0x0800 (λ e. eqb-false b 0 q (omega arith))
half_is a b false t h p q = ne_eqb (a * 256 + b) 0x0800 (λ e. eqb-false a 8 p (omega arith))

too_short : (frame : List ℕ) → length frame < 14 → is_ip frame ≡ false
too_short frame h = rw (lt-leb 14 (length frame) h)

-- The one comparison, where the half is there.
compared : (frame : List ℕ) → get_or frame 13 0 < 256 → 14 ≤ length frame
    → compares JNE (get_or frame 12 0 * 256 + get_or frame 13 0) 0x0800 ≡ not (is_ip frame)
unfolding compares
compared frame b h = rw (le-leb 14 (length frame) h) (ap not (half_is (get_or frame 12 0) (get_or frame 13 0) _ _ b refl refl))

k2_fits : Fits k2
k2_fits = search (fits_new, none, ltb-true) depth 20

module _ {frame : List ℕ} {start : ℕ} (w : Frame frame start) where
  -- The test, whatever follows it: the piece of code that a generator emits for `ip`.
  on_ip : {v : ℕ} {rest : List Insn} → (is_ip frame ≡ true → At frame start v 0 rest) → (is_ip frame ≡ false → At frame start v 2 rest)
      → At frame start v 0 (
      alu64_reg MOV 5 2 ∷ alu64_imm ADD 5 14 ∷ jump_reg JGT 5 3 5 ∷ ldx HALF 4 2 12 ∷ to_be 16 4 ∷ jump_imm JMP JNE 4 0x0800 2 ∷ rest)
  on_ip h h' c0 c4 c5 c6 =
      on_mov r5 r2 (on_add_imm r5 (omega arith) (omega (arith, w.low)) (on_jgt r5 r3
      (λ p. on_skip (on_skip (on_skip (h' (too_short frame (omega arith)) _ _ _ _))))
      (λ p. let c = compared frame (w.byte 13) (omega arith) in
      on_load 12 half r4 r2 (omega arith) refl (omega arith) w.low (on_swap bits16 r4 (rw (half_value frame w.byte 12)
      (on_compare 0x0800 jmp jne r4 (λ e. omega arith) (omega (arith, w.byte 12, w.byte 13))
      (λ t. h' (not-true (is_ip frame) (sym c ∙ t)) _ _ _ _)
      (λ t. h (not-false (is_ip frame) (sym c ∙ t)) _ _ _ _)))))))

  k2_ends : Ends frame start (cond (is_ip frame) 2 1) 0 k2 fresh
  k2_ends =
      on_prologue w (on_ip
      (λ t. rw t (λ c0 c4 c5 c6. on_mov_imm r0 (omega arith) (on_exit r0)))
      (λ t. rw t (λ c0 c4 c5 c6. on_skip (on_skip (on_mov_imm r0 (omega arith) (on_exit r0))))))

  -- THEOREM: K2 passes (2) an IPv4 frame and drops (1) every other.
  pub k2_runs : Exits (cond (is_ip frame) 2 1) 12 (run_of (code_of k2) frame start 12)
  k2_runs = run_ends w k2_fits (omega arith) k2_ends

-- The listing of document 01.
pub k2_bytes : code_of k2
    ≡ 0x61 ∷ 0x12 ∷ 0x00 ∷ 0x00 ∷ 0x00 ∷ 0x00 ∷ 0x00 ∷ 0x00
    ∷ 0x61 ∷ 0x13 ∷ 0x04 ∷ 0x00 ∷ 0x00 ∷ 0x00 ∷ 0x00 ∷ 0x00
    ∷ 0xbf ∷ 0x25 ∷ 0x00 ∷ 0x00 ∷ 0x00 ∷ 0x00 ∷ 0x00 ∷ 0x00
    ∷ 0x07 ∷ 0x05 ∷ 0x00 ∷ 0x00 ∷ 0x0e ∷ 0x00 ∷ 0x00 ∷ 0x00
    ∷ 0x2d ∷ 0x35 ∷ 0x05 ∷ 0x00 ∷ 0x00 ∷ 0x00 ∷ 0x00 ∷ 0x00
    ∷ 0x69 ∷ 0x24 ∷ 0x0c ∷ 0x00 ∷ 0x00 ∷ 0x00 ∷ 0x00 ∷ 0x00
    ∷ 0xdc ∷ 0x04 ∷ 0x00 ∷ 0x00 ∷ 0x10 ∷ 0x00 ∷ 0x00 ∷ 0x00
    ∷ 0x55 ∷ 0x04 ∷ 0x02 ∷ 0x00 ∷ 0x00 ∷ 0x08 ∷ 0x00 ∷ 0x00
    ∷ 0xb7 ∷ 0x00 ∷ 0x00 ∷ 0x00 ∷ 0x02 ∷ 0x00 ∷ 0x00 ∷ 0x00
    ∷ 0x95 ∷ 0x00 ∷ 0x00 ∷ 0x00 ∷ 0x00 ∷ 0x00 ∷ 0x00 ∷ 0x00
    ∷ 0xb7 ∷ 0x00 ∷ 0x00 ∷ 0x00 ∷ 0x01 ∷ 0x00 ∷ 0x00 ∷ 0x00
    ∷ 0x95 ∷ 0x00 ∷ 0x00 ∷ 0x00 ∷ 0x00 ∷ 0x00 ∷ 0x00 ∷ 0x00 ∷ []
unfolding code_of to_le_bytes new
k2_bytes = refl
