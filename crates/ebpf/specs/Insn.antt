-- An instruction, its eight bytes, and the forms that a filter program is made of (RFC 9669, sections 3 to 5).
use Rattle.std.specs.Prelude.{ℕ, ◌+◌, ◌*◌, ◌/◌, ◌%◌, cond, List, [], ◌∷◌, Option, Some, None, length, nat_le, slice_index}
use Rattle.std.proofs.lemmas.List.Edits.{sets}
use Rattle.ebpf.specs.Opcode.{LDX, ALU, JMP, ALU64, K, X, END, TO_BE, JA, EXIT, MEM, opcode, load_opcode}
use Rattle.ebpf.specs.declared.insn.Insn.{Insn}

-- Section 3.1: the destination register stands in the low four bits of `regs`, the source register in the high four.
unfoldable pub new : ℕ → ℕ → ℕ → ℕ → ℕ → Insn
new code dst src off imm = record { code = code; regs = dst % 16 + src % 16 * 16; off = off; imm = imm }

unfoldable pub dst_of : Insn → ℕ
dst_of i = i.regs % 16

unfoldable pub src_of : Insn → ℕ
src_of i = i.regs / 16

-- Section 4.1: 64-bit arithmetic with a register and with an immediate, 32-bit arithmetic with an immediate.
abbrev pub alu64_reg : ℕ → ℕ → ℕ → Insn
alu64_reg operation dst src = new (opcode operation X ALU64) dst src 0 0

abbrev pub alu64_imm : ℕ → ℕ → ℕ → Insn
alu64_imm operation dst imm = new (opcode operation K ALU64) dst 0 0 imm

abbrev pub alu32_imm : ℕ → ℕ → ℕ → Insn
alu32_imm operation dst imm = new (opcode operation K ALU) dst 0 0 imm

-- Section 4.2: the low `bits` bits of a register to big-endian.
abbrev pub to_be : ℕ → ℕ → Insn
to_be bits dst = new (opcode END TO_BE ALU) dst 0 0 bits

-- Section 5.1: a load of the given size from a register plus an offset.
abbrev pub ldx : ℕ → ℕ → ℕ → ℕ → Insn
ldx size dst src off = new (load_opcode MEM size LDX) dst src off 0

-- Section 4.3: a jump that compares with an immediate (class JMP or JMP32), with a register, one that is always taken, and the exit.
abbrev pub jump_imm : ℕ → ℕ → ℕ → ℕ → ℕ → Insn
jump_imm class operation dst imm off = new (opcode operation K class) dst 0 off imm

abbrev pub jump_reg : ℕ → ℕ → ℕ → ℕ → Insn
jump_reg operation dst src off = new (opcode operation X JMP) dst src off 0

abbrev pub jump_always : ℕ → Insn
jump_always off = new (opcode JA K JMP) 0 0 off 0

abbrev pub exit_insn : Insn
exit_insn = new (opcode EXIT K JMP) 0 0 0 0

-- Section 3.1: the eight bytes, the offset and the immediate in little-endian order.
unfoldable pub to_le_bytes : Insn → List ℕ
to_le_bytes i =
    i.code ∷ i.regs ∷ i.off % 256 ∷ i.off / 256
    ∷ i.imm % 256 ∷ i.imm / 256 % 256 ∷ i.imm / 65536 % 256 ∷ i.imm / 16777216 ∷ []

-- The instruction whose eight bytes start at `at`.
unfoldable pub insn_at : List ℕ → ℕ → Insn
insn_at s at =
    record {
      code = slice_index s at;
      regs = slice_index s (at + 1);
      off = slice_index s (at + 2) + slice_index s (at + 3) * 256;
      imm = slice_index s (at + 4) + slice_index s (at + 5) * 256 + slice_index s (at + 6) * 65536 + slice_index s (at + 7) * 16777216;
    }

-- Reading at `at`: the instruction, where its eight bytes are there.
unfoldable pub fetch_at : List ℕ → ℕ → Option Insn
fetch_at s at = cond (nat_le (at + 8) (length s)) (Some (insn_at s at)) None

-- Writing at `at`: the eight bytes, where there is room for them, else nothing; every other byte stays.
unfoldable pub stored_at : List ℕ → ℕ → Insn → List ℕ
stored_at s at i = cond (nat_le (at + 8) (length s)) (sets s at (to_le_bytes i)) s
