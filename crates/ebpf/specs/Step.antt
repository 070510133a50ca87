-- One step of the machine, a little-endian host (RFC 9669 and document 01, "The machine").
use Rattle.std.specs.Prelude.{ℕ, ◌+◌, ◌-◌, ◌*◌, ◌/◌, ◌%◌, ◌^◌, ◌≤◌, Bool, true, cond, List, Option, Some, None, length, ◌==◌, ◌≢◌, nat_le, nat_lt, slice_index}
use Rattle.ebpf.specs.Opcode.{MOV}
use Rattle.ebpf.specs.Insn.{insn_at}
use Rattle.ebpf.specs.Alu.{sext16, sext32, alu32, alu64, swapped, compares, compares_imm}
use Rattle.ebpf.specs.Form.{Form, NotOurs, Context, Load, Reg64, Imm64, Imm32, Swap, Jump, Branch, BranchReg, Exit, form_of}
use Rattle.ebpf.specs.Regs.{known_of, value_of, with_of}
use Rattle.ebpf.specs.declared.regs.Regs.{Regs}
use Rattle.ebpf.specs.declared.act.Halt.{Halt}
use Rattle.ebpf.specs.declared.act.Act.{Act}
use Rattle.ebpf.specs.declared.act.Act.TheVariants.{Writes, Jumps, Falls, Halts}
use Rattle.ebpf.specs.declared.step.State.{State}
use Rattle.ebpf.specs.declared.step.Turn.{Turn}

-- The stops of a step, by document 01's numbers: 30 no form of ours, 31 a load outside, 32 a register not yet written, 33 no instruction there.
abbrev pub stopped : ℕ → ℕ → Act
stopped stop r0 = Halts (record { stop = stop; r0 = r0 })

abbrev pub not_ours : Act
not_ours = stopped 30 0

abbrev pub outside : Act
outside = stopped 31 0

abbrev pub unwritten : Act
unwritten = stopped 32 0

abbrev pub nowhere : Act
nowhere = stopped 33 0

-- The sizes of a load: one byte, two, or four and more.
abbrev pub Width : ℕ → Type 0
Width size = (1 ≤ size) × (size ≢ 3)

-- Section 5.1: the number of `size` bytes at p, little-endian.
unfoldable pub le_at : List ℕ → ℕ → ℕ → ℕ
le_at s p size =
    cond (size == 1) (slice_index s p)
    (cond (size == 2) (slice_index s p + slice_index s (p + 1) * 256)
    (slice_index s p + slice_index s (p + 1) * 256 + slice_index s (p + 2) * 65536 + slice_index s (p + 3) * 16777216))

-- "through [R1] 0 gives start, 4 start plus length".
unfoldable pub context_act : ℕ → ℕ → ℕ → ℕ → Act
context_act len start dst off = cond (off == 0) (Writes dst start) (cond (off == 4) (Writes dst ((start + len) % 2 ^ 64)) outside)

-- The `size` bytes at the address `at` are all in the frame, which lies at `start`.
unfoldable pub frame_act : List ℕ → ℕ → ℕ → ℕ → ℕ → Act
frame_act frame start size dst at =
    cond (nat_le start at) (cond (nat_le (at + size) (start + length frame)) (Writes dst (le_at frame (at - start) size)) outside) outside

-- "base plus offset modulo 2^64".
unfoldable pub load_act : List ℕ → ℕ → Regs → ℕ → ℕ → ℕ → ℕ → Act
load_act frame start r size dst src off =
    cond (known_of r src) (frame_act frame start size dst ((value_of r src + sext16 off) % 2 ^ 64)) unwritten

-- A move does not read its destination.
unfoldable pub readable : Regs → ℕ → ℕ → Bool
readable r operation dst = cond (operation == MOV) true (known_of r dst)

unfoldable pub reg64_act : Regs → ℕ → ℕ → ℕ → Act
reg64_act r operation dst src =
    cond (known_of r src)
    (cond (readable r operation dst) (Writes dst (alu64 operation (value_of r dst) (value_of r src))) unwritten)
    unwritten

-- Section 4.1: an immediate of a 64-bit operation is widened with its sign.
unfoldable pub imm64_act : Regs → ℕ → ℕ → ℕ → Act
imm64_act r operation dst imm =
    cond (readable r operation dst) (Writes dst (alu64 operation (value_of r dst) (sext32 imm))) unwritten

-- Section 4.1: a 32-bit operation takes the low 32 bits, and its result is zero-extended.
unfoldable pub imm32_act : Regs → ℕ → ℕ → ℕ → Act
imm32_act r operation dst imm =
    cond (known_of r dst) (Writes dst (alu32 operation (value_of r dst % 2 ^ 32) imm)) unwritten

unfoldable pub swap_act : Regs → ℕ → ℕ → Act
swap_act r dst bits = cond (known_of r dst) (Writes dst (swapped bits (value_of r dst))) unwritten

abbrev pub taken : Bool → ℕ → Act
taken b off = cond b (Jumps off) Falls

unfoldable pub branch_act : Regs → ℕ → ℕ → ℕ → ℕ → ℕ → Act
branch_act r class operation dst imm off =
    cond (known_of r dst) (taken (compares_imm class operation (value_of r dst) imm) off) unwritten

unfoldable pub branch_reg_act : Regs → ℕ → ℕ → ℕ → ℕ → Act
branch_reg_act r operation dst src off =
    cond (known_of r dst) (cond (known_of r src) (taken (compares operation (value_of r dst) (value_of r src)) off) unwritten) unwritten

-- Section 4.3: the exit gives what R0 holds.
unfoldable pub exit_act : Regs → Act
exit_act r = cond (known_of r 0) (stopped 0 (value_of r 0)) unwritten

-- What an instruction of each form does.
unfoldable pub act_of : Form → List ℕ → ℕ → Regs → Act
act_of NotOurs frame start r = not_ours
act_of (Context dst off) frame start r = context_act (length frame) start dst off
act_of (Load size dst src off) frame start r = load_act frame start r size dst src off
act_of (Reg64 operation dst src) frame start r = reg64_act r operation dst src
act_of (Imm64 operation dst imm) frame start r = imm64_act r operation dst imm
act_of (Imm32 operation dst imm) frame start r = imm32_act r operation dst imm
act_of (Swap dst bits) frame start r = swap_act r dst bits
act_of (Jump off) frame start r = Jumps off
act_of (Branch class operation dst imm off) frame start r = branch_act r class operation dst imm off
act_of (BranchReg operation dst src off) frame start r = branch_reg_act r operation dst src off
act_of Exit frame start r = exit_act r

-- What stands at a place of the program does.
unfoldable pub act_at : List ℕ → List ℕ → ℕ → Regs → ℕ → Act
act_at program frame start r pc =
    cond (nat_lt pc (length program / 8)) (act_of (form_of (insn_at program (pc * 8))) frame start r) nowhere

-- The registers after it: one is written, or none.
unfoldable pub regs_after : Act → Regs → Regs
regs_after (Writes dst value) r = with_of r dst value
regs_after (Jumps off) r = r
regs_after Falls r = r
regs_after (Halts halt) r = r

-- The place after it. Section 4.3: a jump's offset counts from the next instruction; a place is a 64-bit number.
unfoldable pub place_after : Act → ℕ → ℕ
place_after (Writes dst value) pc = (pc + 1) % 2 ^ 64
place_after (Jumps off) pc = ((pc + 1) % 2 ^ 64 + sext16 off) % 2 ^ 64
place_after Falls pc = (pc + 1) % 2 ^ 64
place_after (Halts halt) pc = pc

-- How the run ends, if it ends there.
unfoldable pub halt_of : Act → Option Halt
halt_of (Writes dst value) = None
halt_of (Jumps off) = None
halt_of Falls = None
halt_of (Halts halt) = Some halt

unfoldable pub turn_of : Act → State → Turn
turn_of a s = record { state = record { regs = regs_after a s.regs; pc = place_after a s.pc }; halt = halt_of a }

-- One step from a state.
unfoldable pub step_of : List ℕ → List ℕ → ℕ → State → Turn
step_of program frame start s = turn_of (act_at program frame start s.regs s.pc) s
