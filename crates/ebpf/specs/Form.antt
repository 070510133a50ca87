-- Stop 30 of document 01: the forms that a filter program is made of in one mode or the other, by opcode, with their reserved
-- fields; every other instruction is NotOurs.
use Rattle.std.specs.Prelude.{ℕ, ◌/◌, ◌%◌, Bool, true, cond, not, ◌&&◌, ◌==◌, nat_lt}
use Rattle.ebpf.specs.Opcode.{LDX, ALU, JMP, JMP32, ALU64, K, X, ADD, SUB, MUL, DIV, OR, AND, LSH, RSH, XOR, MOV, END, TO_BE}
use Rattle.ebpf.specs.Opcode.{JA, JEQ, JGT, JGE, JSET, JNE, EXIT, JLT, JLE, MEM, WORD, HALF, BYTE, opcode, load_opcode}
use Rattle.ebpf.specs.declared.insn.Insn.{Insn}

pub data Form : Type 0 where
  NotOurs : Form
  Context : (dst off : ℕ) → Form
  Load : (size dst src off : ℕ) → Form
  Reg64 : (operation dst src : ℕ) → Form
  Imm64 : (operation dst imm : ℕ) → Form
  Imm32 : (operation dst imm : ℕ) → Form
  Swap : (dst bits : ℕ) → Form
  Jump : (off : ℕ) → Form
  Branch : (class operation dst imm off : ℕ) → Form
  BranchReg : (operation dst src off : ℕ) → Form
  Exit : Form

-- "R0 to R6 pass, but R1 only as base of a word load".
unfoldable pub plain : ℕ → Bool
plain r = nat_lt r 7 && not (r == 1)

-- "no zero divisor, shift outside 0 to 31".
unfoldable pub allowed : ℕ → ℕ → Bool
allowed operation imm = cond (operation == DIV) (not (imm == 0)) (cond (operation == LSH) (nat_lt imm 32) (cond (operation == RSH) (nat_lt imm 32) true))

-- The form where the tests hold.
abbrev pub only : Bool → Form → Form
only b f = cond b f NotOurs

-- In each family the tests say which fields are reserved, "no nonzero reserved field"; with no source register `regs` is the destination.
unfoldable pub load_form : ℕ → ℕ → ℕ → ℕ → Form
load_form size regs off imm =
    only (imm == 0) (only (plain (regs % 16))
    (cond (regs / 16 == 1) (only (size == 4) (Context (regs % 16) off))
    (only (plain (regs / 16)) (Load size (regs % 16) (regs / 16) off))))

unfoldable pub reg64_form : ℕ → ℕ → ℕ → ℕ → Form
reg64_form operation regs off imm =
    only (off == 0) (only (imm == 0) (only (plain (regs % 16)) (only (plain (regs / 16)) (Reg64 operation (regs % 16) (regs / 16)))))

unfoldable pub imm64_form : ℕ → ℕ → ℕ → ℕ → Form
imm64_form operation regs off imm = only (off == 0) (only (plain regs) (Imm64 operation regs imm))

unfoldable pub imm32_form : ℕ → ℕ → ℕ → ℕ → Form
imm32_form operation regs off imm = only (off == 0) (only (plain regs) (only (allowed operation imm) (Imm32 operation regs imm)))

-- "swap other than 16 or 32" is no form.
unfoldable pub swap_form : ℕ → ℕ → ℕ → Form
swap_form regs off imm = only (off == 0) (only (plain regs) (cond (imm == 16) (Swap regs 16) (only (imm == 32) (Swap regs 32))))

unfoldable pub jump_form : ℕ → ℕ → ℕ → Form
jump_form regs off imm = only (regs == 0) (only (imm == 0) (Jump off))

unfoldable pub branch_form : ℕ → ℕ → ℕ → ℕ → ℕ → Form
branch_form class operation regs off imm = only (plain regs) (Branch class operation regs imm off)

unfoldable pub branch_reg_form : ℕ → ℕ → ℕ → ℕ → Form
branch_reg_form operation regs off imm =
    only (imm == 0) (only (plain (regs % 16)) (only (plain (regs / 16)) (BranchReg operation (regs % 16) (regs / 16) off)))

unfoldable pub exit_form : ℕ → ℕ → ℕ → Form
exit_form regs off imm = only (regs == 0) (only (off == 0) (only (imm == 0) Exit))

-- The table of opcodes, 35 rows.
unfoldable pub form_at : ℕ → ℕ → ℕ → ℕ → Form
form_at code regs off imm =
    cond (code == load_opcode MEM WORD LDX) (load_form 4 regs off imm)
    (cond (code == load_opcode MEM HALF LDX) (load_form 2 regs off imm)
    (cond (code == load_opcode MEM BYTE LDX) (load_form 1 regs off imm)
    (cond (code == opcode ADD X ALU64) (reg64_form ADD regs off imm)
    (cond (code == opcode SUB X ALU64) (reg64_form SUB regs off imm)
    (cond (code == opcode MOV X ALU64) (reg64_form MOV regs off imm)
    (cond (code == opcode ADD K ALU64) (imm64_form ADD regs off imm)
    (cond (code == opcode MOV K ALU64) (imm64_form MOV regs off imm)
    (cond (code == opcode ADD K ALU) (imm32_form ADD regs off imm)
    (cond (code == opcode SUB K ALU) (imm32_form SUB regs off imm)
    (cond (code == opcode MUL K ALU) (imm32_form MUL regs off imm)
    (cond (code == opcode DIV K ALU) (imm32_form DIV regs off imm)
    (cond (code == opcode OR K ALU) (imm32_form OR regs off imm)
    (cond (code == opcode AND K ALU) (imm32_form AND regs off imm)
    (cond (code == opcode LSH K ALU) (imm32_form LSH regs off imm)
    (cond (code == opcode RSH K ALU) (imm32_form RSH regs off imm)
    (cond (code == opcode XOR K ALU) (imm32_form XOR regs off imm)
    (cond (code == opcode END TO_BE ALU) (swap_form regs off imm)
    (cond (code == opcode JA K JMP) (jump_form regs off imm)
    (cond (code == opcode JEQ K JMP) (branch_form JMP JEQ regs off imm)
    (cond (code == opcode JGT K JMP) (branch_form JMP JGT regs off imm)
    (cond (code == opcode JGE K JMP) (branch_form JMP JGE regs off imm)
    (cond (code == opcode JSET K JMP) (branch_form JMP JSET regs off imm)
    (cond (code == opcode JNE K JMP) (branch_form JMP JNE regs off imm)
    (cond (code == opcode JLT K JMP) (branch_form JMP JLT regs off imm)
    (cond (code == opcode JLE K JMP) (branch_form JMP JLE regs off imm)
    (cond (code == opcode JEQ K JMP32) (branch_form JMP32 JEQ regs off imm)
    (cond (code == opcode JGT K JMP32) (branch_form JMP32 JGT regs off imm)
    (cond (code == opcode JGE K JMP32) (branch_form JMP32 JGE regs off imm)
    (cond (code == opcode JSET K JMP32) (branch_form JMP32 JSET regs off imm)
    (cond (code == opcode JNE K JMP32) (branch_form JMP32 JNE regs off imm)
    (cond (code == opcode JLT K JMP32) (branch_form JMP32 JLT regs off imm)
    (cond (code == opcode JLE K JMP32) (branch_form JMP32 JLE regs off imm)
    (cond (code == opcode JGT X JMP) (branch_reg_form JGT regs off imm)
    (cond (code == opcode EXIT K JMP) (exit_form regs off imm)
    NotOurs))))))))))))))))))))))))))))))))))

unfoldable pub form_of : Insn → Form
form_of i = form_at i.code i.regs i.off i.imm
