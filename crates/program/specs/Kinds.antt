-- Which operations, classes and sizes of RFC 9669 the instructions of a filter program have.
use Rattle.std.specs.Prelude.{ℕ, ◌^◌, ◌<◌, ◌≡◌}
use Rattle.ebpf.specs.Opcode.{JMP, JMP32, ADD, SUB, MUL, DIV, OR, AND, LSH, RSH, XOR, JEQ, JGT, JGE, JSET, JNE, JLT, JLE, WORD, HALF, BYTE}

-- Section 4.3: the classes of a conditional jump with an immediate.
pub data Class : ℕ → Type 0 where
  jmp : Class JMP
  jmp32 : Class JMP32

-- Section 4.3: its comparisons.
pub data Comparison : ℕ → Type 0 where
  jeq : Comparison JEQ
  jgt : Comparison JGT
  jge : Comparison JGE
  jset : Comparison JSET
  jne : Comparison JNE
  jlt : Comparison JLT
  jle : Comparison JLE

-- Section 4.1: the 32-bit operations, and the immediates that each takes ("no zero divisor, shift outside 0 to 31").
pub data Arithmetic : ℕ → ℕ → Type 0 where
  add32 : {imm : ℕ} → Arithmetic ADD imm
  sub32 : {imm : ℕ} → Arithmetic SUB imm
  mul32 : {imm : ℕ} → Arithmetic MUL imm
  div32 : {imm : ℕ} → (imm ≡ 0 → ⊥) → Arithmetic DIV imm
  or32 : {imm : ℕ} → Arithmetic OR imm
  and32 : {imm : ℕ} → Arithmetic AND imm
  lsh32 : {imm : ℕ} → imm < 32 → Arithmetic LSH imm
  rsh32 : {imm : ℕ} → imm < 32 → Arithmetic RSH imm
  xor32 : {imm : ℕ} → Arithmetic XOR imm

-- Section 5: the sizes of a load, and how many bytes each is.
pub data Size : ℕ → ℕ → Type 0 where
  word : Size WORD 4
  half : Size HALF 2
  byte : Size BYTE 1

-- Section 4.2: the widths of a byte swap.
pub data Bits : ℕ → Type 0 where
  bits16 : Bits 16
  bits32 : Bits 32

-- A constant that a jump of this class compares as it is: in class JMP it "is widened with its sign".
abbrev pub Takes : ℕ → ℕ → Type 0
Takes class imm = class ≡ JMP → imm < 2 ^ 31
