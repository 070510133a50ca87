-- What it means that a program ends with a verdict, from any place on and with any scratch registers.
use Rattle.std.specs.Prelude.{ℕ, ◌+◌, ◌%◌, ◌^◌, ◌<◌, ◌≤◌, ◌≡◌, Bool, true, false, cond, List, [], ◌∷◌, eqb, length, get_or}
use Rattle.ebpf.specs.Opcode.{JMP}
use Rattle.ebpf.specs.Alu.{sext32, compares}
use Rattle.ebpf.specs.Form.{plain}
use Rattle.ebpf.specs.Regs.{regs_of, known_of, value_of, with_of}
use Rattle.ebpf.specs.declared.insn.Insn.{Insn}
use Rattle.ebpf.specs.declared.regs.Regs.{Regs}
use Rattle.ebpf.specs.declared.run.Outcome.{Outcome}
use Rattle.program.specs.Program.{execs}

-- From k instructions into the rest, with registers r, the program exits with R0 = v.
pub record Ends (frame : List ℕ) (start v k : ℕ) (rest : List Insn) (r : Regs) : Type 0 where
  pub exits : (execs frame start k rest r).stop ≡ 0
  pub gives : (execs frame start k rest r).r0 ≡ v

-- A run's outcome: stop 0 with R0 = v, after at most n steps.
pub record Exits (v n : ℕ) (o : Outcome) : Type 0 where
  pub exits : o.stop ≡ 0
  pub gives : o.r0 ≡ v
  pub within : o.steps ≤ n

-- A frame of bytes, at a start where the machine takes it ("start plus frame length" below 2^32).
pub record Frame (frame : List ℕ) (start : ℕ) : Type 0 where
  pub byte : (i : ℕ) → get_or frame i 0 < 256
  pub low : start + length frame < 2 ^ 32

-- The registers R0 to R6 written out: what each holds, and whether it is written.
abbrev pub bank : ℕ → ℕ → ℕ → ℕ → ℕ → ℕ → ℕ → Bool → Bool → Bool → Bool → Bool → Bool → Bool → Regs
bank x0 x1 x2 x3 x4 x5 x6 w0 w1 w2 w3 w4 w5 w6 =
    regs_of (x0 ∷ x1 ∷ x2 ∷ x3 ∷ x4 ∷ x5 ∷ x6 ∷ []) (w0 ∷ w1 ∷ w2 ∷ w3 ∷ w4 ∷ w5 ∷ w6 ∷ [])

-- Register i of r, any but R1: what it holds, whether it is written, and the registers after a write of y to it.
pub record Place (r : Regs) (i x : ℕ) (written : Bool) (after : ℕ → Regs) : Type 0 where
  pub is_plain : plain i ≡ true
  pub value : value_of r i ≡ x
  pub flag : known_of r i ≡ written
  pub puts : (y : ℕ) → with_of r i y ≡ after y

-- A scratch register: what it holds, and whether it is written.
pub record Cell : Type 0 where
  pub content : ℕ
  pub known : Bool

-- One that is written and holds x.
abbrev pub holds : ℕ → Cell
holds x = record { content = x; known = true }

-- The registers between the pieces of a program: R2 and R3 hold the frame's ends, R0, R4, R5 and R6 are scratch.
abbrev pub between : List ℕ → ℕ → Cell → Cell → Cell → Cell → Regs
between frame start c0 c4 c5 c6 =
    bank c0.content 0 start (start + length frame) c4.content c5.content c6.content
    c0.known false true true c4.known c5.known c6.known

-- The same, whatever the scratch registers hold.
abbrev pub At : List ℕ → ℕ → ℕ → ℕ → List Insn → Type 0
At frame start v k rest = (c0 c4 c5 c6 : Cell) → Ends frame start v k rest (between frame start c0 c4 c5 c6)

-- Section 4.3: what a conditional jump of a class tests of x and its immediate.
unfoldable pub tested : ℕ → ℕ → ℕ → ℕ → Bool
tested class operation x imm = cond (eqb class JMP) (compares operation x (sext32 imm)) (compares operation (x % 2 ^ 32) imm)
