-- What a run asks of memory, and what is inside: "reads nothing outside the frame but its two context words".
use Rattle.std.specs.Prelude.{ℕ, zero, suc, ◌+◌, ◌-◌, ◌*◌, ◌/◌, ◌%◌, ◌^◌, ◌≤◌, ◌≡◌, ◌⊎◌, cond, Option, Some, None, List, [], ◌∷◌, length, ltb}
use Rattle.ebpf.specs.Insn.{insn_at}
use Rattle.ebpf.specs.Alu.{sext16}
use Rattle.ebpf.specs.Form.{Form, NotOurs, Context, Load, Reg64, Imm64, Imm32, Swap, Jump, Branch, BranchReg, Exit, form_of}
use Rattle.ebpf.specs.Regs.{value_of}
use Rattle.ebpf.specs.Step.{le_at, step_of}
use Rattle.ebpf.specs.declared.regs.Regs.{Regs}
use Rattle.ebpf.specs.declared.step.State.{State}
use Rattle.ebpf.specs.declared.act.Halt.{Halt}

-- What one instruction asks for: nothing, a word of the context at an offset from R1, or so many bytes from an address on.
pub data Ask : Type 0 where
  nothing : Ask
  context : (off : ℕ) → Ask
  bytes : (at size : ℕ) → Ask

-- Two forms read memory: a word load through R1, and a load through another register, at "base plus offset modulo 2^64".
unfoldable pub ask_of : Form → Regs → Ask
ask_of NotOurs r = nothing
ask_of (Context dst off) r = context off
ask_of (Load size dst src off) r = bytes ((value_of r src + sext16 off) % 2 ^ 64) size
ask_of (Reg64 operation dst src) r = nothing
ask_of (Imm64 operation dst imm) r = nothing
ask_of (Imm32 operation dst imm) r = nothing
ask_of (Swap dst bits) r = nothing
ask_of (Jump off) r = nothing
ask_of (Branch class operation dst imm off) r = nothing
ask_of (BranchReg operation dst src off) r = nothing
ask_of Exit r = nothing

-- What the instruction at a state's place asks for.
unfoldable pub ask_at : List ℕ → State → Ask
ask_at program s = cond (ltb s.pc (length program / 8)) (ask_of (form_of (insn_at program (s.pc * 8))) s.regs) nothing

-- A step that goes on hands its state to what follows.
abbrev pub further : Option Halt → State → (State → List Ask) → List Ask
further None t more = more t
further (Some halt) t more = []

-- All that a run asks for from the state s on, in order, in its first k steps.
unfoldable pub asks_of : ℕ → List ℕ → List ℕ → ℕ → State → List Ask
asks_of zero program frame start s = []
asks_of (suc k) program frame start s =
    ask_at program s ∷ further (step_of program frame start s).halt (step_of program frame start s).state (λ t. asks_of k program frame start t)

-- In the frame, which lies at `start`; or one of the "two context words", at 0 and at 4.
abbrev pub Inside : List ℕ → ℕ → Ask → Type 0
Inside frame start nothing = Unit {0}
Inside frame start (context off) = (off ≡ 0) ⊎ (off ≡ 4)
Inside frame start (bytes at size) = (start ≤ at) × (at + size ≤ start + length frame)

abbrev pub AllInside : List ℕ → ℕ → List Ask → Type 0
AllInside frame start [] = Unit {0}
AllInside frame start (x ∷ xs) = Inside frame start x × AllInside frame start xs

-- Two frames hold the same bytes where an instruction asks.
abbrev pub Same : ℕ → List ℕ → List ℕ → Ask → Type 0
Same start f g nothing = Unit {0}
Same start f g (context off) = Unit {0}
Same start f g (bytes at size) = le_at f (at - start) size ≡ le_at g (at - start) size

abbrev pub AllSame : ℕ → List ℕ → List ℕ → List Ask → Type 0
AllSame start f g [] = Unit {0}
AllSame start f g (x ∷ xs) = Same start f g x × AllSame start f g xs
