-- A program as a list of instructions: its bytes, and a run of what is left of it.
use Rattle.std.specs.Prelude.{ℕ, zero, suc, ◌^◌, ◌<◌, List, [], ◌∷◌, ◌++◌}
use Rattle.ebpf.specs.Insn.{to_le_bytes}
use Rattle.ebpf.specs.Form.{form_of}
use Rattle.ebpf.specs.Regs.{with_of}
use Rattle.ebpf.specs.Step.{act_of}
use Rattle.ebpf.specs.Run.{ended_of}
use Rattle.ebpf.specs.declared.insn.Insn.{Insn}
use Rattle.ebpf.specs.declared.regs.Regs.{Regs}
use Rattle.ebpf.specs.declared.act.Act.{Act}
use Rattle.ebpf.specs.declared.act.Act.TheVariants.{Writes, Jumps, Falls, Halts}
use Rattle.ebpf.specs.declared.run.Outcome.{Outcome}

-- RFC 9669, section 3.1: each instruction's eight bytes, one after the other.
unfoldable pub code_of : List Insn → List ℕ
code_of [] = []
code_of (i ∷ rest) = to_le_bytes i ++ code_of rest

-- An instruction whose offset counts forward, as section 3.1 reads its 16 bits, and whose immediate has 32 bits.
pub record Fit (i : Insn) : Type 0 where
  pub off15 : i.off < 2 ^ 15
  pub imm32 : i.imm < 2 ^ 32

-- Every instruction of a list does.
pub data Fits : List Insn → Type 0 where
  none : Fits []
  one : {i : Insn} {rest : List Insn} → Fit i → Fits rest → Fits (i ∷ rest)

-- One more step carried out.
abbrev pub counted : Outcome → Outcome
counted o = record { stop = o.stop; r0 = o.r0; steps = suc o.steps }

-- An instruction goes on with those that follow, `more k r`: how many are skipped, and with which registers; or it ends the run.
abbrev pub onward : Act → Regs → (ℕ → Regs → Outcome) → Outcome
onward (Writes dst value) r more = counted (more 0 (with_of r dst value))
onward (Jumps off) r more = counted (more off r)
onward Falls r more = counted (more 0 r)
onward (Halts halt) r more = ended_of halt.stop halt.r0 0

-- A run of what is left of a program, k instructions of it skipped: jumps only go forward, and past the end is "33 no instruction there".
unfoldable pub execs : List ℕ → ℕ → ℕ → List Insn → Regs → Outcome
execs frame start k [] r = record { stop = 33; r0 = 0; steps = 0 }
execs frame start zero (i ∷ rest) r = onward (act_of (form_of i) frame start r) r (λ k s. execs frame start k rest s)
execs frame start (suc k) (i ∷ rest) r = execs frame start k rest r
