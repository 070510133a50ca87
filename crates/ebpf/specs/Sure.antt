-- The run of a program that exits: what its steps do where no test is made.
use Rattle.std.specs.Prelude.{◌≡◌, ℕ, ◌+◌, ◌/◌, ◌%◌, ◌^◌, ◌<◌, Bool, cond, List, length, ◌==◌, slice_index, slice_set}
use Rattle.ebpf.specs.Alu.{sext16, sext32, alu32, alu64, swapped, compares, compares_imm}
use Rattle.ebpf.specs.Form.{form_of}
use Rattle.ebpf.specs.Regs.{regs_of}
use Rattle.ebpf.specs.Step.{le_at, context_act, taken, act_of}
use Rattle.ebpf.specs.Insn.{insn_at}
use Rattle.ebpf.specs.declared.insn.Insn.{Insn}
use Rattle.ebpf.specs.declared.place.Place.{Place}
use Rattle.ebpf.specs.declared.act.Act.{Act}
use Rattle.ebpf.specs.declared.act.Act.TheVariants.{Writes, Jumps, Falls, Halts}

-- The instruction at a place of the program.
abbrev pub read : Place → Insn
read i = insn_at i.program.now i.at

-- No stop but the exit.
abbrev pub Fine : Act → Type 0
Fine (Writes dst value) = Unit {0}
Fine (Jumps off) = Unit {0}
Fine Falls = Unit {0}
Fine (Halts halt) = halt.stop ≡ 0

-- It writes one of the seven registers, if any.
abbrev pub Low : Act → Type 0
Low (Writes dst value) = dst < 7
Low (Jumps off) = Unit {0}
Low Falls = Unit {0}
Low (Halts halt) = Unit {0}

-- With some registers written, the instruction is fine.
abbrev pub SureAct : Insn → List ℕ → List ℕ → Type 0
SureAct i frame values = (w : List Bool) × Fine (act_of (form_of i) frame 0 (regs_of values w))

unfoldable pub values_after : Act → List ℕ → List ℕ
values_after (Writes dst value) values = slice_set values dst value
values_after (Jumps off) values = values
values_after Falls values = values
values_after (Halts halt) values = values

-- What an instruction of each family does where nothing has to be asked, by the values of the registers.
unfoldable pub address_of : Insn → List ℕ → ℕ
address_of i values = (slice_index values (i.regs / 16) + sext16 i.off) % 2 ^ 64

unfoldable pub sure_load : ℕ → Insn → List ℕ → List ℕ → Act
sure_load size i frame values = Writes (i.regs % 16) (le_at frame (address_of i values) size)

unfoldable pub sure_word : Insn → List ℕ → List ℕ → Act
sure_word i frame values = cond (i.regs / 16 == 1) (context_act (length frame) 0 (i.regs % 16) i.off) (sure_load 4 i frame values)

unfoldable pub sure_reg64 : ℕ → Insn → List ℕ → Act
sure_reg64 op i values = Writes (i.regs % 16) (alu64 op (slice_index values (i.regs % 16)) (slice_index values (i.regs / 16)))

unfoldable pub sure_imm64 : ℕ → Insn → List ℕ → Act
sure_imm64 op i values = Writes i.regs (alu64 op (slice_index values i.regs) (sext32 i.imm))

unfoldable pub sure_imm32 : ℕ → Insn → List ℕ → Act
sure_imm32 op i values = Writes i.regs (alu32 op (slice_index values i.regs % 2 ^ 32) i.imm)

unfoldable pub sure_swap : Insn → List ℕ → Act
sure_swap i values = Writes i.regs (swapped i.imm (slice_index values i.regs))

unfoldable pub sure_branch : ℕ → ℕ → Insn → List ℕ → Act
sure_branch class op i values =
    taken (compares_imm class op (slice_index values i.regs) i.imm) i.off

unfoldable pub sure_branch_reg : ℕ → Insn → List ℕ → Act
sure_branch_reg op i values = taken (compares op (slice_index values (i.regs % 16)) (slice_index values (i.regs / 16))) i.off
