-- An instruction that jumps does so by its own offset.
use Prim.Native.Nat.{ℕ}
use mathlib.Core.Path.{◌≡◌}
use mathlib.Core.Bool.{Bool, true, false, cond}
use mathlib.Core.List.{List}
use Rattle.ebpf.specs.Form.{Form, NotOurs, Context, Load, Reg64, Imm64, Imm32, Swap, Jump, Branch, BranchReg, Exit, form_at, form_of}
use Rattle.ebpf.specs.Form.{load_form, reg64_form, imm64_form, imm32_form, swap_form, jump_form, branch_form, branch_reg_form, exit_form}
use Rattle.ebpf.specs.Step.{act_of, context_act, frame_act, load_act, reg64_act, imm64_act, imm32_act, swap_act, branch_act, branch_reg_act, exit_act}
use Rattle.ebpf.specs.declared.insn.Insn.{Insn}
use Rattle.ebpf.specs.declared.regs.Regs.{Regs}
use Rattle.ebpf.specs.declared.act.Act.{Act}
use Rattle.ebpf.specs.declared.act.Halt.{Halt}
use Rattle.ebpf.specs.declared.act.Act.TheVariants.{Writes, Jumps, Falls, Halts}

-- A form that jumps by n, if it jumps.
data FormBy (n : ℕ) : Form → Type 0 where
  not_ours : FormBy n NotOurs
  context : {dst off : ℕ} → FormBy n (Context dst off)
  load : {size dst src off : ℕ} → FormBy n (Load size dst src off)
  reg64 : {operation dst src : ℕ} → FormBy n (Reg64 operation dst src)
  imm64 : {operation dst imm : ℕ} → FormBy n (Imm64 operation dst imm)
  imm32 : {operation dst imm : ℕ} → FormBy n (Imm32 operation dst imm)
  swap : {dst bits : ℕ} → FormBy n (Swap dst bits)
  jump : FormBy n (Jump n)
  branch : {class operation dst imm : ℕ} → FormBy n (Branch class operation dst imm n)
  branch_reg : {operation dst src : ℕ} → FormBy n (BranchReg operation dst src n)
  exit : FormBy n Exit

form_either : {n : ℕ} {f g : Form} (t : Bool) → FormBy n f → FormBy n g → FormBy n (cond t f g)
form_either true p q = p
form_either false p q = q

module _ (regs off imm : ℕ) where
  load_by : (size : ℕ) → FormBy off (load_form size regs off imm)
  unfolding load_form
  load_by size = search (form_either, context, load, not_ours) depth 10

  reg64_by : (operation : ℕ) → FormBy off (reg64_form operation regs off imm)
  unfolding reg64_form
  reg64_by operation = search (form_either, reg64, not_ours) depth 10

  imm64_by : (operation : ℕ) → FormBy off (imm64_form operation regs off imm)
  unfolding imm64_form
  imm64_by operation = search (form_either, imm64, not_ours) depth 10

  imm32_by : (operation : ℕ) → FormBy off (imm32_form operation regs off imm)
  unfolding imm32_form
  imm32_by operation = search (form_either, imm32, not_ours) depth 10

  swap_by : FormBy off (swap_form regs off imm)
  unfolding swap_form
  swap_by = search (form_either, swap, not_ours) depth 10

  jump_by : FormBy off (jump_form regs off imm)
  unfolding jump_form
  jump_by = search (form_either, jump, not_ours) depth 10

  branch_by : (class operation : ℕ) → FormBy off (branch_form class operation regs off imm)
  unfolding branch_form
  branch_by class operation = search (form_either, branch, not_ours) depth 10

  branch_reg_by : (operation : ℕ) → FormBy off (branch_reg_form operation regs off imm)
  unfolding branch_reg_form
  branch_reg_by operation = search (form_either, branch_reg, not_ours) depth 10

  exit_by : FormBy off (exit_form regs off imm)
  unfolding exit_form
  exit_by = search (form_either, exit, not_ours) depth 10

  -- The rows of the table of opcodes, each in its turn.
  form_by : (code : ℕ) → FormBy off (form_at code regs off imm)
  unfolding form_at
  form_by code =
      search (form_either, load_by, reg64_by, imm64_by, imm32_by, swap_by, jump_by, branch_by, branch_reg_by, exit_by, not_ours)
      depth 40 fits 20000

-- An act that jumps by n, if it jumps.
data ActBy (n : ℕ) : Act → Type 0 where
  writes : {dst value : ℕ} → ActBy n (Writes dst value)
  jumps : ActBy n (Jumps n)
  falls : ActBy n Falls
  halts : {halt : Halt} → ActBy n (Halts halt)

act_either : {n : ℕ} {a b : Act} (t : Bool) → ActBy n a → ActBy n b → ActBy n (cond t a b)
act_either true p q = p
act_either false p q = q

module _ (frame : List ℕ) (start : ℕ) (r : Regs) where
  act_by : {n : ℕ} {f : Form} → FormBy n f → ActBy n (act_of f frame start r)
  unfolding act_of context_act frame_act load_act reg64_act imm64_act imm32_act swap_act branch_act branch_reg_act exit_act
  act_by not_ours = halts
  act_by context = search (act_either, writes, halts)
  act_by load = search (act_either, writes, halts)
  act_by reg64 = search (act_either, writes, halts)
  act_by imm64 = search (act_either, writes, halts)
  act_by imm32 = search (act_either, writes, halts)
  act_by swap = search (act_either, writes, halts)
  act_by jump = jumps
  act_by branch = search (act_either, jumps, falls, halts)
  act_by branch_reg = search (act_either, jumps, falls, halts)
  act_by exit = search (act_either, halts)

  distance : {n off : ℕ} {a : Act} → ActBy n a → a ≡ Jumps off → off ≡ n
  distance writes e = cc
  distance jumps e = cc
  distance falls e = cc
  distance halts e = cc

  pub jumps_by_off : (i : Insn) (off : ℕ) → act_of (form_of i) frame start r ≡ Jumps off → off ≡ i.off
  unfolding form_of
  jumps_by_off i off e = distance (act_by (form_by i.regs i.off i.imm i.code)) e
