-- An instruction that is fine, by the row of the table that it stands in: what its function asks, and that the answer is the machine's.
use Rattle.std.proofs.Common.{◌≡◌, ℕ, ◌+◌, ◌/◌, ◌%◌, ◌<◌, ◌≤◌, Bool, true, false, eqb, List, length, get_or, sym, ◌∙◌, subst, arith}
use Rattle.ebpf.specs.Alu.{compares, compares_imm}
use Rattle.ebpf.specs.Form.{Form, NotOurs, form_of, load_form, reg64_form, imm64_form, imm32_form, swap_form, jump_form, branch_form, branch_reg_form, exit_form}
use Rattle.ebpf.specs.Regs.{regs_of}
use Rattle.ebpf.specs.Step.{stopped, taken, act_of}
use Rattle.ebpf.specs.declared.insn.Insn.{Insn}
use Rattle.ebpf.specs.declared.act.Act.{Act}
use Rattle.ebpf.specs.declared.act.Act.TheVariants.{Jumps}
use Rattle.ebpf.specs.Sure.{Fine, Low, SureAct, address_of, sure_load, sure_word, sure_reg64, sure_imm64, sure_imm32, sure_swap, sure_branch, sure_branch_reg}
use Rattle.ebpf.proofs.SureRows.{imm64_row, reg64_row, imm32_row, swap_row, jump_row, branch_row, branch_reg_row, exit_row, load_row, word_row}

taken_low : (b : Bool) (off : ℕ) → Low (taken b off)
taken_low true off = tt
taken_low false off = tt

-- An instruction of one family that is fine with some registers written: what its function asks, and that what the function gives is the
-- machine's act and writes no register past the seven.
pub record Arm (F v : List ℕ) (i : Insn) (A : Type 0) (x : Act) : Type 0 where
  pub at : (w : List Bool) → Fine (act_of (form_of i) F 0 (regs_of v w)) → A × ((x ≡ act_of (form_of i) F 0 (regs_of v w)) × Low x)

pub needs : {F v : List ℕ} {i : Insn} {A : Type 0} {x : Act} → Arm F v i A x → SureAct i F v → A
needs arm sure = (arm.at sure.0 sure.1).0

pub gives : {F v : List ℕ} {i : Insn} {A : Type 0} {x : Act} → Arm F v i A x → SureAct i F v → {a : Act} → a ≡ x
    → ((w : List Bool) → Fine (act_of (form_of i) F 0 (regs_of v w)) → a ≡ act_of (form_of i) F 0 (regs_of v w)) × Low a
gives arm sure e = (λ w fine. e ∙ (arm.at w fine).1.0, subst Low (sym e) (arm.at sure.0 sure.1).1.1)

module _ (F v : List ℕ) (i : Insn) where
  on : (w : List Bool) → Fine (act_of (form_of i) F 0 (regs_of v w)) → (x : Form) → form_of i ≡ x → Fine (act_of x F 0 (regs_of v w))
  on w fine x e = subst (λ (y : Form). Fine (act_of y F 0 (regs_of v w))) e fine

  pub imm64_arm : (op : ℕ) → form_of i ≡ imm64_form op i.regs i.off i.imm → Arm F v i (i.regs < 7) (sure_imm64 op i v)
  unfolding sure_imm64
  imm64_arm op e = record { at = λ w fine. let z = imm64_row F v w op i.regs i.off i.imm (on w fine _ e) in (z.0, (rw e (sym z.1), z.0)) }

  pub imm32_arm : (op : ℕ) → form_of i ≡ imm32_form op i.regs i.off i.imm → Arm F v i (i.regs < 7) (sure_imm32 op i v)
  unfolding sure_imm32
  imm32_arm op e = record { at = λ w fine. let z = imm32_row F v w op i.regs i.off i.imm (on w fine _ e) in (z.0, (rw e (sym z.1), z.0)) }

  pub swap_arm : form_of i ≡ swap_form i.regs i.off i.imm → Arm F v i (i.regs < 7) (sure_swap i v)
  unfolding sure_swap
  swap_arm e = record { at = λ w fine. let z = swap_row F v w i.regs i.off i.imm (on w fine _ e) in (z.0, (rw e (sym z.1), z.0)) }

  pub reg64_arm : (op : ℕ) → form_of i ≡ reg64_form op i.regs i.off i.imm → Arm F v i ((i.regs % 16 < 7) × (i.regs / 16 < 7)) (sure_reg64 op i v)
  unfolding sure_reg64
  reg64_arm op e = record { at = λ w fine. let z = reg64_row F v w op i.regs i.off i.imm (on w fine _ e) in ((z.0, z.1), (rw e (sym z.2), z.0)) }

  pub branch_arm : (class op : ℕ) → form_of i ≡ branch_form class op i.regs i.off i.imm → Arm F v i (i.regs < 7) (sure_branch class op i v)
  unfolding sure_branch
  branch_arm class op e = record { at = λ w fine. let z = branch_row F v w class op i.regs i.off i.imm (on w fine _ e) in (z.0, (rw e (sym z.1), taken_low (compares_imm class op (get_or v i.regs 0) i.imm) i.off)) }

  pub branch_reg_arm : (op : ℕ) → form_of i ≡ branch_reg_form op i.regs i.off i.imm → Arm F v i ((i.regs % 16 < 7) × (i.regs / 16 < 7)) (sure_branch_reg op i v)
  unfolding sure_branch_reg
  branch_reg_arm op e = record { at = λ w fine. let z = branch_reg_row F v w op i.regs i.off i.imm (on w fine _ e) in ((z.0, z.1), (rw e (sym z.2), taken_low (compares op (get_or v (i.regs % 16) 0) (get_or v (i.regs / 16) 0)) i.off)) }

  pub jump_arm : form_of i ≡ jump_form i.regs i.off i.imm → Arm F v i (Unit {0}) (Jumps i.off)
  jump_arm e = record { at = λ w fine. (tt, (rw e (sym (jump_row F v w i.regs i.off i.imm (on w fine _ e))), tt)) }

  pub exit_arm : form_of i ≡ exit_form i.regs i.off i.imm → Arm F v i (Unit {0}) (stopped 0 (get_or v 0 0))
  exit_arm e = record { at = λ w fine. (tt, (rw e (sym (exit_row F v w i.regs i.off i.imm (on w fine _ e))), tt)) }

  pub load_arm : (size : ℕ) → eqb size 4 ≡ false → form_of i ≡ load_form size i.regs i.off i.imm
      → Arm F v i ((i.regs / 16 < 7) × (address_of i v + size ≤ length F)) (sure_load size i F v)
  unfolding sure_load address_of
  load_arm size small e = record { at = λ w fine. let z = load_row F v w size i.regs i.off i.imm small (on w fine _ e) in ((z.1, z.2), (rw e (sym z.3), z.0)) }

  pub word_arm : form_of i ≡ load_form 4 i.regs i.off i.imm → Arm F v i ((i.regs / 16 ≡ 1 → ⊥) → (i.regs / 16 < 7) × (address_of i v + 4 ≤ length F)) (sure_word i F v)
  unfolding sure_word sure_load address_of
  word_arm e = record { at = λ w fine. let z = word_row F v w i.regs i.off i.imm (on w fine _ e) in (z.0, (rw e (sym z.1), z.2)) }

-- A fine instruction stands in a row.
pub not_none : (F v : List ℕ) (w : List Bool) (i : Insn) → Fine (act_of (form_of i) F 0 (regs_of v w)) → form_of i ≡ NotOurs → ⊥
unfolding act_of
not_none F v w i fine e = let z : ◌≡◌ {A = ℕ} 30 0 = subst (λ (y : Form). Fine (act_of y F 0 (regs_of v w))) e fine in absurd (omega arith)
