-- Which form the machine reads in each instruction that a filter program is made of.
use Prim.Native.Nat.{ℕ, ◌+◌, ◌*◌, ◌/◌, ◌%◌, ◌<◌}
use mathlib.Core.Path.{◌≡◌, refl}
use mathlib.Core.Bool.{Bool, true, false, not, ◌&&◌}
use native.Mathlib.Omega.{arith}
use borrow.Author.Tests.{ltb-true, lt-ltb, ne_eqb, not-true}
use lib.Dec.{ltb, eqb}
use Rattle.ebpf.specs.Opcode.{ADD, SUB, MOV, JGT, WORD}
use Rattle.ebpf.specs.Insn.{new, alu64_reg, alu64_imm, alu32_imm, to_be, ldx, jump_imm, jump_reg, jump_always, exit_insn}
use Rattle.ebpf.specs.Form.{Context, Load, Reg64, Imm64, Imm32, Swap, Jump, Branch, BranchReg, Exit, form_at, form_of, plain, allowed}
use Rattle.ebpf.specs.Form.{load_form, reg64_form, imm64_form, imm32_form, swap_form, jump_form, branch_form, branch_reg_form, exit_form}
use Rattle.program.specs.Kinds.{Class, jmp, jmp32, Comparison, jeq, jgt, jge, jset, jne, jlt, jle}
use Rattle.program.specs.Kinds.{Size, word, half, byte, Bits, bits16, bits32}
use Rattle.program.specs.Kinds.{Arithmetic, add32, sub32, mul32, div32, or32, and32, lsh32, rsh32, xor32}

below_seven : (i : ℕ) → plain i ≡ true → i < 7
unfolding plain
below_seven i e = ltb-true i 7 (left_of (ltb i 7) (not (eqb i 1)) e)
  where
    left_of : (a b : Bool) → (a && b) ≡ true → a ≡ true
    left_of true b e = refl
    left_of false b e = e

not_context : (i : ℕ) → plain i ≡ true → eqb i 1 ≡ false
unfolding plain
not_context i e = not-true (eqb i 1) (right_of (ltb i 7) (not (eqb i 1)) e)
  where
    right_of : (a b : Bool) → (a && b) ≡ true → b ≡ true
    right_of true b e = e
    right_of false b e = cc

-- The halves of `regs`, and the whole where there is no source register.
low : (d s : ℕ) → plain d ≡ true → (d % 16 + s % 16 * 16) % 16 ≡ d
low d s e = omega (arith, below_seven d e)

high : (d s : ℕ) → plain s ≡ true → (d % 16 + s % 16 * 16) / 16 ≡ s
high d s e = omega (arith, below_seven s e)

alone : (d : ℕ) → plain d ≡ true → d % 16 + 0 ≡ d
alone d e = omega (arith, below_seven d e)

module _ (dst : ℕ) (d : plain dst ≡ true) where
  pub form_mov_imm : (imm : ℕ) → form_of (alu64_imm MOV dst imm) ≡ Imm64 MOV dst imm
  unfolding form_of form_at imm64_form new
  form_mov_imm imm = simp (alone dst d, d)

  pub form_add_imm : (imm : ℕ) → form_of (alu64_imm ADD dst imm) ≡ Imm64 ADD dst imm
  unfolding form_of form_at imm64_form new
  form_add_imm imm = simp (alone dst d, d)

  pub form_arithmetic : {operation imm : ℕ} → Arithmetic operation imm → form_of (alu32_imm operation dst imm) ≡ Imm32 operation dst imm
  unfolding form_of form_at imm32_form allowed new
  form_arithmetic add32 = simp (alone dst d, d)
  form_arithmetic sub32 = simp (alone dst d, d)
  form_arithmetic mul32 = simp (alone dst d, d)
  form_arithmetic or32 = simp (alone dst d, d)
  form_arithmetic and32 = simp (alone dst d, d)
  form_arithmetic xor32 = simp (alone dst d, d)
  form_arithmetic (div32 {imm} h) = simp (alone dst d, d, ne_eqb imm 0 h)
  form_arithmetic (lsh32 {imm} h) = simp (alone dst d, d, lt-ltb imm 32 h)
  form_arithmetic (rsh32 {imm} h) = simp (alone dst d, d, lt-ltb imm 32 h)

  pub form_swap : {bits : ℕ} → Bits bits → form_of (to_be bits dst) ≡ Swap dst bits
  unfolding form_of form_at swap_form new
  form_swap bits16 = simp (alone dst d, d)
  form_swap bits32 = simp (alone dst d, d)

  pub form_context : (off : ℕ) → form_of (ldx WORD dst 1 off) ≡ Context dst off
  unfolding form_of form_at load_form new
  form_context off =
      let base : (dst % 16 + 16) / 16 ≡ 1 = omega (arith, below_seven dst d) in
      let to : (dst % 16 + 16) % 16 ≡ dst = omega (arith, below_seven dst d) in
      simp (base, to, d)

  pub form_branch : {class operation : ℕ} (imm off : ℕ) → Class class → Comparison operation
      → form_of (jump_imm class operation dst imm off) ≡ Branch class operation dst imm off
  unfolding form_of form_at branch_form new
  form_branch imm off jmp jeq = simp (alone dst d, d)
  form_branch imm off jmp jgt = simp (alone dst d, d)
  form_branch imm off jmp jge = simp (alone dst d, d)
  form_branch imm off jmp jset = simp (alone dst d, d)
  form_branch imm off jmp jne = simp (alone dst d, d)
  form_branch imm off jmp jlt = simp (alone dst d, d)
  form_branch imm off jmp jle = simp (alone dst d, d)
  form_branch imm off jmp32 jeq = simp (alone dst d, d)
  form_branch imm off jmp32 jgt = simp (alone dst d, d)
  form_branch imm off jmp32 jge = simp (alone dst d, d)
  form_branch imm off jmp32 jset = simp (alone dst d, d)
  form_branch imm off jmp32 jne = simp (alone dst d, d)
  form_branch imm off jmp32 jlt = simp (alone dst d, d)
  form_branch imm off jmp32 jle = simp (alone dst d, d)

  module _ (src : ℕ) (s : plain src ≡ true) where
    pub form_mov : form_of (alu64_reg MOV dst src) ≡ Reg64 MOV dst src
    unfolding form_of form_at reg64_form new
    form_mov = simp (low dst src d, high dst src s, d, s)

    pub form_add : form_of (alu64_reg ADD dst src) ≡ Reg64 ADD dst src
    unfolding form_of form_at reg64_form new
    form_add = simp (low dst src d, high dst src s, d, s)

    pub form_sub : form_of (alu64_reg SUB dst src) ≡ Reg64 SUB dst src
    unfolding form_of form_at reg64_form new
    form_sub = simp (low dst src d, high dst src s, d, s)

    pub form_load : {size n : ℕ} (off : ℕ) → Size size n → form_of (ldx size dst src off) ≡ Load n dst src off
    unfolding form_of form_at load_form new
    form_load off word = simp (low dst src d, high dst src s, d, s, not_context src s)
    form_load off half = simp (low dst src d, high dst src s, d, s, not_context src s)
    form_load off byte = simp (low dst src d, high dst src s, d, s, not_context src s)

    pub form_jgt : (off : ℕ) → form_of (jump_reg JGT dst src off) ≡ BranchReg JGT dst src off
    unfolding form_of form_at branch_reg_form new
    form_jgt off = simp (low dst src d, high dst src s, d, s)

pub form_ja : (off : ℕ) → form_of (jump_always off) ≡ Jump off
unfolding form_of form_at jump_form new
form_ja off = refl

pub form_exit : form_of exit_insn ≡ Exit
unfolding form_of form_at exit_form new
form_exit = refl
