-- What the instruction of each form does where it is fine: its registers are among the seven, its bytes are in the frame, and no test is needed.
use Rattle.std.proofs.Common.{◌≡◌, ℕ, ◌+◌, ◌/◌, ◌%◌, ◌^◌, ◌<◌, ◌≤◌, Bool, true, false, cond, not, ◌&&◌, T, eqb, ltb, leb, List, length, get_or, sym, refl, ◌∙◌, arith, eqb→eq, ltb→lt, leb→le}
use native.Mathlib.Nat.{sub-zero}
use Rattle.ebpf.specs.Alu.{sext16, sext32, alu32, alu64, swapped, compares}
use Rattle.ebpf.specs.Form.{Form, Context, Load, Swap, only, plain, allowed, load_form, reg64_form, imm64_form, imm32_form, swap_form, jump_form, branch_form, branch_reg_form, exit_form}
use Rattle.ebpf.specs.Regs.{regs_of, known_of, value_of}
use Rattle.ebpf.specs.Step.{stopped, le_at, context_act, frame_act, load_act, readable, reg64_act, imm64_act, imm32_act, swap_act, branch_act, branch_reg_act, exit_act, taken, act_of}
use Rattle.ebpf.specs.declared.act.Act.{Act}
use Rattle.ebpf.specs.declared.act.Act.TheVariants.{Writes, Jumps}
use Rattle.ebpf.specs.Sure.{Fine, Low}

pub fine_if : (b : Bool) (a : Act) (s r0 : ℕ) → (s ≡ 0 → ⊥) → Fine (cond b a (stopped s r0)) → (b ≡ true) × Fine a
fine_if true a s r0 ne h = (refl, h)
fine_if false a s r0 ne h = absurd (ne h)

pub is_T : (b : Bool) → b ≡ true → T b
is_T b e = rw e tt

plain_low : (r : ℕ) → plain r ≡ true → r < 7
unfolding plain
plain_low r h = go (ltb r 7) refl h
  where
    go : (t : Bool) → ltb r 7 ≡ t → (t && not (eqb r 1)) ≡ true → r < 7
    go true e q = ltb→lt r 7 (is_T _ e)
    go false e q = absurd (let z : ◌≡◌ {A = ℕ} 0 1 = cc in omega arith)

module _ (frame v : List ℕ) (w : List Bool) where
  fine_only : (b : Bool) (f : Form) → Fine (act_of (only b f) frame 0 (regs_of v w)) → (b ≡ true) × Fine (act_of f frame 0 (regs_of v w))
  unfolding act_of
  fine_only true f h = (refl, h)
  fine_only false f h = absurd (omega arith)

  pub imm64_row : (op regs off imm : ℕ) → Fine (act_of (imm64_form op regs off imm) frame 0 (regs_of v w))
      → (regs < 7) × (act_of (imm64_form op regs off imm) frame 0 (regs_of v w) ≡ Writes regs (alu64 op (get_or v regs 0) (sext32 imm)))
  unfolding imm64_form act_of imm64_act value_of
  imm64_row op regs off imm h =
      let a = fine_only (eqb off 0) _ h in
      let b = fine_only (plain regs) _ a.1 in
      let k = fine_if (readable (regs_of v w) op regs) _ 32 0 (λ e. absurd (omega arith)) b.1 in
      (plain_low regs b.0, rw (a.0, b.0, k.0) refl)

  pub reg64_row : (op regs off imm : ℕ) → Fine (act_of (reg64_form op regs off imm) frame 0 (regs_of v w))
      → (regs % 16 < 7) × (regs / 16 < 7)
      × (act_of (reg64_form op regs off imm) frame 0 (regs_of v w) ≡ Writes (regs % 16) (alu64 op (get_or v (regs % 16) 0) (get_or v (regs / 16) 0)))
  unfolding reg64_form act_of reg64_act value_of
  reg64_row op regs off imm h =
      let a = fine_only (eqb off 0) _ h in
      let b = fine_only (eqb imm 0) _ a.1 in
      let d = fine_only (plain (regs % 16)) _ b.1 in
      let e = fine_only (plain (regs / 16)) _ d.1 in
      let k = fine_if (known_of (regs_of v w) (regs / 16)) _ 32 0 (λ e. absurd (omega arith)) e.1 in
      let l = fine_if (readable (regs_of v w) op (regs % 16)) _ 32 0 (λ e. absurd (omega arith)) k.1 in
      (plain_low _ d.0, plain_low _ e.0, rw (a.0, b.0, d.0, e.0, k.0, l.0) refl)

  pub imm32_row : (op regs off imm : ℕ) → Fine (act_of (imm32_form op regs off imm) frame 0 (regs_of v w))
      → (regs < 7) × (act_of (imm32_form op regs off imm) frame 0 (regs_of v w) ≡ Writes regs (alu32 op (get_or v regs 0 % 2 ^ 32) imm))
  unfolding imm32_form act_of imm32_act value_of
  imm32_row op regs off imm h =
      let a = fine_only (eqb off 0) _ h in
      let b = fine_only (plain regs) _ a.1 in
      let d = fine_only (allowed op imm) _ b.1 in
      let k = fine_if (known_of (regs_of v w) regs) _ 32 0 (λ e. absurd (omega arith)) d.1 in
      (plain_low regs b.0, rw (a.0, b.0, d.0, k.0) refl)

  pub branch_row : (class op regs off imm : ℕ) → Fine (act_of (branch_form class op regs off imm) frame 0 (regs_of v w))
      → (regs < 7) × (act_of (branch_form class op regs off imm) frame 0 (regs_of v w)
      ≡ taken (cond (eqb class 5) (compares op (get_or v regs 0) (sext32 imm)) (compares op (get_or v regs 0 % 2 ^ 32) imm)) off)
  unfolding branch_form act_of branch_act value_of
  branch_row class op regs off imm h =
      let b = fine_only (plain regs) _ h in
      let k = fine_if (known_of (regs_of v w) regs) _ 32 0 (λ e. absurd (omega arith)) b.1 in
      (plain_low regs b.0, rw (b.0, k.0) refl)

  pub branch_reg_row : (op regs off imm : ℕ) → Fine (act_of (branch_reg_form op regs off imm) frame 0 (regs_of v w))
      → (regs % 16 < 7) × (regs / 16 < 7)
      × (act_of (branch_reg_form op regs off imm) frame 0 (regs_of v w) ≡ taken (compares op (get_or v (regs % 16) 0) (get_or v (regs / 16) 0)) off)
  unfolding branch_reg_form act_of branch_reg_act value_of
  branch_reg_row op regs off imm h =
      let b = fine_only (eqb imm 0) _ h in
      let d = fine_only (plain (regs % 16)) _ b.1 in
      let e = fine_only (plain (regs / 16)) _ d.1 in
      let k = fine_if (known_of (regs_of v w) (regs % 16)) _ 32 0 (λ e. absurd (omega arith)) e.1 in
      let l = fine_if (known_of (regs_of v w) (regs / 16)) _ 32 0 (λ e. absurd (omega arith)) k.1 in
      (plain_low _ d.0, plain_low _ e.0, rw (b.0, d.0, e.0, k.0, l.0) refl)

  pub jump_row : (regs off imm : ℕ) → Fine (act_of (jump_form regs off imm) frame 0 (regs_of v w)) → act_of (jump_form regs off imm) frame 0 (regs_of v w) ≡ Jumps off
  unfolding jump_form act_of
  jump_row regs off imm h =
      let a = fine_only (eqb regs 0) _ h in
      let b = fine_only (eqb imm 0) _ a.1 in
      rw (a.0, b.0) refl

  pub exit_row : (regs off imm : ℕ) → Fine (act_of (exit_form regs off imm) frame 0 (regs_of v w)) → act_of (exit_form regs off imm) frame 0 (regs_of v w) ≡ stopped 0 (get_or v 0 0)
  unfolding exit_form act_of exit_act value_of
  exit_row regs off imm h =
      let a = fine_only (eqb regs 0) _ h in
      let b = fine_only (eqb off 0) _ a.1 in
      let d = fine_only (eqb imm 0) _ b.1 in
      let k = fine_if (known_of (regs_of v w) 0) _ 32 0 (λ e. absurd (omega arith)) d.1 in
      rw (a.0, b.0, d.0, k.0) refl

  pub swap_row : (regs off imm : ℕ) → Fine (act_of (swap_form regs off imm) frame 0 (regs_of v w))
      → (regs < 7) × (act_of (swap_form regs off imm) frame 0 (regs_of v w) ≡ Writes regs (swapped imm (get_or v regs 0)))
  unfolding swap_form act_of swap_act value_of
  swap_row regs off imm h =
      let a = fine_only (eqb off 0) _ h in
      let b = fine_only (plain regs) _ a.1 in
      (plain_low regs b.0, rw (a.0, b.0) (go (eqb imm 16) refl b.1))
    where
      go : (t : Bool) → eqb imm 16 ≡ t → Fine (act_of (cond t (Swap regs 16) (only (eqb imm 32) (Swap regs 32))) frame 0 (regs_of v w))
          → act_of (cond t (Swap regs 16) (only (eqb imm 32) (Swap regs 32))) frame 0 (regs_of v w) ≡ Writes regs (swapped imm (get_or v regs 0))
      go true e q = let k = fine_if (known_of (regs_of v w) regs) _ 32 0 (λ e. absurd (omega arith)) q in rw (eqb→eq imm 16 (is_T _ e), k.0) refl
      go false e q =
          let d = fine_only (eqb imm 32) _ q in
          let k = fine_if (known_of (regs_of v w) regs) _ 32 0 (λ e. absurd (omega arith)) d.1 in
          rw (d.0, eqb→eq imm 32 (is_T _ d.0), k.0) refl

  -- A load from the frame.
  frame_row : (size dst src off : ℕ) → Fine (load_act frame 0 (regs_of v w) size dst src off)
      → ((get_or v src 0 + sext16 off) % 2 ^ 64 + size ≤ length frame)
      × (load_act frame 0 (regs_of v w) size dst src off ≡ Writes dst (le_at frame ((get_or v src 0 + sext16 off) % 2 ^ 64) size))
  unfolding load_act frame_act value_of
  frame_row size dst src off h =
      let p = (get_or v src 0 + sext16 off) % 2 ^ 64 in
      let k = fine_if (known_of (regs_of v w) src) _ 32 0 (λ e. absurd (omega arith)) h in
      let a = fine_if (leb 0 p) _ 31 0 (λ e. absurd (omega arith)) k.1 in
      let b = fine_if (leb (p + size) (0 + length frame)) _ 31 0 (λ e. absurd (omega arith)) a.1 in
      (omega (arith, leb→le (p + size) (0 + length frame) (is_T _ b.0)), rw (k.0, a.0, b.0, sub-zero p) refl)

  pub load_row : (size regs off imm : ℕ) → eqb size 4 ≡ false → Fine (act_of (load_form size regs off imm) frame 0 (regs_of v w))
      → (regs % 16 < 7) × (regs / 16 < 7) × ((get_or v (regs / 16) 0 + sext16 off) % 2 ^ 64 + size ≤ length frame)
      × (act_of (load_form size regs off imm) frame 0 (regs_of v w) ≡ Writes (regs % 16) (le_at frame ((get_or v (regs / 16) 0 + sext16 off) % 2 ^ 64) size))
  unfolding load_form act_of
  load_row size regs off imm small h =
      let a = fine_only (eqb imm 0) _ h in
      let b = fine_only (plain (regs % 16)) _ a.1 in
      let z = go (eqb (regs / 16) 1) b.1 in
      (plain_low _ b.0, z.0, z.1, rw (a.0, b.0) z.2)
    where
      go : (t : Bool) → Fine (act_of (cond t (only (eqb size 4) (Context (regs % 16) off)) (only (plain (regs / 16)) (Load size (regs % 16) (regs / 16) off))) frame 0 (regs_of v w))
          → (regs / 16 < 7) × ((get_or v (regs / 16) 0 + sext16 off) % 2 ^ 64 + size ≤ length frame)
          × (act_of (cond t (only (eqb size 4) (Context (regs % 16) off)) (only (plain (regs / 16)) (Load size (regs % 16) (regs / 16) off))) frame 0 (regs_of v w)
          ≡ Writes (regs % 16) (le_at frame ((get_or v (regs / 16) 0 + sext16 off) % 2 ^ 64) size))
      go true q = let d = fine_only (eqb size 4) _ q in let z : ◌≡◌ {A = Bool} true false = sym d.0 ∙ small in absurd (let y : ◌≡◌ {A = ℕ} 0 1 = cc in omega arith)
      go false q =
          let d = fine_only (plain (regs / 16)) _ q in
          let k = frame_row size (regs % 16) (regs / 16) off d.1 in
          (plain_low _ d.0, k.0, rw d.0 k.1)

  context_low : (len dst off : ℕ) → dst < 7 → Low (context_act len 0 dst off)
  unfolding context_act
  context_low len dst off h = go (eqb off 0) (eqb off 4)
    where
      go : (s t : Bool) → Low (cond s (Writes dst 0) (cond t (Writes dst ((0 + len) % 2 ^ 64)) (stopped 31 0)))
      go true t = h
      go false true = h
      go false false = tt

  pub word_row : (regs off imm : ℕ) → Fine (act_of (load_form 4 regs off imm) frame 0 (regs_of v w))
      → ((regs / 16 ≡ 1 → ⊥) → (regs / 16 < 7) × ((get_or v (regs / 16) 0 + sext16 off) % 2 ^ 64 + 4 ≤ length frame))
      × (act_of (load_form 4 regs off imm) frame 0 (regs_of v w)
      ≡ cond (eqb (regs / 16) 1) (context_act (length frame) 0 (regs % 16) off) (Writes (regs % 16) (le_at frame ((get_or v (regs / 16) 0 + sext16 off) % 2 ^ 64) 4)))
      × Low (cond (eqb (regs / 16) 1) (context_act (length frame) 0 (regs % 16) off) (Writes (regs % 16) (le_at frame ((get_or v (regs / 16) 0 + sext16 off) % 2 ^ 64) 4)))
  unfolding load_form act_of
  word_row regs off imm h =
      let a = fine_only (eqb imm 0) _ h in
      let b = fine_only (plain (regs % 16)) _ a.1 in
      let z = go (eqb (regs / 16) 1) refl (plain_low _ b.0) b.1 in
      (z.0, rw (a.0, b.0) z.1, z.2)
    where
      go : (t : Bool) → eqb (regs / 16) 1 ≡ t → regs % 16 < 7
          → Fine (act_of (cond t (only (eqb 4 4) (Context (regs % 16) off)) (only (plain (regs / 16)) (Load 4 (regs % 16) (regs / 16) off))) frame 0 (regs_of v w))
          → ((regs / 16 ≡ 1 → ⊥) → (regs / 16 < 7) × ((get_or v (regs / 16) 0 + sext16 off) % 2 ^ 64 + 4 ≤ length frame))
          × (act_of (cond t (only (eqb 4 4) (Context (regs % 16) off)) (only (plain (regs / 16)) (Load 4 (regs % 16) (regs / 16) off))) frame 0 (regs_of v w)
          ≡ cond t (context_act (length frame) 0 (regs % 16) off) (Writes (regs % 16) (le_at frame ((get_or v (regs / 16) 0 + sext16 off) % 2 ^ 64) 4)))
          × Low (cond t (context_act (length frame) 0 (regs % 16) off) (Writes (regs % 16) (le_at frame ((get_or v (regs / 16) 0 + sext16 off) % 2 ^ 64) 4)))
      go true e low q = (λ ne. absurd (ne (eqb→eq (regs / 16) 1 (is_T _ e))), refl, context_low _ _ _ low)
      go false e low q =
          let d = fine_only (plain (regs / 16)) _ q in
          let k = frame_row 4 (regs % 16) (regs / 16) off d.1 in
          (λ ne. (plain_low _ d.0, k.0), rw d.0 k.1, low)
