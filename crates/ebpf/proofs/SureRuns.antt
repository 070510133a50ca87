-- A run that stops 0: each of its steps is fine, there is an instruction and a step is left.
use Rattle.std.proofs.Common.{◌≡◌, ℕ, ◌+◌, ◌-◌, ◌*◌, ◌/◌, ◌%◌, ◌^◌, ◌<◌, ◌≤◌, Bool, true, false, not, ◌&&◌, eqb, ltb, Some, None, List, length, sym, refl, ap, ◌∙◌, arith, ltb→lt, nltb→le, lt-ltb}
use Rattle.ebpf.specs.Insn.{insn_at}
use Rattle.ebpf.specs.Form.{form_of}
use Rattle.ebpf.specs.Regs.{regs_of, with_of}
use Rattle.ebpf.specs.Step.{act_of, act_at, regs_after, place_after, halt_of}
use Rattle.ebpf.specs.Run.{go_of, run_of, ended_of, first_state}
use Rattle.ebpf.specs.declared.act.Act.{Act}
use Rattle.ebpf.specs.declared.act.Act.TheVariants.{Writes, Jumps, Falls, Halts}
use Rattle.ebpf.specs.declared.run.Outcome.{Outcome}
use Rattle.ebpf.specs.declared.act.Halt.{Halt}
use Rattle.ebpf.proofs.Runs.{go_next, go_halt, go_spent}
use Rattle.ebpf.specs.Sure.{Fine, values_after}
use Rattle.ebpf.proofs.SureRows.{is_T, fine_if}

-- A run that stops 0 is the steps, with no refusal 35 before.
pub run_is : (P F : List ℕ) (B : ℕ) → (run_of P F 0 B).stop ≡ 0 → go_of B P F 0 first_state 0 ≡ run_of P F 0 B
unfolding run_of
run_is P F B h = go (not (eqb (length P) 0) && (eqb (length P % 8) 0 && ltb (0 + length F) (2 ^ 32))) refl
  where
    go : (t : Bool) → (not (eqb (length P) 0) && (eqb (length P % 8) 0 && ltb (0 + length F) (2 ^ 32))) ≡ t → go_of B P F 0 first_state 0 ≡ run_of P F 0 B
    go true e = rw e refl
    go false e = let z : ◌≡◌ {A = ℕ} 35 0 = rw e at h in absurd (omega arith)

regs_are : (v : List ℕ) (w : List Bool) (x : Act) → regs_of (values_after x v) (regs_after x (regs_of v w)).written ≡ regs_after x (regs_of v w)
unfolding values_after regs_after with_of
regs_are v w (Writes dst value) = refl
regs_are v w (Jumps off) = refl
regs_are v w Falls = refl
regs_are v w (Halts halt) = refl

-- Where the whole run stops 0, so does the rest of it, and R0 is the whole run's.
pub rest_stops : (P F : List ℕ) (B : ℕ) → (run_of P F 0 B).stop ≡ 0 → (o : Outcome) → o ≡ go_of B P F 0 first_state 0 → o.stop ≡ 0
rest_stops P F B h o e = ap (λ (x : Outcome). x.stop) (e ∙ run_is P F B h) ∙ h

pub rest_gives : (P F : List ℕ) (B : ℕ) → (run_of P F 0 B).stop ≡ 0 → (o : Outcome) → o ≡ go_of B P F 0 first_state 0 → o.r0 ≡ (run_of P F 0 B).r0
rest_gives P F B h o e = ap (λ (x : Outcome). x.r0) (e ∙ run_is P F B h)

module _ (P F v : List ℕ) (w : List Bool) (pc n B : ℕ) (k : n ≤ B) (h : (go_of (B - n) P F 0 (record { regs = regs_of v w; pc = pc }) n).stop ≡ 0) where
  pub sure_left : n < B
  sure_left = go (ltb n B) refl
    where
      go : (t : Bool) → ltb n B ≡ t → n < B
      go true e = ltb→lt n B (is_T _ e)
      go false e =
          let g : B ≤ n = nltb→le n B (rw e tt) in
          let z : ◌≡◌ {A = ℕ} 34 0 = ap (λ (o : Outcome). o.stop) (go_spent P F 0 (regs_of v w) pc n B g k) ∙ h in
          absurd (omega arith)

  fine_of : (a : Act) → act_at P F 0 (regs_of v w) pc ≡ a → Fine a
  unfolding halt_of ended_of
  fine_of (Writes dst value) e = tt
  fine_of (Jumps off) e = tt
  fine_of Falls e = tt
  fine_of (Halts halt) e = ap (λ (o : Outcome). o.stop) (go_halt P F 0 (regs_of v w) pc n (Halts halt) (sym e) B halt sure_left refl) ∙ h

  at_here : (pc < length P / 8) × Fine (act_of (form_of (insn_at P (pc * 8))) F 0 (regs_of v w))
  unfolding act_at
  at_here = let k = fine_if (ltb pc (length P / 8)) _ 33 0 (λ e. absurd (omega arith)) (fine_of _ refl) in (ltb→lt pc (length P / 8) (is_T _ k.0), k.1)

  pub sure_here : pc < length P / 8
  sure_here = at_here.0

  pub sure_act : Fine (act_of (form_of (insn_at P (pc * 8))) F 0 (regs_of v w))
  sure_act = at_here.1

  pub act_is : act_at P F 0 (regs_of v w) pc ≡ act_of (form_of (insn_at P (pc * 8))) F 0 (regs_of v w)
  unfolding act_at
  act_is = rw (lt-ltb pc (length P / 8) sure_here) refl

  module _ (a : Act) (ea : a ≡ act_of (form_of (insn_at P (pc * 8))) F 0 (regs_of v w)) where
    -- The exit.
    pub sure_ends : (halt : Halt) → halt_of a ≡ Some halt → halt.r0 ≡ (go_of (B - n) P F 0 (record { regs = regs_of v w; pc = pc }) n).r0
    unfolding ended_of
    sure_ends halt e = ap (λ (o : Outcome). o.r0) (go_halt P F 0 (regs_of v w) pc n a (ea ∙ sym act_is) B halt sure_left e)

    -- Any other step.
    pub sure_next : halt_of a ≡ None → (v' : List ℕ) (to : ℕ) → v' ≡ values_after a v → to ≡ place_after a pc
        → go_of (B - (n + 1)) P F 0 (record { regs = regs_of v' (regs_after a (regs_of v w)).written; pc = to }) (n + 1)
        ≡ go_of (B - n) P F 0 (record { regs = regs_of v w; pc = pc }) n
    sure_next g v' to ev ep = go_next P F 0 (regs_of v w) pc n a (ea ∙ sym act_is) B (regs_of v' (regs_after a (regs_of v w)).written) to sure_left g (rw ev (regs_are v w a)) ep
