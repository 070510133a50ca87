-- Laws of a run: a step that goes on, a step that halts, a budget that is spent, and where the first step is taken.
use Rattle.std.proofs.Common.{◌≡◌, ℕ, zero, suc, ◌+◌, ◌-◌, ◌%◌, ◌^◌, ◌<◌, ◌≤◌, Some, None, List, length, sym, arith, lt-ltb, eq-eqb, ne_eqb}
use Rattle.ebpf.specs.Step.{act_at, regs_after, place_after, halt_of, turn_of, step_of}
use Rattle.ebpf.specs.Run.{ended_of, go_of, run_of, first_state}
use Rattle.ebpf.specs.declared.regs.Regs.{Regs}
use Rattle.ebpf.specs.declared.act.Act.{Act}
use Rattle.ebpf.specs.declared.act.Halt.{Halt}

module _ (program frame : List ℕ) (start : ℕ) (r : Regs) (pc n : ℕ) where
  module _ (a : Act) (ea : a ≡ act_at program frame start r pc) where
    go_suc : (left : ℕ) → halt_of a ≡ None
        → go_of (suc left) program frame start (record { regs = r; pc = pc }) n
        ≡ go_of left program frame start (record { regs = regs_after a r; pc = place_after a pc }) (n + 1)
    unfolding go_of step_of turn_of
    go_suc left es = rw (← ea, es)

    go_end : (left : ℕ) (halt : Halt) → halt_of a ≡ Some halt
        → go_of (suc left) program frame start (record { regs = r; pc = pc }) n ≡ ended_of halt.stop halt.r0 n
    unfolding go_of step_of turn_of
    go_end left halt es = rw (← ea, es)

    pub go_next : (budget : ℕ) (next : Regs) (to : ℕ) → n < budget → halt_of a ≡ None
        → next ≡ regs_after a r → to ≡ place_after a pc
        → go_of (budget - (n + 1)) program frame start (record { regs = next; pc = to }) (n + 1)
        ≡ go_of (budget - n) program frame start (record { regs = r; pc = pc }) n
    go_next budget next to h es er ep =
        let q : budget - n ≡ suc (budget - (n + 1)) = omega arith in
        rw (q, er, ep) (sym (go_suc (budget - (n + 1)) es))

    pub go_halt : (budget : ℕ) (halt : Halt) → n < budget → halt_of a ≡ Some halt
        → ended_of halt.stop halt.r0 n ≡ go_of (budget - n) program frame start (record { regs = r; pc = pc }) n
    go_halt budget halt h es =
        let q : budget - n ≡ suc (budget - (n + 1)) = omega arith in
        rw q (sym (go_end (budget - (n + 1)) halt es))

  pub go_spent : (budget : ℕ) → budget ≤ n → n ≤ budget
      → record { stop = 34; r0 = 0; steps = budget } ≡ go_of (budget - n) program frame start (record { regs = r; pc = pc }) n
  unfolding go_of
  go_spent budget h k = let q : budget - n ≡ zero = omega arith in let e : budget ≡ n = omega arith in rw (q, e)

module _ (program frame : List ℕ) (start budget : ℕ) where
  pub run_goes : (length program ≡ 0 → ⊥) → length program % 8 ≡ 0 → start + length frame < 2 ^ 32
      → go_of budget program frame start first_state 0 ≡ run_of program frame start budget
  unfolding run_of
  run_goes h q g = simp (ne_eqb (length program) 0 h, eq-eqb (length program % 8) 0 q, lt-ltb (start + length frame) (2 ^ 32) g)
