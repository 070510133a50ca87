-- A run of what is left of a program comes to what the machine's run comes to, where every jump goes forward.
use Prim.Native.Nat.{ℕ, zero, suc, ◌+◌, ◌-◌, ◌*◌, ◌/◌, ◌^◌, ◌<◌, ◌≤◌}
use Rattle.std.specs.Prelude.{None}
use mathlib.Core.Path.{◌≡◌, refl, sym, ap, ◌∙◌}
use mathlib.Core.Bool.{Bool, true, false, cond}
use mathlib.Core.List.{List, [], ◌∷◌}
use native.Mathlib.Omega.{arith}
use native.Mathlib.Nat.{add-zero, zero-add}
use borrow.Author.Tests.{lt-ltb, ltb-true, ltb-false}
use lib.Dec.{eqb, ltb}
use lib.ListN.{length, get_or, drop, drop_of_length-le}
use lib.Seq.{drop-cons, drop-drop}
use Rattle.ebpf.specs.Insn.{exit_insn}
use Rattle.ebpf.specs.Alu.{sext16}
use Rattle.ebpf.specs.Form.{form_of}
use Rattle.ebpf.specs.Regs.{fresh, with_of}
use Rattle.ebpf.specs.Step.{act_of, act_at, regs_after, place_after, halt_of}
use Rattle.ebpf.specs.Run.{ended_of, go_of, run_of, first_state}
use Rattle.ebpf.specs.declared.insn.Insn.{Insn}
use Rattle.ebpf.specs.declared.regs.Regs.{Regs}
use Rattle.ebpf.specs.declared.act.Act.{Act}
use Rattle.ebpf.specs.declared.act.Act.TheVariants.{Writes, Jumps, Falls, Halts}
use Rattle.ebpf.specs.declared.run.Outcome.{Outcome}
use Rattle.ebpf.proofs.Runs.{go_next, go_halt, run_goes}
use Rattle.program.specs.Program.{code_of, Fit, Fits, none, one, counted, onward, execs}
use Rattle.program.proofs.Bytes.{code_length, insn_read}
use Rattle.program.proofs.Jumps.{jumps_by_off}

one_at_most : (t : Bool) → cond t 1 0 ≤ 1
one_at_most true = omega arith
one_at_most false = omega arith

fit_at : {is : List Insn} → Fits is → (k : ℕ) → k < length is → Fit (get_or is k exit_insn)
fit_at none k h = absurd (omega arith)
fit_at (one f fs) zero h = f
fit_at (one f fs) (suc k) h = fit_at fs k (omega arith)

-- The outcome of a run that n steps came before.
abbrev later : ℕ → Outcome → Outcome
later n o = record { stop = o.stop; r0 = o.r0; steps = n + o.steps }

later_none : (o : Outcome) → later 0 o ≡ o
later_none o = rw (zero-add o.steps)

later_counted : (n : ℕ) (o : Outcome) → later (n + 1) o ≡ later n (counted o)
later_counted n o = let e : n + 1 + o.steps ≡ n + suc o.steps = omega arith in rw e

-- The exit's own step, counted after n others or by itself.
ended : (t : Bool) (n stop r0 : ℕ)
    → ◌≡◌ {A = Outcome} (record { stop = stop; r0 = r0; steps = cond t (n + 1) n })
    (record { stop = stop; r0 = r0; steps = n + cond t 1 0 })
ended true n stop r0 = refl
ended false n stop r0 = rw (add-zero n)

module _ (frame : List ℕ) (start : ℕ) where
  -- What an instruction does decides the run from it on.
  does : (i : Insn) (rest : List Insn) (r : Regs) (a : Act) → act_of (form_of i) frame start r ≡ a
      → execs frame start 0 (i ∷ rest) r ≡ onward a r (λ k s. execs frame start k rest s)
  unfolding execs
  does i rest r a e = rw (e, execs)

  -- THEOREM: a run takes no more steps than there are instructions.
  pub steps_bounded : (is : List Insn) (k : ℕ) (r : Regs) → (execs frame start k is r).steps ≤ length is
  unfolding execs ended_of
  steps_bounded [] k r = omega arith
  steps_bounded (i ∷ rest) (suc k) r = omega (arith, steps_bounded rest k r)
  steps_bounded (i ∷ rest) zero r = split (act_of (form_of i) frame start r) refl (λ k s. steps_bounded rest k s)
    where
      split : (a : Act) → act_of (form_of i) frame start r ≡ a → ((k : ℕ) (s : Regs) → (execs frame start k rest s).steps ≤ length rest)
          → (execs frame start zero (i ∷ rest) r).steps ≤ suc (length rest)
      split (Writes dst value) e ih = rw (does i rest r _ e) (omega (arith, ih 0 (with_of r dst value)))
      split (Jumps off) e ih = rw (does i rest r _ e) (omega (arith, ih off r))
      split Falls e ih = rw (does i rest r _ e) (omega (arith, ih 0 r))
      split (Halts halt) e ih = rw (does i rest r _ e) (omega (arith, one_at_most (eqb halt.stop 0)))

  -- Skipped instructions are as good as not there.
  skipped : (is : List Insn) (k : ℕ) (r : Regs) → execs frame start k is r ≡ execs frame start 0 (drop k is) r
  unfolding execs
  skipped [] zero r = refl
  skipped [] (suc k) r = refl
  skipped (i ∷ rest) zero r = refl
  skipped (i ∷ rest) (suc k) r = skipped rest k r

  past_end : (is : List Insn) (pc : ℕ) (r : Regs) → length is ≤ pc → (execs frame start 0 (drop pc is) r).stop ≡ 0 → ⊥
  unfolding execs
  past_end is pc r h z = let z' = rw (drop_of_length-le is h) at z in omega arith

  -- What stands at a place of the bytes does what the instruction at that place of the list does.
  act_at_lem : {is : List Insn} → Fits is → (pc : ℕ) (r : Regs) → pc < length is
      → act_at (code_of is) frame start r pc ≡ act_of (form_of (get_or is pc exit_insn)) frame start r
  unfolding act_at
  act_at_lem {is} fs pc r h =
      let there : pc < length (code_of is) / 8 = omega (arith, code_length is) in
      let place : pc * 8 ≡ 8 * pc = omega arith in
      rw (lt-ltb pc (length (code_of is) / 8) there, place, insn_read fs pc h)

  module _ {is : List Insn} (fs : Fits is) (small : length is < 2 ^ 32) (budget : ℕ) where
    -- The claim at a place, when n steps of the budget are spent and enough are left to reach the end.
    abbrev Same : ℕ → ℕ → ℕ → Regs → Type 0
    Same left pc n r =
        n + left ≡ budget → length is ≤ pc + left → (execs frame start 0 (drop pc is) r).stop ≡ 0
        → go_of (budget - n) (code_of is) frame start (record { regs = r; pc = pc }) n ≡ later n (execs frame start 0 (drop pc is) r)

    -- One step at a place inside the program, the claim being true of every place with one step less.
    module _ (left pc n : ℕ) (r : Regs) (ih : (pc n : ℕ) (r : Regs) → Same left pc n r)
        (b : n + suc left ≡ budget) (h : pc < length is) (l : length is ≤ pc + suc left) where
      abbrev here : Insn
      here = get_or is pc exit_insn

      abbrev rest : List Insn
      rest = drop (suc pc) is

      abbrev Stepped : Type 0
      Stepped =
          (execs frame start 0 (here ∷ rest) r).stop ≡ 0
          → go_of (budget - n) (code_of is) frame start (record { regs = r; pc = pc }) n ≡ later n (execs frame start 0 (here ∷ rest) r)

      going : (a : Act) (k : ℕ) (s : Regs) → act_of (form_of here) frame start r ≡ a
          → halt_of a ≡ None → s ≡ regs_after a r → suc pc + k ≡ place_after a pc
          → onward a r (λ k s. execs frame start k rest s) ≡ counted (execs frame start k rest s) → Stepped
      going a k s e es er ep eo z =
          let further = ap (λ (x : List Insn). execs frame start 0 x s) (drop-drop k (suc pc) is) in
          let q = does here rest r a e ∙ eo ∙ ap counted (skipped rest k s ∙ further) in
          let ea = sym (act_at_lem fs pc r h ∙ e) in
          sym (go_next (code_of is) frame start r pc n a ea budget s (suc pc + k) (omega arith) es er ep)
          ∙ ih (suc pc + k) (n + 1) s (omega arith) (omega arith) (rw q at z) ∙ later_counted n _ ∙ ap (later n) (sym q)

      stepped : (a : Act) → act_of (form_of here) frame start r ≡ a → Stepped
      unfolding regs_after place_after halt_of sext16 ended_of
      stepped (Writes dst value) e = going _ 0 _ e refl refl (omega arith) refl
      stepped (Jumps off) e =
          let near : off < 2 ^ 15 = omega (arith, jumps_by_off frame start r here off e, (fit_at fs pc h).off15) in
          going _ off r e refl refl (rw (lt-ltb off (2 ^ 15) near) (omega arith)) refl
      stepped Falls e = going _ 0 r e refl refl (omega arith) refl
      stepped (Halts halt) e = λ z.
          sym (go_halt (code_of is) frame start r pc n _ (sym (act_at_lem fs pc r h ∙ e)) budget halt (omega arith) refl)
          ∙ ended (eqb halt.stop 0) n halt.stop halt.r0 ∙ ap (later n) (sym (does here rest r _ e))

    same : (left pc n : ℕ) (r : Regs) → Same left pc n r
    same zero pc n r b l z = absurd (past_end is pc r (omega arith) z)
    same (suc left) pc n r b l z = split (ltb pc (length is)) refl (λ pc n r. same left pc n r)
      where
        split : (t : Bool) → ltb pc (length is) ≡ t → ((pc n : ℕ) (r : Regs) → Same left pc n r)
            → go_of (budget - n) (code_of is) frame start (record { regs = r; pc = pc }) n ≡ later n (execs frame start 0 (drop pc is) r)
        split false e ih = absurd (past_end is pc r (ltb-false pc (length is) e) z)
        split true e ih =
            let h : pc < length is = ltb-true pc (length is) e in
            rw (drop-cons is pc exit_insn h) (stepped left pc n r ih b h l _ refl (rw (drop-cons is pc exit_insn h) at z))

    -- THEOREM: where the run of the list exits, the machine's run of its bytes has the same outcome, on any budget of its length or more.
    pub run_execs : length is ≤ budget → start + length frame < 2 ^ 32 → (execs frame start 0 is fresh).stop ≡ 0
        → run_of (code_of is) frame start budget ≡ execs frame start 0 is fresh
    unfolding first_state
    run_execs l f z =
        let some : length is ≡ 0 → ⊥ = λ e. past_end is 0 fresh (omega arith) z in
        let all : budget - 0 ≡ budget = omega arith in
        sym (run_goes (code_of is) frame start budget (λ e. some (omega (arith, code_length is))) (omega (arith, code_length is)) f)
        ∙ (rw all at (same budget 0 0 fresh (omega arith) (omega arith) z)) ∙ later_none (execs frame start 0 is fresh)
