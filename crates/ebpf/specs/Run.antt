-- A run of the machine on a budget of steps (document 01, "The machine").
use Rattle.std.specs.Prelude.{ℕ, zero, suc, ◌+◌, ◌%◌, ◌^◌, Bool, true, false, cond, not, ◌&&◌, List, Option, Some, None, length, ◌==◌, nat_lt}
use Rattle.ebpf.specs.Regs.{fresh}
use Rattle.ebpf.specs.Step.{step_of}
use Rattle.ebpf.specs.declared.step.State.{State}
use Rattle.ebpf.specs.declared.act.Halt.{Halt}
use Rattle.ebpf.specs.declared.run.Outcome.{Outcome}

unfoldable pub first_state : State
first_state = record { regs = fresh; pc = 0 }

-- "steps carried out, exit counted": a halt other than the exit carries out no step.
unfoldable pub ended_of : ℕ → ℕ → ℕ → Outcome
ended_of stop r0 n = record { stop = stop; r0 = r0; steps = cond (stop == 0) (n + 1) n }

-- A step that goes on hands its state to what follows; one that halts ends the run.
abbrev pub after : Option Halt → State → (State → Outcome) → ℕ → Outcome
after None s more n = more s
after (Some halt) s more n = ended_of halt.stop halt.r0 n

-- "at each step 34 budget spent": at most `left` further steps from s, n having been carried out.
unfoldable pub go_of : ℕ → List ℕ → List ℕ → ℕ → State → ℕ → Outcome
go_of zero program frame start s n = record { stop = 34; r0 = 0; steps = n }
go_of (suc left) program frame start s n =
    after (step_of program frame start s).halt (step_of program frame start s).state (λ t. go_of left program frame start t (n + 1)) n

-- The run where the test holds.
abbrev pub unless35 : Bool → (ℕ → Outcome) → ℕ → Outcome
unless35 true more budget = more budget
unless35 false more budget = record { stop = 35; r0 = 0; steps = 0 }

-- "35 length zero or no multiple of 8, or start plus frame length 2^32 or more".
unfoldable pub run_of : List ℕ → List ℕ → ℕ → ℕ → Outcome
run_of program frame start budget =
    unless35 (not (length program == 0) && (length program % 8 == 0 && nat_lt (start + length frame) (2 ^ 32)))
    (λ k. go_of k program frame start first_state 0)
    budget
