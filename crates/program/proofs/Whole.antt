-- A whole program: its first two instructions set up the frame's ends, and its verdict is that of the machine's run.
use Prim.Native.Nat.{ℕ, ◌^◌, ◌<◌}
use mathlib.Core.List.{List, ◌∷◌}
use native.Mathlib.Omega.{arith}
use lib.ListN.{length}
use Rattle.ebpf.specs.Opcode.{WORD}
use Rattle.ebpf.specs.Insn.{ldx}
use Rattle.ebpf.specs.Regs.{fresh}
use Rattle.ebpf.specs.Run.{run_of}
use Rattle.ebpf.specs.declared.insn.Insn.{Insn}
use Rattle.program.specs.Program.{code_of, Fits}
use Rattle.program.specs.Ends.{Ends, Exits, Frame, At}
use Rattle.program.proofs.Suffix.{steps_bounded, run_execs}
use Rattle.program.proofs.Registers.{r2, r3}
use Rattle.program.proofs.Steps.{on_start, on_end}

module _ {frame : List ℕ} {start : ℕ} (w : Frame frame start) where
  -- "At first only R1 is written; through it 0 gives start, 4 start plus length."
  pub on_prologue : {v : ℕ} {rest : List Insn} → At frame start v 0 rest
      → Ends frame start v 0 (ldx WORD 2 1 0 ∷ ldx WORD 3 1 4 ∷ rest) fresh
  unfolding fresh
  on_prologue h = on_start r2 (on_end r3 w.low (h _ _ _ _))

  -- THEOREM: a program that ends with v makes the machine exit with v, on a budget of its length.
  pub run_ends : {v : ℕ} {is : List Insn} → Fits is → length is < 2 ^ 32 → Ends frame start v 0 is fresh
      → Exits v (length is) (run_of (code_of is) frame start (length is))
  run_ends {is = is} fs small h =
      rw (run_execs frame start fs small (length is) (omega arith) w.low h.exits)
      (record { exits = h.exits; gives = h.gives; within = steps_bounded frame start is 0 fresh })
