-- After n steps, what is left of the run is the whole run.
use Rattle.ebpf.specs.Run.{go_of, first_state}
use Rattle.std.proofs.Common.{◌≡◌, ◌-◌}
use Rattle.ebpf.proofs.run.drive.Given as goal

abbrev pub invariant-loop-n : goal.invariant-loop-n
invariant-loop-n l =
    go_of (l.budget - l.n) l.program l.frame.bytes.now l.frame.start (record { regs = l.regs; pc = l.pc }) l.n
    ≡ go_of l.budget l.program l.frame.bytes.now l.frame.start first_state 0
