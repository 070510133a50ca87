-- With some registers written, what is left of the run after n steps is the whole run.
use Rattle.ebpf.specs.Run.{go_of, first_state}
use Rattle.ebpf.specs.Regs.{regs_of}
use Rattle.std.proofs.Common.{◌≡◌, ◌-◌, ◌/◌, ◌≤◌, Bool, List, length}
use Rattle.ebpf.proofs.sure.run_sure.Given as goal

abbrev pub invariant-loop-halt : goal.invariant-loop-halt
invariant-loop-halt l =
    (l.n ≤ length l.program / 8)
    × ((w : List Bool) × (go_of (length l.program / 8 - l.n) l.program l.frame 0 (record { regs = regs_of l.values w; pc = l.pc }) l.n ≡ go_of (length l.program / 8) l.program l.frame 0 first_state 0))

abbrev pub decreases-loop-halt : goal.decreases-loop-halt
decreases-loop-halt l = length l.program / 8 - l.n
