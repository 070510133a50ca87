use Rattle.std.proofs.Common.{◌≡◌, ◌-◌}
use Rattle.filter.specs.First.{first}
use Rattle.checks.specs.Check.{far_offset}
use Rattle.checks.proofs.check.first_far.Given as goal

-- No record before i has an offset out of reach.
abbrev pub invariant-loop-i : goal.invariant-loop-i
invariant-loop-i l = first (far_offset l.link l.prims) l.n 0 ≡ first (far_offset l.link l.prims) (l.n - l.i) l.i
