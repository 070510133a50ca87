use Rattle.std.proofs.Common.{◌≡◌, ◌+◌, ◌-◌}
use Rattle.filter.specs.First.{any}
use Rattle.checks.specs.Check.{big_shift}
use Rattle.checks.proofs.check.shift_in.Given as goal

-- None of the k steps passed is such a shift.
abbrev pub invariant-loop-k : goal.invariant-loop-k
invariant-loop-k l = any (big_shift l.steps) l.n l.from ≡ any (big_shift l.steps) (l.n - l.k) (l.from + l.k)
