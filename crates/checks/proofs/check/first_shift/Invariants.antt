use Rattle.std.proofs.Common.{◌≡◌, ◌≤◌, ◌-◌, ◌*◌}
use Rattle.filter.specs.First.{first}
use Rattle.checks.specs.Check.{steps_before, shift_at}
use Rattle.checks.proofs.check.first_shift.Given as goal

-- No record before i has such a shift, and `from` is how many steps they take.
abbrev pub invariant-loop-i : goal.invariant-loop-i
invariant-loop-i l = (l.from ≡ steps_before l.prims l.i) × (l.from ≤ 65535 * l.i) × (first (shift_at l.steps l.prims) l.n 0 ≡ first (shift_at l.steps l.prims) (l.n - l.i) l.i)
