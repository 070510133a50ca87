use Rattle.std.proofs.Common.{◌≡◌, ◌≤◌, ◌*◌}
use Rattle.checks.specs.Check.{steps_before}
use Rattle.checks.proofs.check.steps_before.Given as goal

-- The sum is what the records before i take, each at most 65535.
abbrev pub invariant-loop-i : goal.invariant-loop-i
invariant-loop-i l = (l.sum ≡ steps_before l.prims l.i) × (l.sum ≤ 65535 * l.i)
