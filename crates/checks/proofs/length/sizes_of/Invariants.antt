use Rattle.std.proofs.Common.{◌≡◌, ◌≤◌, ◌*◌}
use Rattle.checks.specs.Check.{steps_before}
use Rattle.checks.specs.Length.{sizes_of}
use Rattle.checks.proofs.length.sizes_of.Given as goal

-- The sum is what the records before i add, and `from` is how many steps they take.
abbrev pub invariant-loop-i : goal.invariant-loop-i
invariant-loop-i l = (l.sum ≡ sizes_of l.link l.steps l.prims l.i) × (l.sum ≤ 4294967296 * l.i) × (l.from ≡ steps_before l.prims l.i) × (l.from ≤ 65535 * l.i)
