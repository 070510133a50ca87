-- The primitives that are left decide as all of them do.
use Rattle.std.proofs.Common.{◌≡◌, ◌-◌, ◌*◌, ◌≤◌}
use Rattle.filter.specs.First.{first}
use Rattle.checks.specs.Check.{steps_before}
use Rattle.meaning.specs.Evaluate.{first_refused}
use Rattle.meaning.proofs.Verdicts.{earns}
use Rattle.meaning.proofs.evaluate.refused_or.Given as goal

abbrev pub invariant-loop-i : goal.invariant-loop-i
invariant-loop-i l =
    (l.from ≡ steps_before l.parts.prims.now l.i) × (l.from ≤ 65535 * l.i) × (first_refused l.link l.parts.steps.now l.parts.prims.now l.b ≡ first (earns l.link l.parts.steps.now l.parts.prims.now) (l.b - l.i) l.i)
