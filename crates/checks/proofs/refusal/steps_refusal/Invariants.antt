use Rattle.std.proofs.Common.{◌≡◌, ◌+◌, ◌-◌}
use Rattle.checks.specs.Refusal.{steps_refusal}
use Rattle.checks.proofs.refusal.steps_refusal.Given as goal

-- None of the k steps passed is bad.
abbrev pub invariant-loop-k : goal.invariant-loop-k
invariant-loop-k l = steps_refusal l.steps l.n l.from ≡ steps_refusal l.steps (l.n - l.k) (l.from + l.k)
