-- The steps that are left make of the value what all of them make of the first.
use Rattle.meaning.specs.Meaning.{stepped}
use Rattle.std.proofs.Common.{◌≡◌, ◌+◌, ◌-◌}
use Rattle.meaning.proofs.access.stepped.Given as goal

abbrev pub invariant-loop-k : goal.invariant-loop-k
invariant-loop-k l = stepped l.steps l.n l.j l.v ≡ stepped l.steps (l.n - l.k) (l.j + l.k) l.w
