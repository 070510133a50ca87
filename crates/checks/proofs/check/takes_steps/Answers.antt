use borrow.Author.Tests.{ne_eqb}
use Rattle.checks.specs.Check.{takes}
use Rattle.checks.proofs.check.takes_steps.Goals as goal

pub returns-then-kind-eq23 : goal.returns-then-kind-eq23
unfolding takes
returns-then-kind-eq23 c = rw (← c.kind.ensures, c.if-kind-eq23.true, c.half.ensures)

pub returns-else-kind-eq23 : goal.returns-else-kind-eq23
unfolding takes
returns-else-kind-eq23 c = rw (← c.kind.ensures, ne_eqb _ _ c.if-kind-eq23.false)
