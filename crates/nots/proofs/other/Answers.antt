-- Each operator is its row of the definition.
use Rattle.nots.specs.Turn.{other_of}
use borrow.Author.Tests.{eq-eqb, ne_eqb}
use Rattle.nots.proofs.other.Goals as goal

pub returns-then-t-eq1 : goal.returns-then-t-eq1
unfolding other_of
returns-then-t-eq1 c = rw (eq-eqb _ _ c.if-t-eq1.true)

pub returns-else-t-eq1 : goal.returns-else-t-eq1
unfolding other_of
returns-else-t-eq1 c = rw (ne_eqb _ _ c.if-t-eq1.false)
