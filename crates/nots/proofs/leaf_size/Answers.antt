-- A primitive is one token, under a Not two.
use Rattle.nots.specs.Turn.{leaf_size}
use Rattle.nots.proofs.leaf_size.Goals as goal

pub returns-then-denied : goal.returns-then-denied
unfolding leaf_size
returns-then-denied c = rw c.if-denied.true

pub returns-else-denied : goal.returns-else-denied
unfolding leaf_size
returns-else-denied c = rw c.if-denied.false
