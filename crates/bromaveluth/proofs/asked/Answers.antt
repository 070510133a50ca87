-- The mode is looked at first.
use borrow.Author.Tests.{lt-ltb, le-ltb}
use Rattle.bromaveluth.specs.Boundary.{asked_of}
use Rattle.bromaveluth.proofs.asked.Goals as goal

pub returns-then-mode-gt1 : goal.returns-then-mode-gt1
unfolding asked_of
returns-then-mode-gt1 c = rw (lt-ltb _ _ c.if-mode-gt1.true, c.at.ensures)

pub returns : goal.returns
unfolding asked_of
returns c = rw (le-ltb _ _ c.if-mode-gt1.false) c.measure.ensures
