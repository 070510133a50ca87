use borrow.Author.Tests.{lt-ltb, le-ltb}
use Rattle.checks.specs.Check.{check_of}
use Rattle.checks.proofs.check.check_sheet.Goals as goal

pub returns-then-link-gt2 : goal.returns-then-link-gt2
unfolding check_of
returns-then-link-gt2 c = rw (lt-ltb _ _ c.if-link-gt2.true, c.at.ensures)

pub returns : goal.returns
unfolding check_of
returns c = rw (le-ltb _ _ c.if-link-gt2.false, ← c.from.ensures, c.check_sections.ensures)
