use borrow.Author.Tests.{lt-ltb, le-ltb}
use Rattle.checks.specs.Check.{check_mode_of}
use Rattle.checks.proofs.check.check_sheet_mode.Goals as goal

pub returns-then-mode-gt1 : goal.returns-then-mode-gt1
unfolding check_mode_of
returns-then-mode-gt1 c = rw (lt-ltb _ _ c.if-mode-gt1.true, c.at.ensures)

pub returns : goal.returns
unfolding check_mode_of
returns c = rw (le-ltb _ _ c.if-mode-gt1.false, c.check_sheet.ensures)
