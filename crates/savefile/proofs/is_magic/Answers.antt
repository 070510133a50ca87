-- One of the two numbers.
use Rattle.std.proofs.Common.{refl}
use borrow.Author.Tests.{eq-eqb, ne_eqb}
use Rattle.savefile.specs.Savefile.{is_magic}
use Rattle.savefile.proofs.is_magic.Goals as goal

pub returns-then-x-eq2712847316 : goal.returns-then-x-eq2712847316
unfolding is_magic
returns-then-x-eq2712847316 c = rw (eq-eqb _ _ c.if-x-eq2712847316.true) refl

pub returns-else-x-eq2712847316 : goal.returns-else-x-eq2712847316
unfolding is_magic
returns-else-x-eq2712847316 c = rw (ne_eqb _ _ c.if-x-eq2712847316.false) refl
