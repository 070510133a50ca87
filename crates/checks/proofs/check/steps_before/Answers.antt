use Rattle.std.proofs.Common.{refl, arith}
use Rattle.checks.proofs.Checks.{before_more}
use Rattle.checks.specs.Check.{steps_before}
use Rattle.checks.proofs.check.steps_before.Goals as goal

pub loop-i-init : goal.loop-i-init
unfolding steps_before
loop-i-init c = (refl, omega arith)

pub loop-i-preserved : goal.loop-i-preserved
loop-i-preserved c = (rw (before_more c.args.prims.now c.loop-i.i, ← c.loop-i.invariant.0, ← c.takes_steps.ensures, c.from-sum.ensures), omega arith)
