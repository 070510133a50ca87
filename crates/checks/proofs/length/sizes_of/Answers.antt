use Rattle.std.proofs.Common.{refl, arith}
use Rattle.checks.proofs.Lengths.{sizes_more, size_is}
use Rattle.checks.proofs.Checks.{before_more}
use Rattle.checks.specs.Check.{steps_before}
use Rattle.checks.specs.Length.{sizes_of}
use Rattle.checks.proofs.length.sizes_of.Goals as goal

pub loop-i-init : goal.loop-i-init
unfolding steps_before sizes_of
loop-i-init c = (refl, omega arith, refl, omega arith)

pub loop-i-preserved : goal.loop-i-preserved
loop-i-preserved c =
    let a = c.args in
    let l = c.loop-i in
    let e = size_is a.link a.steps.now a.prims.now l.i l.invariant.2 c.primitive_at-prim.ensures c.size_of.ensures in (
      rw (sizes_more a.link a.steps.now a.prims.now l.i, ← l.invariant.0, ← e, c.from-sum.ensures),
      omega arith,
      rw (before_more a.prims.now l.i, ← l.invariant.2, ← c.takes_steps.ensures, c.from-from.ensures),
      omega arith,
    )
