use Rattle.std.proofs.Common.{refl, ◌∙◌, arith}
use Rattle.refusals.proofs.Numbers.{above_zero}
use Rattle.checks.specs.Check.{steps_before}
use Rattle.checks.proofs.Checks.{before_more}
use Rattle.meaning.proofs.Verdicts.{earned_all, refusal_is, earned_none, earned_here, earned_later}
use Rattle.meaning.proofs.evaluate.refused_or.Goals as goal

pub loop-i-init : goal.loop-i-init
unfolding steps_before
loop-i-init c = (refl, omega arith, earned_all c.args.link c.args.parts.steps.now c.args.parts.prims.now c.args.b)

pub returns-in-Err : goal.returns-in-Err
returns-in-Err c =
    let a = c.args in
    let l = c.loop-i in
    let r = refusal_is a.link a.parts.steps.now a.parts.prims.now l.i l.invariant.0 c.primitive_at-prim.ensures c.in-Err.ensures in
    rw c.at.ensures (earned_here a.link a.parts.steps.now a.parts.prims.now a.b l.i a.holds (omega arith) r (λ z. omega (arith, above_zero c.in-Err.reason, z)) l.invariant.2)

pub loop-i-preserved : goal.loop-i-preserved
loop-i-preserved c =
    let a = c.args in
    let l = c.loop-i in
    let r = refusal_is a.link a.parts.steps.now a.parts.prims.now l.i l.invariant.0 c.primitive_at-prim.ensures c.in_default.ensures in (
      rw (before_more a.parts.prims.now l.i, ← l.invariant.0, ← c.takes_steps.ensures, c.from-from.ensures),
      omega arith,
      l.invariant.2 ∙ earned_later a.link a.parts.steps.now a.parts.prims.now a.b l.i (omega arith) r refl,
    )

pub returns : goal.returns
returns c = earned_none c.args.link c.args.parts.steps.now c.args.parts.prims.now c.args.b c.loop-i.i c.args.holds (omega arith) c.loop-i.invariant.2
