use Rattle.std.proofs.Common.{◌≡◌, refl, sym, ◌∙◌, arith}
use Rattle.filter.proofs.Firsts.{first_all, first_none, first_stop, first_more}
use Rattle.checks.proofs.Checks.{before_more, shift_is}
use Rattle.checks.specs.Check.{steps_before, shift_at}
use Rattle.checks.proofs.check.first_shift.Goals as goal

pub loop-i-init : goal.loop-i-init
unfolding steps_before
loop-i-init c = (refl, omega arith, first_all (shift_at c.args.steps.now c.args.prims.now) c.args.n)

pub returns-then-shift_in : goal.returns-then-shift_in
returns-then-shift_in c =
    let a = c.args in
    let l = c.loop-i in
    sym (l.invariant.2 ∙ first_stop (shift_at a.steps.now a.prims.now) a.n l.i (omega arith) (shift_is a.steps.now a.prims.now l.i c.takes_steps-k.ensures l.invariant.0 c.shift_in.ensures ∙ c.if-shift_in.true))

pub loop-i-preserved : goal.loop-i-preserved
loop-i-preserved c =
    let a = c.args in
    let l = c.loop-i in (
      rw (before_more a.prims.now l.i, ← l.invariant.0, ← c.takes_steps-k.ensures, c.from-from.ensures),
      omega arith,
      l.invariant.2 ∙ first_more (shift_at a.steps.now a.prims.now) a.n l.i (omega arith) (shift_is a.steps.now a.prims.now l.i c.takes_steps-k.ensures l.invariant.0 c.shift_in.ensures ∙ c.if-shift_in.false),
    )

pub returns : goal.returns
returns c = let q : c.from.result ≡ c.loop-i.i = omega arith in
    rw q (sym (c.loop-i.invariant.2 ∙ first_none (shift_at c.args.steps.now c.args.prims.now) c.args.n c.loop-i.i (omega arith)))
