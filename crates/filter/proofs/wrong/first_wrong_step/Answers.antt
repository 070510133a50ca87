use Rattle.std.proofs.Common.{sym, ◌∙◌, arith}
use Rattle.filter.specs.Wrong.{step_wrong}
use Rattle.filter.proofs.Firsts.{first_is, first_nothing}
use Rattle.filter.proofs.Wrongs.{steps_below}
use Rattle.filter.proofs.wrong.first_wrong_step.Goals as goal

pub returns-then-step_wrong : goal.returns-then-step_wrong
returns-then-step_wrong c =
    let l = c.loop-j in
    sym (first_is (step_wrong c.args.part.now) c.args.n l.j (omega arith) l.invariant.below (λ h. sym c.step_wrong.ensures ∙ c.if-step_wrong.true))

pub loop-j-preserved : goal.loop-j-preserved
loop-j-preserved c =
    let l = c.loop-j in
    record {
      begins = omega (arith, l.invariant.begins);
      below = steps_below c.args.part.now l.j l.invariant.begins l.invariant.below (sym c.step_wrong.ensures ∙ c.if-step_wrong.false);
    }

pub returns : goal.returns
returns c =
    let l = c.loop-j in
    sym (first_nothing (step_wrong c.args.part.now) c.args.n (λ k h. l.invariant.below k (omega arith)))

pub returns-else-step_wrong : goal.returns-else-step_wrong
returns-else-step_wrong c =
    let l = c.loop-j in
    let below = steps_below c.args.part.now l.j l.invariant.begins l.invariant.below (sym c.step_wrong.ensures ∙ c.if-step_wrong.false) in
    sym (first_nothing (step_wrong c.args.part.now) c.args.n (λ k h. below k (omega arith)))
