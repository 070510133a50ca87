use Rattle.std.proofs.Common.{◌≡◌, refl, sym, ◌∙◌, rules, arith, Err}
use Rattle.refusals.proofs.Numbers.{above_zero}
use Rattle.checks.proofs.Refusals.{refusal_none, refusal_stop, refusal_more}
use Rattle.checks.proofs.refusal.steps_refusal.Goals as goal

pub returns-in_err-step_refusal : goal.returns-in_err-step_refusal
returns-in_err-step_refusal c =
    let h : c.from_residual.result ≡ Err c.in_err-step_refusal.field-0.0 = search rules in
    rw h (sym (c.loop-k.invariant ∙ refusal_stop c.args.steps.now c.args.n c.args.from c.loop-k.k (omega arith) c.in_err-step_refusal.ensures (λ z. omega (arith, above_zero c.in_err-step_refusal.field-0.0, z))))

pub loop-k-preserved : goal.loop-k-preserved
loop-k-preserved c = c.loop-k.invariant ∙ refusal_more c.args.steps.now c.args.n c.args.from c.loop-k.k (omega arith) c.in_ok-step_refusal.ensures refl

pub returns : goal.returns
returns c = sym (c.loop-k.invariant ∙ refusal_none c.args.steps.now c.args.n c.args.from c.loop-k.k (omega arith))
