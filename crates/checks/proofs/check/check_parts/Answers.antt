-- Refusals 3 and 4 stop it; else what is found further on decides.
use Rattle.std.proofs.Common.{◌≡◌, sym, ◌∙◌, rules, Err}
use Rattle.checks.specs.Check.{check_parts}
use Rattle.checks.proofs.Wholes.{good_shape, goes_on, stops_here}
use Rattle.checks.proofs.check.check_parts.Goals as goal

pub returns-in_err-check_shape : goal.returns-in_err-check_shape
unfolding check_parts
returns-in_err-check_shape c =
    let h : c.from_residual.result ≡ Err c.in_err-check_shape.field-0.0 = search rules in
    rw h (stops_here _ _ _ _ _ _ _ (sym c.in_err-check_shape.ensures))

pub returns : goal.returns
unfolding check_parts
returns c =
    let a = c.args in
    let whole = good_shape a.parts.steps.now a.parts.prims.now a.parts.tokens.now a.n.steps a.n.prims a.n.tokens (sym c.in_ok-check_shape.ensures) in
    c.check_accesses.ensures ∙ sym (goes_on a.parts.steps.now a.parts.prims.now a.parts.tokens.now a.n.steps a.n.prims a.n.tokens whole.0 _)
