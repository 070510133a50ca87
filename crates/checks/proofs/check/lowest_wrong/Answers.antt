use Rattle.std.proofs.Common.{arith}
use Rattle.filter.specs.Wrong.{token_wrong}
use Rattle.filter.proofs.Firsts.{first_within}
use Rattle.checks.proofs.Places.{lowest_step, lowest_record, lowest_token}
use Rattle.checks.proofs.check.lowest_wrong.Goals as goal

pub returns-then-x-steps_end : goal.returns-then-x-steps_end
returns-then-x-steps_end c =
    let a = c.args in
    rw (lowest_step a.parts.steps.now a.parts.prims.now a.parts.tokens.now a.n.steps a.n.prims a.n.tokens (rw (c.first_wrong_step-x.ensures, c.from-steps_end.ensures) at c.if-x-steps_end.true), c.first_wrong_step-x.ensures, c.from-steps_end.ensures)

pub returns-then-y-prims_len : goal.returns-then-y-prims_len
returns-then-y-prims_len c =
    let a = c.args in
    rw (lowest_record a.parts.steps.now a.parts.prims.now a.parts.tokens.now a.n.steps a.n.prims a.n.tokens (rw (c.first_wrong_step-x.ensures, c.from-steps_end.ensures) at c.if-x-steps_end.false) (rw (c.first_wrong_record-y.ensures, c.from-prims_len.ensures) at c.if-y-prims_len.true), c.first_wrong_record-y.ensures, c.from-steps_end.ensures, c.from-prims_len.ensures)

pub overflow_add-result-3 : goal.overflow_add-result-3
overflow_add-result-3 c = omega (arith, first_within (token_wrong c.args.parts.tokens.now) c.from.result 0)

pub overflow_add-result-4 : goal.overflow_add-result-4
overflow_add-result-4 c = omega (arith, first_within (token_wrong c.args.parts.tokens.now) c.from.result 0)

pub returns : goal.returns
returns c =
    let a = c.args in
    rw (lowest_token a.parts.steps.now a.parts.prims.now a.parts.tokens.now a.n.steps a.n.prims a.n.tokens (rw (c.first_wrong_step-x.ensures, c.from-steps_end.ensures) at c.if-x-steps_end.false) (rw (c.first_wrong_record-y.ensures, c.from-prims_len.ensures) at c.if-y-prims_len.false), c.first_wrong_token.ensures, c.from-steps_end.ensures, c.from-prims_len.ensures, c.from.ensures)
