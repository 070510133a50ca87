use Rattle.std.proofs.Common.{sym, ◌∙◌, arith}
use Rattle.filter.proofs.Firsts.{any_none, any_stop, any_more}
use Rattle.checks.specs.Check.{big_shift}
use Rattle.checks.proofs.check.shift_in.Goals as goal

pub returns-then-big_shift : goal.returns-then-big_shift
returns-then-big_shift c =
    sym (c.loop-k.invariant ∙ any_stop (big_shift c.args.steps.now) c.args.n c.args.from c.loop-k.k (omega arith) (sym c.big_shift.ensures ∙ c.if-big_shift.true))

pub loop-k-preserved : goal.loop-k-preserved
loop-k-preserved c =
    c.loop-k.invariant ∙ any_more (big_shift c.args.steps.now) c.args.n c.args.from c.loop-k.k (omega arith) (sym c.big_shift.ensures ∙ c.if-big_shift.false)

pub returns : goal.returns
returns c = sym (c.loop-k.invariant ∙ any_none (big_shift c.args.steps.now) c.args.n c.args.from c.loop-k.k (omega arith))
