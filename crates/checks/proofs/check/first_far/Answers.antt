use Rattle.std.proofs.Common.{◌≡◌, sym, ◌∙◌, arith}
use Rattle.filter.proofs.Firsts.{first_none, first_stop, first_more}
use Rattle.checks.specs.Check.{far_offset}
use Rattle.checks.proofs.check.first_far.Goals as goal

pub returns-then-far_offset : goal.returns-then-far_offset
returns-then-far_offset c =
    sym (c.loop-i.invariant ∙ first_stop (far_offset c.args.link c.args.prims.now) c.args.n c.loop-i.i (omega arith) (sym c.far_offset.ensures ∙ c.if-far_offset.true))

pub loop-i-preserved : goal.loop-i-preserved
loop-i-preserved c =
    c.loop-i.invariant ∙ first_more (far_offset c.args.link c.args.prims.now) c.args.n c.loop-i.i (omega arith) (sym c.far_offset.ensures ∙ c.if-far_offset.false)

pub returns : goal.returns
returns c = let q : c.from.result ≡ c.loop-i.i = omega arith in
    rw q (sym (c.loop-i.invariant ∙ first_none (far_offset c.args.link c.args.prims.now) c.args.n c.loop-i.i (omega arith)))
