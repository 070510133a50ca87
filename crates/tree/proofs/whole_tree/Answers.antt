use mathlib.Core.Path.{refl}
use native.Mathlib.Omega.{arith}
use Rattle.tree.specs.Shape.{shape_of}
use Rattle.tree.proofs.Steps.{left_over, unknown, next, complete, lacking}
use Rattle.tree.proofs.whole_tree.Goals as goal

pub loop-t-init : goal.loop-t-init
unfolding shape_of
loop-t-init c = (omega arith, omega arith, refl)

pub returns-then-want-eq0 : goal.returns-then-want-eq0
returns-then-want-eq0 c =
    let l = c.loop-t in
    rw (l.invariant.2, left_over c.args.tokens.now l.t-index l.want l.leaves c.loop-t-test.true c.if-want-eq0.true)

pub returns-then-t-gt3 : goal.returns-then-t-gt3
returns-then-t-gt3 c =
    let l = c.loop-t in
    rw (l.invariant.2, unknown c.args.tokens.now l.t-index l.want l.leaves c.loop-t-test.true c.if-want-eq0.false c.if-t-gt3.true)

pub loop-t-preserved : goal.loop-t-preserved
loop-t-preserved c =
    let l = c.loop-t in (
      omega arith,
      omega arith,
      rw (
        l.invariant.2,
        next c.args.tokens.now l.t-index l.want l.leaves c.loop-t-test.true c.if-want-eq0.false c.if-t-gt3.false,
        c.wanted_after-want.ensures.0,
        c.met_after-leaves.ensures.0,
      ),
    )

pub returns-then-want-eq0-2 : goal.returns-then-want-eq0-2
returns-then-want-eq0-2 c =
    let l = c.loop-t in
    rw (l.invariant.2, complete c.args.tokens.now l.t-index l.want l.leaves c.loop-t-test.false c.if-want-eq0-2.true)

pub returns-else-want-eq0-2 : goal.returns-else-want-eq0-2
returns-else-want-eq0-2 c =
    let l = c.loop-t in
    rw (l.invariant.2, lacking c.args.tokens.now l.t-index l.want l.leaves c.loop-t-test.false c.if-want-eq0-2.false)
