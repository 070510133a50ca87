-- Open where there is no place to lead to, else with the distance.
use Rattle.pieces.specs.Fragments.{led}
use Rattle.std.proofs.Common.{eq-eqb, ne_eqb}
use Rattle.pieces.proofs.guarded.push_failing.Goals as goal

pub returns-then-end-eq0 : goal.returns-then-end-eq0
unfolding led
returns-then-end-eq0 c = rw (eq-eqb _ _ c.if-end-eq0.true) c.push_failure.ensures

pub returns-else-end-eq0 : goal.returns-else-end-eq0
unfolding led
returns-else-end-eq0 c = rw (ne_eqb _ _ c.if-end-eq0.false) (rw c.distance.ensures at c.push_jump.ensures)
