-- No place to lead to.
use Rattle.pieces.proofs.Leading.{opened}
use Rattle.pieces.proofs.guarded.push_guard.Goals as goal

pub returns : goal.returns
returns c = opened _ _ _ _ c.push_guard_to.ensures
