-- No place to lead to.
use Rattle.pieces.proofs.Leading.{opened}
use Rattle.pieces.proofs.guarded.check.Goals as goal

pub returns : goal.returns
returns c = opened _ _ _ _ c.check_to.ensures
