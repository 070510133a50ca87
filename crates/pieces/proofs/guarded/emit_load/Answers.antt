-- No place to lead to.
use Rattle.pieces.proofs.Leading.{opened}
use Rattle.pieces.proofs.guarded.emit_load.Goals as goal

pub returns : goal.returns
returns c = opened _ _ _ _ c.emit_load_to.ensures
