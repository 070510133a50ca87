-- Room for one step more.
use Rattle.std.proofs.Common.{arith}
use Rattle.pieces.proofs.Pieces.{pos_at}
use Rattle.pieces.proofs.Laws.{steps_length}
use Rattle.pieces.proofs.steps.emit_steps.Goals as goal

pub push-requires : goal.push-requires
push-requires c = omega (arith, pos_at _ _ _ c.loop-i.invariant, steps_length c.args.steps.now c.loop-i.i c.args.from, steps_length c.args.steps.now c.args.n c.args.from, c.requires.room)
