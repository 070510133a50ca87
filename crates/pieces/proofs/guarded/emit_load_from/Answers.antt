-- The sum may wrap.
use Rattle.std.proofs.Common.{◌+◌}
use Rattle.pieces.proofs.Pieces.{load_wraps}
use Rattle.pieces.proofs.guarded.emit_load_from.Goals as goal

pub emit_load-requires : goal.emit_load-requires
emit_load-requires c = rw (load_wraps c.args.size (c.args.base + c.args.offset)) c.requires

pub returns : goal.returns
returns c = rw (← load_wraps c.args.size (c.args.base + c.args.offset)) c.emit_load.ensures
