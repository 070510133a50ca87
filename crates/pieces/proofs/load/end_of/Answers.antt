-- The sum in 32 bits.
use Rattle.pieces.specs.Fragments.{end_of}
use Rattle.pieces.proofs.load.end_of.Goals as goal

pub returns : goal.returns
unfolding end_of
returns c = simp (c.from.ensures, c.bytes.ensures)
