-- Four bytes, in one order or the other.
use Rattle.std.proofs.Common.{arith}
use Rattle.savefile.specs.Savefile.{number_at, joined}
use Rattle.savefile.proofs.number_at.Goals as goal

pub returns-in-Big : goal.returns-in-Big
unfolding number_at joined
returns-in-Big c = rw (c.in-Big.is, c.from_be_bytes.ensures) (omega arith)

pub returns-in-Little : goal.returns-in-Little
unfolding number_at joined
returns-in-Little c = rw (c.in-Little.is, c.from_le_bytes.ensures) (omega arith)
