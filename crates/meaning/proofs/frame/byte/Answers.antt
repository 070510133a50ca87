-- A byte past the end reads as 0.
use Rattle.std.proofs.Common.{arith}
use Rattle.std.proofs.lemmas.Grind.{common_steps}
use Rattle.std.proofs.lemmas.Option.{gets}
use Rattle.meaning.proofs.Frames.{number_1}
use Rattle.meaning.proofs.frame.byte.Goals as goal

pub returns : goal.returns
returns c = rw number_1 (grind (arith, common_steps, gets, c.get.ensures.lookup))
