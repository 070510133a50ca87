-- Successes and failures change places.
use Rattle.std.proofs.Common.{refl}
use Rattle.patches.specs.Code.{emission}
use Rattle.patches.specs.Operators.{turn_of}
use Rattle.patches.proofs.Codegen.turn.Goals as goal

pub returns : goal.returns
unfolding emission turn_of
returns c = refl
