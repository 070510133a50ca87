-- `saved` reads the list of a pending operator.
use Rattle.std.proofs.Common.{refl}
use Rattle.patches.specs.Lists.{saved_at}
use Rattle.patches.proofs.Codegen.saved.Goals as goal

pub returns : goal.returns
unfolding saved_at
returns c = refl
