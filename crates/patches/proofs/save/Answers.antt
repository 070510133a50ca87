-- `save` writes the three numbers of a pending operator.
use Rattle.std.proofs.Common.{refl}
use Rattle.patches.specs.Lists.{save_at}
use Rattle.patches.proofs.save.Goals as goal

pub returns : goal.returns
unfolding save_at
returns c = refl
