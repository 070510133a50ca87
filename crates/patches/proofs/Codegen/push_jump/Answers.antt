-- The jump with its distance.
use Rattle.patches.specs.Code.{with_off}
use Rattle.patches.proofs.Codegen.push_jump.Goals as goal

pub returns : goal.returns
unfolding with_off
returns c = c.push.ensures
