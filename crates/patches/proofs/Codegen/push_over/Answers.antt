-- The jump, then the turn.
use Rattle.std.proofs.Common.{ap, ◌∙◌}
use Rattle.patches.specs.Code.{Emission, emission, with_patches}
use Rattle.patches.specs.Operators.{turn_of}
use Rattle.patches.proofs.Codegen.push_over.Goals as goal

pub returns : goal.returns
unfolding emission
returns c = c.turn.ensures ∙ ap (λ (e : Emission). with_patches (turn_of e.patches) e) (rw c.ja.ensures at c.push_success.ensures)
