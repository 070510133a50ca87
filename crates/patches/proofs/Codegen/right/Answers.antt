-- `right` joins the failures with those that the operator kept.
use Rattle.patches.specs.Code.{emission}
use Rattle.patches.specs.Operators.{right_state, right_work}
use Rattle.patches.proofs.Codegen.right.Goals as goal

pub returns : goal.returns
unfolding emission right_state right_work
returns c = rw (c.join-self.ensures.value, c.join-self.ensures.work_after, c.saved-kept.ensures)
