-- The refusal and its place, or 0 and the link.
use Rattle.std.proofs.Common.{refl}
use Rattle.bromaveluth.specs.Boundary.{status, opened_number}
use Rattle.bromaveluth.proofs.bromaveluth_capture_open.Goals as goal

pub returns-in-Ok : goal.returns-in-Ok
unfolding status opened_number
returns-in-Ok c = record { value = rw (← c.in-Ok.ensures) refl; answer_after = rw (← c.in-Ok.ensures) refl }

pub returns-in-Err : goal.returns-in-Err
unfolding status opened_number
returns-in-Err c = record { value = rw (← c.in-Err.ensures) c.refuse.ensures.value; answer_after = rw (← c.in-Err.ensures) c.refuse.ensures.answer_after }
