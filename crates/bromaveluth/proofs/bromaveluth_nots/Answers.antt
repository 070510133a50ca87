-- The refusal and its place, or 0 and the new sheet's length; the output is as `push_nots` leaves it.
use Rattle.std.proofs.Common.{refl}
use Rattle.bromaveluth.specs.Boundary.{status, pushed_number}
use Rattle.bromaveluth.proofs.bromaveluth_nots.Goals as goal

pub returns-in-Ok : goal.returns-in-Ok
unfolding status pushed_number
returns-in-Ok c = record { value = rw (← c.in-Ok.ensures.value) refl; answer_after = rw (← c.in-Ok.ensures.value) refl; output_after = c.in-Ok.ensures.output_after }

pub returns-in-Err : goal.returns-in-Err
unfolding status pushed_number
returns-in-Err c = record { value = rw (← c.in-Err.ensures.value) c.refuse.ensures.value; answer_after = rw (← c.in-Err.ensures.value) c.refuse.ensures.answer_after; output_after = c.in-Err.ensures.output_after }
