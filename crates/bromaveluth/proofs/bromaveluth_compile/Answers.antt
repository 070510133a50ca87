-- The refusal and its place, or 0 and L; output and work are as `compile` leaves them.
use Rattle.std.proofs.Common.{refl}
use Rattle.bromaveluth.specs.Boundary.{status, compiled_number}
use Rattle.bromaveluth.proofs.bromaveluth_compile.Goals as goal

pub returns-in-Ok : goal.returns-in-Ok
unfolding status compiled_number
returns-in-Ok c = record { value = rw (← c.in-Ok.ensures.value) refl; answer_after = rw (← c.in-Ok.ensures.value) refl; output_after = c.in-Ok.ensures.output_after; work_after = c.in-Ok.ensures.work_after }

pub returns-in-Err : goal.returns-in-Err
unfolding status compiled_number
returns-in-Err c = record { value = rw (← c.in-Err.ensures.value) c.refuse.ensures.value; answer_after = rw (← c.in-Err.ensures.value) c.refuse.ensures.answer_after; output_after = c.in-Err.ensures.output_after; work_after = c.in-Err.ensures.work_after }
