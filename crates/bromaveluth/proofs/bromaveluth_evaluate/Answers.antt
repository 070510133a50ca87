-- The refusal and its place, or 0 and whether the expression holds.
use Rattle.std.proofs.Common.{◌≡◌, refl, Bool, true, false, cond}
use mir.Val.{bool_byte}
use Rattle.bromaveluth.specs.Boundary.{status, verdict_number}
use Rattle.bromaveluth.proofs.bromaveluth_evaluate.Goals as goal

as_number : (t : Bool) → bool_byte t ≡ cond t 1 0
as_number true = refl
as_number false = refl

pub returns-in-Ok : goal.returns-in-Ok
unfolding status verdict_number
returns-in-Ok c = record { value = rw (← c.in-Ok.ensures) refl; answer_after = rw (← c.in-Ok.ensures) (as_number c.in-Ok.holds) }

pub returns-in-Err : goal.returns-in-Err
unfolding status verdict_number
returns-in-Err c = record { value = rw (← c.in-Err.ensures) c.refuse.ensures.value; answer_after = rw (← c.in-Err.ensures) c.refuse.ensures.answer_after }
