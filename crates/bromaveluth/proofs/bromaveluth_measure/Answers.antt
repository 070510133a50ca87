-- The refusal and its place, or 0 and what is asked; L is small, so that the sizes can be written.
use Rattle.std.proofs.Common.{refl, sym, arith}
use Rattle.bromaveluth.specs.Boundary.{status, asked_tokens, asked_output, asked_work, asked_number}
use Rattle.bromaveluth.proofs.Enough.{asked_length}
use Rattle.bromaveluth.proofs.bromaveluth_measure.Goals as goal

pub overflow_mul-output : goal.overflow_mul-output
overflow_mul-output c = omega (arith, asked_length c.args.sheet.now c.args.link c.args.mode (sym c.in-Ok.ensures))

pub overflow_add-work : goal.overflow_add-work
overflow_add-work c = omega (arith, asked_length c.args.sheet.now c.args.link c.args.mode (sym c.in-Ok.ensures))

pub returns-in-Ok : goal.returns-in-Ok
unfolding status asked_tokens asked_output asked_work asked_number
returns-in-Ok c = rw (← c.in-Ok.ensures) (record { value = refl; tokens_after = refl; output_after = refl; work_after = refl; answer_after = refl })

pub returns-in-Err : goal.returns-in-Err
unfolding status asked_tokens asked_output asked_work asked_number
returns-in-Err c = rw (← c.in-Err.ensures) (record { value = c.refuse.ensures.value; tokens_after = refl; output_after = refl; work_after = refl; answer_after = c.refuse.ensures.answer_after })
