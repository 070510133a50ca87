-- Each number of the answer in its place.
use Rattle.std.proofs.Common.{refl}
use Rattle.bromaveluth.specs.Boundary.{status, passed_count, dropped_count, cut_count, captured_number}
use Rattle.bromaveluth.proofs.tell.Goals as goal

pub returns-in-Ok : goal.returns-in-Ok
unfolding status passed_count dropped_count cut_count captured_number
returns-in-Ok c = rw c.in-Ok.is (record { value = refl; passed_after = refl; dropped_after = refl; cut_after = refl; answer_after = refl })

pub returns-in-Err : goal.returns-in-Err
unfolding status passed_count dropped_count cut_count captured_number
returns-in-Err c = rw c.in-Err.is (record { value = c.refuse.ensures.value; passed_after = refl; dropped_after = refl; cut_after = refl; answer_after = c.refuse.ensures.answer_after })
