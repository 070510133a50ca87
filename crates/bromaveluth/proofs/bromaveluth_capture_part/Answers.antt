-- What the callee answers, told.
use mathlib.Core.Path.{ap, ◌∙◌}
use Rattle.bromaveluth.specs.Boundary.{status, passed_count, dropped_count, cut_count, captured_number}
use Rattle.bromaveluth.proofs.bromaveluth_capture_part.Goals as goal

pub returns : goal.returns
returns c = record { value = c.tell.ensures.value ∙ ap status c.capture_part.ensures.value; passed_after = c.tell.ensures.passed_after ∙ ap passed_count c.capture_part.ensures.value; dropped_after = c.tell.ensures.dropped_after ∙ ap dropped_count c.capture_part.ensures.value; cut_after = c.tell.ensures.cut_after ∙ ap cut_count c.capture_part.ensures.value; answer_after = c.tell.ensures.answer_after ∙ ap captured_number c.capture_part.ensures.value; output_after = c.capture_part.ensures.output_after; work_after = c.capture_part.ensures.work_after }
