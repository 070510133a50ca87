-- The file, then what is judged of it.
use Rattle.std.proofs.Common.{◌≡◌, refl, rules, Err}
use Rattle.capture.specs.Capture.{part_of, output_in, work_in}
use Rattle.capture.proofs.capture_part.Goals as goal

pub returns-in_err-header : goal.returns-in_err-header
unfolding part_of output_in work_in
returns-in_err-header c =
    let h : c.from_residual.result ≡ Err c.in_err-header.field-0.0 = search rules in
    rw (← c.open_header.ensures, c.in_err-header.was, h) (record { value = refl; output_after = refl; work_after = refl })

pub returns : goal.returns
unfolding part_of output_in work_in
returns c = rw (← c.open_header.ensures, c.in_ok-header.was) c.judge_from.ensures
