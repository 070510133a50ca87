use Rattle.std.proofs.Common.{◌≡◌, rules, Err}
use Rattle.checks.specs.Measure.{measured, measure_of}
use Rattle.checks.proofs.measure.measure.Goals as goal

pub returns-in_err-counts : goal.returns-in_err-counts
unfolding measure_of measured
returns-in_err-counts c =
    let h : c.from_residual.result ≡ Err c.in_err-counts.field-0.0 = search rules in
    rw (h, ← c.in_err-counts.ensures)

pub returns : goal.returns
unfolding measure_of measured
returns c =
    let p = c.sections.ensures in
    rw (← c.in_ok-counts.ensures, ← c.from.ensures, ← p.steps, ← p.prims, ← p.tokens, c.program_length-length.ensures)
