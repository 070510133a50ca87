-- A measured sheet's L is small, so that the sizes it asks can be written.
use Rattle.std.proofs.Common.{◌≡◌, sym, rules, arith, Err}
use borrow.Author.Tests.{lt-ltb, le-ltb}
use Rattle.checks.specs.Measure.{roomed, admit_of}
use Rattle.checks.proofs.Bounds.{measured_length}
use Rattle.checks.proofs.measure.admit.Goals as goal

pub returns-then-mode-gt1 : goal.returns-then-mode-gt1
unfolding admit_of
returns-then-mode-gt1 c = rw (lt-ltb _ _ c.if-mode-gt1.true, c.at.ensures)

pub returns-in_err-asked : goal.returns-in_err-asked
unfolding admit_of roomed
returns-in_err-asked c =
    let h : c.from_residual.result ≡ Err c.in_err-asked.field-0.0 = search rules in
    rw (le-ltb _ _ c.if-mode-gt1.false, h, ← c.in_err-asked.ensures)

pub overflow_mul-asked : goal.overflow_mul-asked
overflow_mul-asked c = omega (arith, measured_length c.args.sheet.now c.args.link (sym c.in_ok-asked.ensures))

pub returns-then-output-asked : goal.returns-then-output-asked
unfolding admit_of roomed
returns-then-output-asked c = rw (le-ltb _ _ c.if-mode-gt1.false, ← c.in_ok-asked.ensures, lt-ltb _ _ c.if-output-asked.true, c.at-then-output-asked.ensures)

pub returns-then-work-asked : goal.returns-then-work-asked
unfolding admit_of roomed
returns-then-work-asked c = rw (le-ltb _ _ c.if-mode-gt1.false, ← c.in_ok-asked.ensures, le-ltb _ _ c.if-output-asked.false, ← c.from.ensures, lt-ltb _ _ c.if-work-asked.true, c.at-then-work-asked.ensures)

pub returns : goal.returns
unfolding admit_of roomed
returns c = rw (le-ltb _ _ c.if-mode-gt1.false, ← c.in_ok-asked.ensures, le-ltb _ _ c.if-output-asked.false, ← c.from.ensures, le-ltb _ _ c.if-work-asked.false)
