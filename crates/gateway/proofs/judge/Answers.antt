-- The refusal, or the program's run on the frame.
use Rattle.std.proofs.Common.{◌≡◌, sym, refl, rules, arith, length, Err}
use lib.Seq.{length-take-le}
use Rattle.sound.specs.Demand.{sheet_holds}
use Rattle.gateway.specs.Judge.{judged_of}
use Rattle.gateway.specs.declared.Unjudged.TheVariants as unjudged
use Rattle.gateway.proofs.Judges.{room, gives, too_long, passed, dropped}
use Rattle.gateway.proofs.judge.Goals as goal

pub returns-in_err-length : goal.returns-in_err-length
unfolding judged_of
returns-in_err-length c =
    let h : c.from_residual.result ≡ Err (unjudged.Refused c.in_err-length.field-0.0) = search rules in
    record { value = rw (h, ← c.in_err-length.ensures.value) refl; output_after = c.in_err-length.ensures.output_after; work_after = c.in_err-length.ensures.work_after }

pub returns-then-frame-gt4294967295 : goal.returns-then-frame-gt4294967295
returns-then-frame-gt4294967295 c =
    let e = c.in_ok-length.ensures in
    record { value = too_long _ _ _ _ (sym e.value) (omega arith); output_after = e.output_after; work_after = e.work_after }

pub overflow_mul-length : goal.overflow_mul-length
overflow_mul-length c =
    let a = c.args in
    let e = c.in_ok-length.ensures in
    let h = room a.sheet.now a.link a.output.now (length a.work.now) _ (λ i. omega (arith, c.type_inv.sheet i)) (sym e.value) in
    omega (arith, h)

pub slice_bounds-run-end : goal.slice_bounds-run-end
slice_bounds-run-end c =
    let a = c.args in
    let e = c.in_ok-length.ensures in
    let h = room a.sheet.now a.link a.output.now (length a.work.now) _ (λ i. omega (arith, c.type_inv.sheet i)) (sym e.value) in
    omega (arith, h, c.compile.auto.output)

pub slice_bounds-run-end-2 : goal.slice_bounds-run-end-2
slice_bounds-run-end-2 c =
    let a = c.args in
    let e = c.in_ok-length.ensures in
    let h = room a.sheet.now a.link a.output.now (length a.work.now) _ (λ i. omega (arith, c.type_inv.sheet i)) (sym e.value) in
    sym (length-take-le _ _ (omega (arith, h, c.compile.auto.output)))

pub returns-then-end-eq2 : goal.returns-then-end-eq2
returns-then-end-eq2 c =
    let a = c.args in
    let e = c.in_ok-length.ensures in
    let m = sym e.value in
    let r = gives a.sheet.now a.link a.output.now (length a.work.now) _ (λ i. omega (arith, c.type_inv.sheet i)) m a.frame.now (λ i. omega (arith, c.type_inv.frame i)) (omega arith) c.run-end.result (rw e.output_after at c.run-end.ensures) in
    record { value = passed _ _ _ (sheet_holds a.sheet.now a.link a.frame.now) m (omega arith) _ r c.if-end-eq2.true; output_after = e.output_after; work_after = e.work_after }

pub returns-else-end-eq2 : goal.returns-else-end-eq2
returns-else-end-eq2 c =
    let a = c.args in
    let e = c.in_ok-length.ensures in
    let m = sym e.value in
    let r = gives a.sheet.now a.link a.output.now (length a.work.now) _ (λ i. omega (arith, c.type_inv.sheet i)) m a.frame.now (λ i. omega (arith, c.type_inv.frame i)) (omega arith) c.run-end.result (rw e.output_after at c.run-end.ensures) in
    record { value = dropped _ _ _ (sheet_holds a.sheet.now a.link a.frame.now) m (omega arith) _ r c.if-end-eq2.false; output_after = e.output_after; work_after = e.work_after }
