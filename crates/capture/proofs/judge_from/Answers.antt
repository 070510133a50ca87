-- The refusal, or the program that was written run on the records.
use Rattle.std.proofs.Common.{◌≡◌, sym, length, rules, arith, Err}
use lib.Seq.{length-take-le}
use Rattle.sound.specs.Demand.{Bytes}
use Rattle.capture.proofs.Captures.{room, written, exits_always, sheet_refused, all_judged}
use Rattle.capture.proofs.judge_from.Goals as goal

pub returns-in_err-length : goal.returns-in_err-length
returns-in_err-length c =
    let h : c.from_residual.result ≡ Err c.in_err-length.field-0.0 = search rules in
    let e = c.in_err-length.ensures in
    record { value = rw h (sheet_refused _ _ _ _ _ _ _ _ _ _ (sym e.value)); output_after = e.output_after; work_after = e.work_after }

pub overflow_mul-program : goal.overflow_mul-program
overflow_mul-program c =
    let a = c.args in
    let e = c.in_ok-length.ensures in
    let m = sym e.value in
    let b : Bytes a.sheet.now = λ i. omega (arith, c.type_inv.sheet i) in
    let h = room a.sheet.now a.header.link a.mode (length a.work.now) _ a.output.now b m in
    omega (arith, h)

pub slice_bounds-program-end : goal.slice_bounds-program-end
slice_bounds-program-end c =
    let a = c.args in
    let e = c.in_ok-length.ensures in
    let m = sym e.value in
    let b : Bytes a.sheet.now = λ i. omega (arith, c.type_inv.sheet i) in
    let h = room a.sheet.now a.header.link a.mode (length a.work.now) _ a.output.now b m in
    omega (arith, h, c.compile.auto.output)

pub slice_bounds-program-end-2 : goal.slice_bounds-program-end-2
slice_bounds-program-end-2 c =
    let a = c.args in
    let e = c.in_ok-length.ensures in
    let m = sym e.value in
    let b : Bytes a.sheet.now = λ i. omega (arith, c.type_inv.sheet i) in
    let h = room a.sheet.now a.header.link a.mode (length a.work.now) _ a.output.now b m in
    sym (length-take-le _ _ (omega (arith, h, c.compile.auto.output)))

pub judge_records-requires : goal.judge_records-requires
judge_records-requires c =
    let a = c.args in
    let e = c.in_ok-length.ensures in
    let m = sym e.value in
    let b : Bytes a.sheet.now = λ i. omega (arith, c.type_inv.sheet i) in
    rw (e.output_after, written a.sheet.now a.header.link a.mode (length a.work.now) _ a.output.now b m) (exits_always a.sheet.now a.header.link a.mode (length a.work.now) _ a.output.now b m)

pub returns : goal.returns
returns c =
    let a = c.args in
    let e = c.in_ok-length.ensures in
    let m = sym e.value in
    let b : Bytes a.sheet.now = λ i. omega (arith, c.type_inv.sheet i) in
    record {
      value = all_judged _ _ _ _ _ _ _ _ _ m _ (rw (e.output_after, written a.sheet.now a.header.link a.mode (length a.work.now) _ a.output.now b m) at c.judge_records.ensures);
      output_after = e.output_after;
      work_after = e.work_after;
    }
