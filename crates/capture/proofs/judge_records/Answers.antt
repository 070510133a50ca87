use Rattle.std.proofs.Common.{◌≡◌, ◌+◌, ◌-◌, sym, ◌∙◌, rules, arith, Err}
use Rattle.refusals.specs.Refusal.Answer.{Given}
use Rattle.savefile.specs.Savefile.{next_of}
use Rattle.savefile.proofs.Walks.{inside}
use Rattle.capture.proofs.Counts.{total, total_next, judged_first, judged_end, judged_none, judged_next, judged_fault}
use Rattle.capture.proofs.judge_records.Goals as goal

pub loop-init : goal.loop-init
unfolding total
loop-init c = let q : c.args.most - 0 ≡ c.args.most = omega arith in rw q (omega arith, judged_first _ _ _)

pub returns-in_err-record : goal.returns-in_err-record
returns-in_err-record c =
    let h : c.from_residual.result ≡ Err c.in_err-record.field-0.0 = search rules in
    rw h (judged_fault _ _ _ _ _ _ (omega arith) c.if-file-at.false _ _ (sym c.in_err-record.ensures) ∙ c.loop.invariant.1)

pub with-tally-requires : goal.with-tally-requires
unfolding total
with-tally-requires c =
    let e : next_of c.args.order c.args.file.now c.loop.at ≡ Given c.in_ok-record.record = sym c.in_ok-record.ensures in
    let h = inside _ _ _ c.in_ok-record.record e in
    record { captured_in_bounds = (h.0, h.1); always = c.requires; passed_bound = (omega (arith, h.0, c.loop.invariant.0), omega (arith, h.0, c.loop.invariant.0), omega (arith, h.0, c.loop.invariant.0)) }

pub loop-preserved : goal.loop-preserved
loop-preserved c =
    let e : next_of c.args.order c.args.file.now c.loop.at ≡ Given c.in_ok-record.record = sym c.in_ok-record.ensures in
    let q : c.loop.at + 16 + c.in_ok-record.record.captured ≡ c.loop.at + (16 + c.in_ok-record.record.captured) = omega arith in
    let k : c.args.most - c.loop.counter - 1 ≡ c.args.most - (c.loop.counter + 1) = omega arith in
    rw (← q, ← k, c.with-tally.ensures) (total_next _ _ _ _ _ _ c.loop.invariant.0, judged_next _ _ _ _ _ _ (omega arith) c.if-file-at.false _ e ∙ c.loop.invariant.1)

pub returns-after-loop : goal.returns-after-loop
returns-after-loop c = judged_none _ _ _ _ _ _ (omega arith) ∙ c.loop.invariant.1

pub returns-then-file-at : goal.returns-then-file-at
returns-then-file-at c = judged_end _ _ _ _ _ _ c.if-file-at.true ∙ c.loop.invariant.1
