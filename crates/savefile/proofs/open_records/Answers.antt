use Rattle.std.proofs.Common.{refl, sym, ◌∙◌, ◌≡◌, ◌+◌, ◌-◌, rules, arith, length, Err}
use Rattle.refusals.specs.Refusal.Answer.{Given}
use Rattle.savefile.specs.Savefile.{next_of, file_walk}
use Rattle.savefile.proofs.Walks.{opened_next, opened_fault, opened_end}
use Rattle.savefile.proofs.open_records.Goals as goal

pub loop-at-init : goal.loop-at-init
unfolding file_walk
loop-at-init c = (length c.args.file.now, omega arith, refl)

pub returns-in_err-record : goal.returns-in_err-record
returns-in_err-record c =
    let h : c.from_residual.result ≡ Err c.in_err-record.field-0.0 = search rules in
    let i = c.loop-at.invariant in
    rw h (opened_fault _ _ _ _ i.0 c.loop-at-test.true i.1 _ _ (sym c.in_err-record.ensures) ∙ i.2)

pub loop-at-preserved : goal.loop-at-preserved
loop-at-preserved c =
    let i = c.loop-at.invariant in
    let e : next_of c.args.header.order c.args.file.now c.loop-at.at ≡ Given c.in_ok-record.record = sym c.in_ok-record.ensures in
    let q : c.loop-at.at + 16 + c.in_ok-record.record.captured ≡ c.loop-at.at + (16 + c.in_ok-record.record.captured) = omega arith in
    (i.0 - 1, omega (arith, i.1), rw (← q) (opened_next _ _ _ _ i.0 c.loop-at-test.true i.1 _ e ∙ i.2))

pub returns : goal.returns
returns c = let i = c.loop-at.invariant in opened_end _ _ _ _ i.0 c.loop-at-test.false ∙ i.2
