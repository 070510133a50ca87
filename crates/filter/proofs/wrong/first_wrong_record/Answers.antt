use Rattle.std.proofs.Common.{◌≡◌, false, sym, ◌∙◌, arith}
use borrow.Author.Count.{below_more}
use Rattle.filter.specs.Wrong.{record_wrong}
use Rattle.filter.proofs.Firsts.{first_is, first_nothing}
use Rattle.filter.proofs.Wrongs.{place_of}
use Rattle.filter.proofs.wrong.first_wrong_record.Goals as goal
use Rattle.filter.proofs.wrong.first_wrong_record.Goals.{then-i-eq24, else-i-eq24}

pub returns-then-wrong_at : goal.returns-then-wrong_at
returns-then-wrong_at c =
    let l = c.loop-j in
    let s = c.args.part.now in
    sym (first_is (record_wrong s) c.args.n l.j (omega arith) l.invariant.below
    (λ h. place_of s l.j l.r l.i l.invariant.place.1 l.invariant.place.0 ∙ sym c.wrong_at.ensures ∙ c.if-wrong_at.true))

pub loop-j-preserved : goal.loop-j-preserved
loop-j-preserved c =
    let l = c.loop-j in
    let s = c.args.part.now in
    let here = place_of s l.j l.r l.i l.invariant.place.1 l.invariant.place.0 ∙ sym c.wrong_at.ensures ∙ c.if-wrong_at.false in
    record {
      place = elim c.if-i-eq24.branch [ then-i-eq24 w ↦ (omega arith, omega arith) | else-i-eq24 w ↦ (omega arith, omega arith) ];
      below = below_more (λ k. record_wrong s k ≡ false) l.j l.invariant.below here;
    }

pub returns : goal.returns
returns c =
    let l = c.loop-j in
    sym (first_nothing (record_wrong c.args.part.now) c.args.n (λ k h. l.invariant.below k (omega arith)))
