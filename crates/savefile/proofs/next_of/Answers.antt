-- The tests of a record, in their order.
use Rattle.std.proofs.Common.{arith, ◌<◌, ◌+◌, length}
use Rattle.savefile.proofs.Walks.{next_short, next_long, next_body, next_here}
use Rattle.savefile.proofs.next_of.Goals as goal
use Rattle.savefile.proofs.next_of.Goals.{then-n-at-via-then-n-at, then-n-at-via-else-n-at+then-n-at-lt16}

pub returns-then-n-at : goal.returns-then-n-at
returns-then-n-at c =
    let h : length c.args.file.now < c.args.at + 16 = elim c.then-n-at.branch [ then-n-at-via-then-n-at w ↦ omega arith | then-n-at-via-else-n-at+then-n-at-lt16 w ↦ omega arith ] in
    rw c.at.ensures (next_short _ _ _ h)

pub returns-then-captured-gt16384 : goal.returns-then-captured-gt16384
returns-then-captured-gt16384 c = rw c.at-then-captured-gt16384.ensures (next_long _ _ _ (omega arith) _ c.number_at-captured.ensures c.if-captured-gt16384.true)

pub returns-then-n-at-2 : goal.returns-then-n-at-2
returns-then-n-at-2 c = rw c.at-then-n-at-2.ensures (next_body _ _ _ (omega arith) _ c.number_at-captured.ensures (omega arith) (omega arith))

pub returns : goal.returns
returns c = next_here _ _ _ (omega arith) _ c.number_at-captured.ensures (omega arith) (omega arith) _ c.number_at-original.ensures
