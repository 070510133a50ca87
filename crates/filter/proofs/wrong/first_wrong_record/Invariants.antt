-- Byte j is byte i of record r, and no byte before it is wrong.
use Rattle.std.proofs.Common.{◌≡◌, ℕ, ◌+◌, ◌*◌, ◌<◌, false}
use Rattle.filter.specs.Wrong.{record_wrong}
use Rattle.filter.proofs.wrong.first_wrong_record.Given as goal

abbrev pub invariant-loop-j : goal.invariant-loop-j
invariant-loop-j l = record {
  place : (l.i < 24) × (l.j ≡ 24 * l.r + l.i);
  below : (k : ℕ) → k < l.j → record_wrong l.part k ≡ false;
}
