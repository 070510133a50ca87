-- Byte j begins a step, and no byte before it is wrong.
use Rattle.std.proofs.Common.{◌≡◌, ℕ, ◌%◌, ◌<◌, false}
use Rattle.filter.specs.Wrong.{step_wrong}
use Rattle.filter.proofs.wrong.first_wrong_step.Given as goal

abbrev pub invariant-loop-j : goal.invariant-loop-j
invariant-loop-j l = record {
  begins : l.j % 5 ≡ 0;
  below : (k : ℕ) → k < l.j → step_wrong l.part k ≡ false;
}
