-- After i turns the sheet's first i bytes stand at the front.
use Rattle.std.proofs.Common.{◌≡◌, ◌++◌, take, drop}
use Rattle.nots.proofs.copy_front.Given as goal

abbrev pub invariant-loop-i : goal.invariant-loop-i
invariant-loop-i l = l.output ≡ take l.i l.sheet ++ drop l.i l.initial.output
