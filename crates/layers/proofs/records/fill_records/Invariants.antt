-- After k turns the first k records are stored.
use Rattle.std.proofs.Common.{◌≡◌}
use Rattle.layers.specs.Records.{filled_to}
use Rattle.layers.proofs.records.fill_records.Given as goal

abbrev pub invariant-loop-k : goal.invariant-loop-k
invariant-loop-k l = l.out ≡ filled_to l.bytes l.initial.out l.k
