-- The first k bytes are joined.
use Rattle.std.proofs.Common.{◌≡◌, ◌^◌, ◌<◌}
use Rattle.meaning.specs.Frame.{number}
use Rattle.meaning.proofs.frame.number.Given as goal

abbrev pub invariant-loop-k : goal.invariant-loop-k
invariant-loop-k l = (l.joined ≡ number l.frame l.k l.p) × (l.joined < 256 ^ l.k)
