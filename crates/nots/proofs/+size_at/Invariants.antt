-- The tokens that are left fall with each call.
use Rattle.std.proofs.Common.{◌-◌, length}
use Rattle.nots.proofs.+size_at.Given as goal

abbrev pub decreases-size_at : goal.decreases-size_at
decreases-size_at l = length l.tokens.now - l.at
