-- The tokens that are left fall with each call.
use Rattle.std.proofs.Common.{◌-◌, length}
use Rattle.nots.proofs.+denied_wanted.Given as goal

abbrev pub decreases-denied : goal.decreases-denied
decreases-denied l = length l.tokens.now - l.at

abbrev pub decreases-wanted : goal.decreases-wanted
decreases-wanted l = length l.tokens.now - l.at
