-- The walk from a place on gives what the whole walk gives.
use Rattle.std.proofs.Common.{ℕ, ◌+◌, ◌-◌, ◌≤◌, ◌≡◌, length}
use Rattle.savefile.specs.Savefile.{walk_of, file_walk, walked_of}
use Rattle.savefile.proofs.open_records.Given as goal

abbrev pub invariant-loop-at : goal.invariant-loop-at
invariant-loop-at l = (most : ℕ) × (length l.file ≤ most + l.at) × (walked_of (walk_of most l.header.order l.file l.at) l.header ≡ walked_of (file_walk l.header.order l.file) l.header)

abbrev pub decreases-loop-at : goal.decreases-loop-at
decreases-loop-at l = length l.file - l.at
