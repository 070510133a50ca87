-- What is counted and what the walk from here adds give what the whole walk gives.
use Rattle.std.proofs.Common.{◌≤◌, ◌≡◌, ◌-◌}
use Rattle.savefile.specs.Savefile.{walk_of}
use Rattle.capture.specs.Capture.{judged_walk}
use Rattle.capture.proofs.Counts.{total, judged_on}
use Rattle.capture.proofs.judge_records.Given as goal

abbrev pub invariant-loop : goal.invariant-loop
invariant-loop l = (total l.tally ≤ l.at) × (judged_on l.tally l.program l.file (walk_of (l.most - l.counter) l.order l.file l.at) ≡ judged_walk l.program l.file (walk_of l.most l.order l.file l.from))
