-- `set_link` sets one number, and none past the end, as `set` does.
use Rattle.std.proofs.Common.{arith, sym}
use lib.Seq.{set_out}
use Rattle.patches.proofs.set_link.Goals as goal

pub returns-else-i-work : goal.returns-else-i-work
returns-else-i-work c = sym (set_out _ _ _ (omega arith))
