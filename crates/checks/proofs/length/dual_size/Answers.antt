use Rattle.checks.specs.Length.{dual_size}
use Rattle.checks.proofs.length.dual_size.Goals as goal

pub returns-in-Some : goal.returns-in-Some
unfolding dual_size
returns-in-Some c = rw (← c.ether_proto_offset.ensures, c.in-Some.is)

pub returns-in-None : goal.returns-in-None
unfolding dual_size
returns-in-None c = rw (← c.ether_proto_offset.ensures, c.in-None.is)
