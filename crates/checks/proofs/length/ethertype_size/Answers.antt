use native.Mathlib.Omega.{arith}
use Rattle.checks.specs.Length.{ethertype_size}
use Rattle.checks.proofs.length.ethertype_size.Goals as goal

pub returns-in-Some : goal.returns-in-Some
unfolding ethertype_size
returns-in-Some c = (rw (← c.ether_proto_offset.ensures, c.in-Some.is), omega arith)

pub returns-in-None : goal.returns-in-None
unfolding ethertype_size
returns-in-None c = (rw (← c.ether_proto_offset.ensures, c.in-None.is), omega arith)
