use native.Mathlib.Omega.{arith}
use Rattle.checks.specs.Length.{prereq_size}
use Rattle.checks.proofs.length.prereq_size.Goals as goal

pub returns-in-Some : goal.returns-in-Some
unfolding prereq_size
returns-in-Some c = (rw (← c.ether_proto_offset.ensures, c.in-Some.is, c.l4_size-n.ensures.0), omega arith)

pub returns-in-None : goal.returns-in-None
unfolding prereq_size
returns-in-None c = (rw (← c.ether_proto_offset.ensures, c.in-None.is, c.l4_size-n.ensures.0), omega arith)
