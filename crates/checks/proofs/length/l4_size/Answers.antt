use native.Mathlib.Omega.{arith}
use Rattle.checks.specs.Length.{l4_size}
use Rattle.checks.proofs.length.l4_size.Goals as goal

pub returns-in-None : goal.returns-in-None
unfolding l4_size
returns-in-None c = (rw c.in-None.is, omega arith)

pub returns-in-Some : goal.returns-in-Some
unfolding l4_size
returns-in-Some c = (rw c.in-Some.is, omega arith)
