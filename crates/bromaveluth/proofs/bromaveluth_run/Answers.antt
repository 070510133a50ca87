-- The three numbers of the machine's outcome.
use mathlib.Core.Path.{ap}
use Rattle.ebpf.specs.declared.run.Outcome.{Outcome}
use Rattle.bromaveluth.proofs.bromaveluth_run.Goals as goal

pub returns : goal.returns
returns c = record { value = ap (λ (o : Outcome). o.stop) c.run-end.ensures; r0_after = ap (λ (o : Outcome). o.r0) c.run-end.ensures; steps_after = ap (λ (o : Outcome). o.steps) c.run-end.ensures }
