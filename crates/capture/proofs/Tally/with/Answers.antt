use Rattle.std.proofs.Common.{◌+◌, ◌-◌, arith}
use Rattle.capture.proofs.Counts.{exits_on, one_cut, one_passed, one_dropped}
use Rattle.capture.proofs.Tally.with.Goals as goal

pub returns-then-found : goal.returns-then-found
returns-then-found c = one_cut _ _ _ _ _ c.if-found.true

pub run_sure-requires : goal.run_sure-requires
run_sure-requires c = exits_on _ _ c.requires.always (λ i. omega (arith, c.type_inv.file i)) c.args.from (c.args.from + c.args.found.captured - c.args.from) (omega arith) (omega arith)

pub returns-then-run_sure-eq2 : goal.returns-then-run_sure-eq2
returns-then-run_sure-eq2 c = one_passed _ _ _ _ _ c.if-found.false (c.args.from + c.args.found.captured - c.args.from) (omega arith) _ c.run_sure.ensures c.if-run_sure-eq2.true

pub returns-else-run_sure-eq2 : goal.returns-else-run_sure-eq2
returns-else-run_sure-eq2 c = one_dropped _ _ _ _ _ c.if-found.false (c.args.from + c.args.found.captured - c.args.from) (omega arith) _ c.run_sure.ensures c.if-run_sure-eq2.false
