use Rattle.ebpf.proofs.Runs.{go_next, go_halt, go_spent}
use Rattle.ebpf.specs.Run.{first_state}
use Rattle.ebpf.specs.Regs.{fresh}
use Rattle.std.proofs.Common.{sym, ◌∙◌}
use native.Mathlib.Nat.{sub-zero}
use Rattle.ebpf.proofs.run.drive.Goals as goal

pub loop-n-init : goal.loop-n-init
unfolding first_state fresh
loop-n-init c = simp sub-zero

pub returns-in-Some : goal.returns-in-Some
returns-in-Some c = c.ended.ensures ∙ go_halt _ _ _ _ _ _ _ c.act_at-a.ensures _ _ c.loop-n-test.true (sym c.halt_of.ensures ∙ c.in-Some.is) ∙ c.loop-n.invariant

pub loop-n-preserved : goal.loop-n-preserved
loop-n-preserved c =
    go_next _ _ _ _ _ _ _ c.act_at-a.ensures _ _ _ c.loop-n-test.true (sym c.halt_of.ensures ∙ c.in_default.is) c.write_back.ensures c.place_after-pc.ensures
    ∙ c.loop-n.invariant

pub returns : goal.returns
returns c = go_spent _ _ _ _ _ _ _ c.loop-n-test.false c.loop-n.auto.n-end ∙ c.loop-n.invariant
