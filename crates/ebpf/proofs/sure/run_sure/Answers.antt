use Rattle.ebpf.proofs.SureRuns.{rest_stops, rest_gives, sure_left, sure_here, sure_act, sure_ends, sure_next}
use Rattle.ebpf.specs.Step.{regs_after}
use Rattle.ebpf.specs.Run.{first_state}
use Rattle.ebpf.specs.Regs.{fresh}
use Rattle.std.proofs.Common.{sym, ◌∙◌, arith}
use native.Mathlib.Nat.{sub-zero}
use Rattle.ebpf.proofs.sure.run_sure.Goals as goal

pub loop-halt-init : goal.loop-halt-init
unfolding first_state fresh
loop-halt-init c = (omega arith, (fresh.written, simp sub-zero))

pub overflow_mul-at : goal.overflow_mul-at
overflow_mul-at c = let inv = c.loop-halt.invariant in let h = rest_stops _ _ _ c.requires _ inv.1.1 in omega (arith, sure_here _ _ _ _ _ _ _ inv.0 h)

pub invariant_of-act_of : goal.invariant_of-act_of
invariant_of-act_of c = let inv = c.loop-halt.invariant in let h = rest_stops _ _ _ c.requires _ inv.1.1 in omega (arith, sure_here _ _ _ _ _ _ _ inv.0 h)

pub act_of-a-requires : goal.act_of-a-requires
act_of-a-requires c = let inv = c.loop-halt.invariant in let h = rest_stops _ _ _ c.requires _ inv.1.1 in (inv.1.0, (sure_act _ _ _ _ _ _ _ inv.0 h))

pub returns-in-Some : goal.returns-in-Some
returns-in-Some c =
    let inv = c.loop-halt.invariant in
    let h = rest_stops _ _ _ c.requires _ inv.1.1 in
    let e = (c.act_of-a.ensures.0 inv.1.0 ((sure_act _ _ _ _ _ _ _ inv.0 h))) in
    sure_ends _ _ _ _ _ _ _ inv.0 h _ e _ (sym c.halt_of.ensures ∙ c.in-Some.is) ∙ rest_gives _ _ _ c.requires _ inv.1.1

pub overflow_add-n : goal.overflow_add-n
overflow_add-n c = let inv = c.loop-halt.invariant in let h = rest_stops _ _ _ c.requires _ inv.1.1 in omega (arith, sure_left _ _ _ _ _ _ _ inv.0 h)

pub loop-halt-smaller : goal.loop-halt-smaller
loop-halt-smaller c = let inv = c.loop-halt.invariant in let h = rest_stops _ _ _ c.requires _ inv.1.1 in omega (arith, sure_left _ _ _ _ _ _ _ inv.0 h)

pub loop-halt-preserved : goal.loop-halt-preserved
loop-halt-preserved c =
    let inv = c.loop-halt.invariant in
    let h = rest_stops _ _ _ c.requires _ inv.1.1 in
    let e = (c.act_of-a.ensures.0 inv.1.0 ((sure_act _ _ _ _ _ _ _ inv.0 h))) in
    (omega (arith, sure_left _ _ _ _ _ _ _ inv.0 h), ((regs_after _ _).written, sure_next _ _ _ _ _ _ _ inv.0 h _ e (sym c.halt_of.ensures ∙ c.in_default.is) _ _ c.write_back.ensures c.place_after-pc.ensures ∙ inv.1.1))
