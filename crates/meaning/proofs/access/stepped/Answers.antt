use Rattle.meaning.proofs.Loops.{stepped_all, stepped_more, stepped_none}
use Rattle.std.proofs.Common.{sym, ◌∙◌, arith}
use Rattle.meaning.proofs.access.stepped.Goals as goal

pub loop-k-init : goal.loop-k-init
loop-k-init c = let a = c.args in stepped_all a.steps.now a.n a.j a.v

pub loop-k-preserved : goal.loop-k-preserved
loop-k-preserved c = let a = c.args in let l = c.loop-k in
    l.invariant ∙ stepped_more a.steps.now a.n a.j l.k l.w (omega arith) (rw c.step_at-op.ensures at c.arith-w.ensures)

pub returns : goal.returns
returns c = let a = c.args in let l = c.loop-k in
    sym (l.invariant ∙ stepped_none a.steps.now a.n a.j l.k (omega arith))
