use Rattle.meaning.proofs.Loops.{halves_none, halves_end, halves_differ, halves_more}
use Rattle.std.proofs.Common.{sym, ◌∙◌, arith}
use Rattle.meaning.proofs.packet.Packet.halves.Goals as goal

pub returns-then-net-i : goal.returns-then-net-i
returns-then-net-i c = let a = c.args in let l = c.loop-i in
    sym (l.invariant ∙ halves_end a.self.link a.self.frame.now a.net.addr a.net.prefix_len a.at l.i (omega arith) (omega arith))

pub returns-then-not-half_same : goal.returns-then-not-half_same
returns-then-not-half_same c = let a = c.args in let l = c.loop-i in
    sym (l.invariant ∙ halves_differ a.self.link a.self.frame.now a.net.addr a.net.prefix_len a.at l.i (omega arith) (omega arith) c.half_same.ensures c.if-not-half_same.true)

pub loop-i-preserved : goal.loop-i-preserved
loop-i-preserved c = let a = c.args in let l = c.loop-i in
    l.invariant ∙ halves_more a.self.link a.self.frame.now a.net.addr a.net.prefix_len a.at l.i (omega arith) (omega arith) c.half_same.ensures c.if-not-half_same.false

pub returns-after-loop-i : goal.returns-after-loop-i
returns-after-loop-i c = let a = c.args in let l = c.loop-i in
    sym (l.invariant ∙ halves_none a.self.link a.self.frame.now a.net.addr a.net.prefix_len a.at l.i (omega arith))
