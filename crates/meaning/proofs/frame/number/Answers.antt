-- Another byte behind them.
use Rattle.std.proofs.Common.{arith, refl, lit<, ◌≡◌}
use Rattle.meaning.specs.Frame.{number}
use Rattle.meaning.proofs.Frames.{grown, room, number_more}
use Rattle.meaning.proofs.frame.number.Goals as goal

pub overflow_mul-joined : goal.overflow_mul-joined
overflow_mul-joined c = record { fits = omega (arith, room c.loop-k.joined 0 c.loop-k.k c.loop-k.invariant.1 (lit< tt) (omega arith)) }

pub overflow_add-joined : goal.overflow_add-joined
overflow_add-joined c = record { fits = room c.loop-k.joined c.byte.result c.loop-k.k c.loop-k.invariant.1 c.byte.type_inv (omega arith) }

pub loop-k-init : goal.loop-k-init
unfolding number
loop-k-init c = (refl, lit< tt)

pub loop-k-preserved : goal.loop-k-preserved
loop-k-preserved c =
    let e = number_more c.args.frame.now c.loop-k.k c.place-p.result in
    (cc, grown c.loop-k.joined c.byte.result c.loop-k.k c.loop-k.invariant.1 c.byte.type_inv)

pub returns : goal.returns
returns c =
    let e : c.loop-k.k ≡ c.args.n = omega arith in
    let h = c.loop-k.invariant in
    record { number = rw (h.0, e, c.place-p.ensures.0); fits = rw (← e) h.1 }
