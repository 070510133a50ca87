-- Asked where the bytes are there.
use Rattle.meaning.specs.Frame.{passes}
use Rattle.std.proofs.Common.{sym, ◌∙◌}
use Rattle.meaning.proofs.frame.passes.Goals.{then-has, else-has}
use Rattle.meaning.proofs.frame.passes.Goals as goal

pub returns : goal.returns
unfolding passes
returns g c = λ asked told.
    elim c.if-has.branch [
      | then-has w ↦ rw (w.result-is, sym c.has.ensures ∙ w.if-has.true, told _ _ w.number.type_inv w.test.ensures, w.number.ensures.number)
      | else-has w ↦ rw (w.result-is, w.if-has.false, sym c.has.ensures ∙ w.if-has.false)
    ]
