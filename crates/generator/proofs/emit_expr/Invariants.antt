-- One token after the other, by the laws of Walks.
use Rattle.patches.specs.Code.{emission}
use Rattle.generator.proofs.Walks.{Walking}
use Rattle.generator.proofs.emit_expr.Given as goal

abbrev pub invariant-loop-t : goal.invariant-loop-t
invariant-loop-t l = Walking l.initial.code.mode l.initial.code.link l.parts.steps.now l.parts.prims.now l.parts.tokens.now l.l (emission l.initial.code) (emission l.code) l.n l.t-index l.k l.from
