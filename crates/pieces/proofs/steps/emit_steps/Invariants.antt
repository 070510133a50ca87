-- So many steps are written.
use Rattle.std.proofs.Common.{◌≡◌}
use Rattle.patches.specs.Code.{emission, block}
use Rattle.pieces.specs.Fragments.{emit_steps}
use Rattle.pieces.proofs.steps.emit_steps.Given as goal

abbrev pub invariant-loop-i : goal.invariant-loop-i
invariant-loop-i l = emission l.code ≡ block (emit_steps l.steps l.i l.from) (emission l.initial.code)
