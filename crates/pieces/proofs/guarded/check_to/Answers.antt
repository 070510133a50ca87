-- The load, then the comparison.
use Rattle.pieces.specs.Fragments.{check, fails}
use Rattle.pieces.proofs.Leading.{first_to, second_to, head_to, then_to, one_to, mode_to}
use Rattle.pieces.proofs.guarded.check_to.Goals as goal

pub emit_load_to-requires : goal.emit_load_to-requires
unfolding check fails
emit_load_to-requires c = first_to _ _ _ _ c.requires

pub push_failing-requires : goal.push_failing-requires
unfolding check fails
push_failing-requires c = head_to _ _ _ _ _ (second_to _ _ _ _ _ c.requires c.emit_load_to.ensures)

pub returns : goal.returns
unfolding check fails
returns c = then_to _ _ _ _ _ _ c.emit_load_to.ensures (one_to _ _ _ _ _ (rw (rw (mode_to _ _ _ _ _ c.emit_load_to.ensures) at c.jne.ensures) at c.push_failing.ensures))
