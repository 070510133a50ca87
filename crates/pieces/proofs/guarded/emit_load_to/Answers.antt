-- The guard, then the load.
use Rattle.pieces.specs.Fragments.{emit_load}
use Rattle.pieces.proofs.Leading.{fits, first_to, second_to, then_to, loaded}
use Rattle.pieces.proofs.guarded.emit_load_to.Goals as goal

pub push_guard_to-requires : goal.push_guard_to-requires
unfolding emit_load
push_guard_to-requires c = rw c.end_of.ensures (first_to _ _ _ _ c.requires)

pub push_load-requires : goal.push_load-requires
unfolding emit_load
push_load-requires c = fits _ _ _ (second_to _ _ _ _ _ c.requires (rw c.end_of.ensures at c.push_guard_to.ensures))

pub returns : goal.returns
unfolding emit_load
returns c = then_to _ _ _ _ _ _ (rw c.end_of.ensures at c.push_guard_to.ensures) (loaded _ _ _ _ _ _ _ c.push_load.ensures)
