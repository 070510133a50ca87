-- Three instructions.
use Rattle.pieces.specs.Fragments.{led, guard}
use Rattle.pieces.proofs.Leading.{head_to, tail_to, step_to, one_to, room_to}
use Rattle.pieces.proofs.guarded.push_guard_to.Goals as goal

pub push-requires : goal.push-requires
unfolding guard
push-requires c = room_to _ _ _ _ c.requires

pub push-requires-2 : goal.push-requires-2
unfolding led guard
push-requires-2 c = room_to _ _ _ _ (tail_to _ _ _ _ _ c.requires (rw c.mov64_reg.ensures at c.push.ensures))

pub push_failing-requires : goal.push_failing-requires
unfolding led guard
push_failing-requires c = head_to _ _ _ _ _ (tail_to _ _ _ _ _ (tail_to _ _ _ _ _ c.requires (rw c.mov64_reg.ensures at c.push.ensures)) (rw c.add64_imm.ensures at c.push-2.ensures))

pub returns : goal.returns
unfolding led guard
returns c = step_to _ _ _ _ _ _ (rw c.mov64_reg.ensures at c.push.ensures) (step_to _ _ _ _ _ _ (rw c.add64_imm.ensures at c.push-2.ensures) (one_to _ _ _ _ _ (rw c.jgt_reg.ensures at c.push_failing.ensures)))
