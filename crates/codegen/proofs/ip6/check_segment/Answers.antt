-- The load, then the whole half or the bits that count.
use borrow.Author.Tests.{le-leb, lt-leb}
use Rattle.pieces.specs.Fragments.{led, fails}
use Rattle.codegen.specs.Primitives.{check_segment}
use Rattle.pieces.proofs.Leading.{room_to, mode_to, first_to, second_to, head_to, tail_to, then_to, step_to, one_to}
use Rattle.pieces.proofs.Pieces.{mode_after}
use Rattle.codegen.proofs.ip6.check_segment.Goals as goal

pub emit_load_to-requires : goal.emit_load_to-requires
unfolding check_segment fails
emit_load_to-requires c = first_to _ _ _ _ c.requires.leads

pub push_failing-requires : goal.push_failing-requires
unfolding check_segment fails
push_failing-requires c = head_to _ _ _ _ _ (second_to _ _ _ _ _ (rw (le-leb _ _ c.if-start_bit-prefix_len.true) at c.requires.leads) c.emit_load_to.ensures)

pub push-requires : goal.push-requires
unfolding check_segment fails
push-requires c = room_to _ _ _ _ (second_to _ _ _ _ _ (rw (lt-leb _ _ c.if-start_bit-prefix_len.false) at c.requires.leads) c.emit_load_to.ensures)

pub push_failing-requires-else-start_bit-prefix_len : goal.push_failing-requires-else-start_bit-prefix_len
unfolding led check_segment fails
push_failing-requires-else-start_bit-prefix_len c = head_to _ _ _ _ _ (tail_to _ _ _ _ _ (second_to _ _ _ _ _ (rw (lt-leb _ _ c.if-start_bit-prefix_len.false) at c.requires.leads) c.emit_load_to.ensures) (rw (c.and32_imm.ensures, c.prefix_mask-mask.ensures) at c.push.ensures))

pub returns-then-start_bit-prefix_len : goal.returns-then-start_bit-prefix_len
unfolding check_segment fails
returns-then-start_bit-prefix_len c = rw (le-leb _ _ c.if-start_bit-prefix_len.true) (then_to _ _ _ _ _ _ c.emit_load_to.ensures (one_to _ _ _ _ _ (rw (rw (mode_to _ _ _ _ _ c.emit_load_to.ensures, c.from-seg.ensures, c.segment.ensures) at c.jne.ensures) at c.push_failing.ensures)))

pub returns-else-start_bit-prefix_len : goal.returns-else-start_bit-prefix_len
unfolding led check_segment fails
returns-else-start_bit-prefix_len c = rw (lt-leb _ _ c.if-start_bit-prefix_len.false) (then_to _ _ _ _ _ _ c.emit_load_to.ensures (step_to _ _ _ _ _ _ (rw (c.and32_imm.ensures, c.prefix_mask-mask.ensures) at c.push.ensures)
    (one_to _ _ _ _ _ (rw (rw (mode_after _ _ _ c.push.ensures, mode_to _ _ _ _ _ c.emit_load_to.ensures, c.from-seg.ensures, c.segment.ensures, c.prefix_mask-mask.ensures) at c.jne-else-start_bit-prefix_len.ensures) at c.push_failing-else-start_bit-prefix_len.ensures))))
