-- `close` does what `close_op` says of any reading.
use Rattle.std.proofs.Common.{◌≡◌, ◌+◌, ◌*◌, sym, ap, ◌∙◌, arith}
use Rattle.patches.specs.Code.{Emission, emission, with_patches}
use Rattle.patches.specs.Operators.{turn_of, right_of}
use Rattle.patches.proofs.Closes.{which, close_and_done, close_or_done, close_and_right, close_or_right_over, close_not_done_over, ja_in, over_rel, over_len}
use Rattle.patches.proofs.Codegen.close.Goals as goal

pub right-requires-in-OrDone : goal.right-requires-in-OrDone
unfolding emission
right-requires-in-OrDone c =
    let e : c.turn.new.self.work.now ≡ c.args.self.now.work.now = ap (λ (e : Emission). e.work) c.turn.ensures in
    rw e (omega (arith, c.requires.some_top.rel.room))

pub push_over-requires : goal.push_over-requires
unfolding emission
push_over-requires c =
    let w : c.args.op ≡ 2 = which _ _ (sym c.in-OrRight.is ∙ c.from.ensures) in
    let h = ja_in _ _ _ (emission c.args.self.now) c.requires.some_top (λ z. omega (arith, w, z)) (λ z. omega (arith, w, z)) (λ z. omega (arith, w, z)) in
    omega (arith, h, c.requires.l_in_bounds.1)

pub left-requires-in-OrRight : goal.left-requires-in-OrRight
unfolding emission
left-requires-in-OrRight c =
    let w : c.args.op ≡ 2 = which _ _ (sym c.in-OrRight.is ∙ c.from.ensures) in
    let y = emission c.args.self.now in
    let r = over_rel _ _ _ y c.requires.some_top (λ z. omega (arith, w, z)) (λ z. omega (arith, w, z)) (λ z. omega (arith, w, z)) _ c.push_over.ensures in
    let len = over_len _ _ _ y c.requires.some_top (λ z. omega (arith, w, z)) (λ z. omega (arith, w, z)) (λ z. omega (arith, w, z)) _ c.push_over.ensures in
    record {
      descends = r.descends;
      l_in_bounds = (omega (arith, r.room), omega (arith, r.success_list.below, r.pos_in), r.success_list.below, omega (arith, len, c.requires.l_in_bounds.0), omega (arith, r.room));
    }

pub push_over-requires-in-NotDone : goal.push_over-requires-in-NotDone
unfolding emission
push_over-requires-in-NotDone c =
    let w = which _ _ (sym c.in-NotDone.is ∙ c.from.ensures) in
    let h = ja_in _ _ _ (emission c.args.self.now) c.requires.some_top w.2 w.3 w.0 in
    omega (arith, h, c.requires.l_in_bounds.1)

pub land-requires : goal.land-requires
unfolding emission
land-requires c =
    let w : (c.args.op ≡ 1 → ⊥) × (c.args.op ≡ 2 → ⊥) × (c.args.op ≡ 4 → ⊥) × (c.args.op ≡ 5 → ⊥) = which _ _ (sym c.in-NotDone.is ∙ c.from.ensures) in
    let y = emission c.args.self.now in
    let r = over_rel _ _ _ y c.requires.some_top w.2 w.3 w.0 _ c.push_over-in-NotDone.ensures in
    let len = over_len _ _ _ y c.requires.some_top w.2 w.3 w.0 _ c.push_over-in-NotDone.ensures in
    record {
      descends = r.descends;
      l_in_bounds = (omega (arith, r.room), omega (arith, r.success_list.below, r.pos_in), r.success_list.below, omega (arith, len, c.requires.l_in_bounds.0));
    }

pub returns-in-AndDone : goal.returns-in-AndDone
unfolding emission
returns-in-AndDone c = close_and_done _ _ _ (emission c.args.self.now) c.requires.some_top (which _ _ (sym c.in-AndDone.is ∙ c.from.ensures)) _ c.right.ensures

pub returns-in-OrDone : goal.returns-in-OrDone
unfolding emission
returns-in-OrDone c =
    close_or_done _ _ _ (emission c.args.self.now) c.requires.some_top (which _ _ (sym c.in-OrDone.is ∙ c.from.ensures)) _
    (c.turn-in-OrDone.ensures ∙ ap (λ (e : Emission). with_patches (turn_of e.patches) e) (c.right-in-OrDone.ensures ∙ ap (right_of (c.args.l + 3 * c.args.n)) c.turn.ensures))

pub returns-in-AndRight : goal.returns-in-AndRight
unfolding emission
returns-in-AndRight c =
    close_and_right _ _ _ (emission c.args.self.now) c.requires.some_top (which _ _ (sym c.in-AndRight.is ∙ c.from.ensures)) _ _ c.left.ensures.value c.left.ensures.after

pub returns-in-OrRight : goal.returns-in-OrRight
unfolding emission
returns-in-OrRight c =
    let w : c.args.op ≡ 2 = which _ _ (sym c.in-OrRight.is ∙ c.from.ensures) in
    close_or_right_over _ _ _ (emission c.args.self.now) c.requires.some_top (λ z. omega (arith, w, z)) (λ z. omega (arith, w, z)) (λ z. omega (arith, w, z))
    _ c.push_over.ensures w _ _ c.left-in-OrRight.ensures.value c.left-in-OrRight.ensures.after

pub returns-in-NotDone : goal.returns-in-NotDone
unfolding emission
returns-in-NotDone c =
    let w = which _ _ (sym c.in-NotDone.is ∙ c.from.ensures) in
    close_not_done_over _ _ _ (emission c.args.self.now) c.requires.some_top w.2 w.3 w.0 _ c.push_over-in-NotDone.ensures w.1 _ _ c.land.ensures.value c.land.ensures.after
