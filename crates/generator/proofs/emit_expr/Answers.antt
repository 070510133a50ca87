use Rattle.std.proofs.Common.{◌≡◌, ap, ◌∙◌, arith, get_or, rules, Ok, Err}
use Rattle.patches.specs.Code.{Setting, emission}
use Rattle.generator.proofs.Walks.{walk_begins, walk_operator, read, room_for, walk_waits, walk_ends, walk_stops, walk_out}
use Rattle.generator.proofs.emit_expr.Goals as goal

pub loop-t-init : goal.loop-t-init
unfolding emission
loop-t-init c =
    let a = c.args in
    let b = a.code.now in
    let q = c.requires.tokens_bound in
    walk_begins b.mode b.link a.parts.steps.now a.parts.prims.now a.parts.tokens.now a.l (emission b) c.requires.begun c.requires.descends q.0 q.1 q.2 q.3 q.4

pub save-requires : goal.save-requires
unfolding emission
save-requires c = omega (arith, c.loop-t.invariant.room, c.loop-t.invariant.n_in, c.loop-t-test.true)

pub loop-t-preserved-then-t-ne0 : goal.loop-t-preserved-then-t-ne0
unfolding emission
loop-t-preserved-then-t-ne0 c =
    let a = c.args in
    let b = a.code.now in
    let y₀ = emission b in
    let p = c.loop-t in
    let v = p.invariant in
    walk_operator b.mode b.link a.parts.steps.now a.parts.prims.now a.parts.tokens.now a.l y₀ v c.loop-t-test.true c.if-t-ne0.true (emission c.save.new.self) c.save.ensures

pub emit_operand-requires : goal.emit_operand-requires
unfolding emission
emit_operand-requires c =
    let a = c.args in
    let b = a.code.now in
    let y₀ = emission b in
    let p = c.loop-t in
    let v = p.invariant in
    let q = read b.mode b.link a.parts.steps.now a.parts.prims.now a.parts.tokens.now a.l y₀ v p.code.mode p.code.link (ap (λ (s : Setting). s.mode) v.kept.setting) (ap (λ (s : Setting). s.link) v.kept.setting) _ c.primitive_at.ensures in
    let zero : get_or a.parts.tokens.now p.t-index 0 ≡ 0 = c.if-t-ne0.false in
    record {
      some_leaf = room_for b.mode b.link a.parts.steps.now a.parts.prims.now a.parts.tokens.now a.l y₀ v c.loop-t-test.true zero _ q;
      l_in_bounds = (v.bytes, v.short);
    }

pub loop-t-preserved : goal.loop-t-preserved
unfolding emission
loop-t-preserved c =
    let a = c.args in
    let b = a.code.now in
    let y₀ = emission b in
    let p = c.loop-t in
    let v = p.invariant in
    let q = read b.mode b.link a.parts.steps.now a.parts.prims.now a.parts.tokens.now a.l y₀ v p.code.mode p.code.link (ap (λ (s : Setting). s.mode) v.kept.setting) (ap (λ (s : Setting). s.link) v.kept.setting) _ c.primitive_at.ensures in
    let zero : get_or a.parts.tokens.now p.t-index 0 ≡ 0 = c.if-t-ne0.false in
    let k = c.emit_operand.ensures in
    walk_waits b.mode b.link a.parts.steps.now a.parts.prims.now a.parts.tokens.now a.l y₀ v c.loop-t-test.true zero _ q _ (emission c.emit_operand.new.code) k.leaf_ok k.kept k.same_from k.same_from_2
    _ c.in_ok-n.was c.if-n-eq0.false _ c.takes_steps.ensures (omega arith)

pub returns-then-n-eq0 : goal.returns-then-n-eq0
unfolding emission
returns-then-n-eq0 c =
    let a = c.args in
    let b = a.code.now in
    let y₀ = emission b in
    let p = c.loop-t in
    let v = p.invariant in
    let q = read b.mode b.link a.parts.steps.now a.parts.prims.now a.parts.tokens.now a.l y₀ v p.code.mode p.code.link (ap (λ (s : Setting). s.mode) v.kept.setting) (ap (λ (s : Setting). s.link) v.kept.setting) _ c.primitive_at.ensures in
    let zero : get_or a.parts.tokens.now p.t-index 0 ≡ 0 = c.if-t-ne0.false in
    let k = c.emit_operand.ensures in
    walk_ends b.mode b.link a.parts.steps.now a.parts.prims.now a.parts.tokens.now a.l y₀ v c.loop-t-test.true zero _ q _ (emission c.emit_operand.new.code) k.leaf_ok k.kept k.same_from k.same_from_2
    (c.in_ok-n.was ∙ ap Ok c.if-n-eq0.true)

pub returns-in_err-n : goal.returns-in_err-n
unfolding emission
returns-in_err-n c =
    let a = c.args in
    let b = a.code.now in
    let y₀ = emission b in
    let p = c.loop-t in
    let v = p.invariant in
    let q = read b.mode b.link a.parts.steps.now a.parts.prims.now a.parts.tokens.now a.l y₀ v p.code.mode p.code.link (ap (λ (s : Setting). s.mode) v.kept.setting) (ap (λ (s : Setting). s.link) v.kept.setting) _ c.primitive_at.ensures in
    let zero : get_or a.parts.tokens.now p.t-index 0 ≡ 0 = c.if-t-ne0.false in
    let k = c.emit_operand.ensures in
    let e : c.from_residual.result ≡ Err c.in_err-n.field-0.0 = search rules in
    let w = walk_stops b.mode b.link a.parts.steps.now a.parts.prims.now a.parts.tokens.now a.l y₀ v c.loop-t-test.true zero _ q _ (emission c.emit_operand.new.code) k.leaf_ok k.kept k.same_from k.same_from_2 _ c.in_err-n.was in
    record { walk_ok = rw e w.walk_ok; kept = w.kept; same_from = w.same_from; same_from_2 = w.same_from_2 }

pub returns : goal.returns
unfolding emission
returns c =
    let a = c.args in
    let b = a.code.now in
    let y₀ = emission b in
    let p = c.loop-t in
    let v = p.invariant in
    rw c.at.ensures (walk_out b.mode b.link a.parts.steps.now a.parts.prims.now a.parts.tokens.now a.l y₀ v (omega arith))
