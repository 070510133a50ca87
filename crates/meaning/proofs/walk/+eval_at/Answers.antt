use Rattle.std.proofs.Common.{◌≡◌, sym, ◌∙◌, rules, arith, Err}
use Rattle.meaning.proofs.Walks.{walk_deep, walk_past, walk_leaf, walk_not, walk_both, walk_stops, next_step}
use Rattle.meaning.proofs.walk.+eval_at.Goals as goal

pub returns-then-depth-eq0 : goal.returns-then-depth-eq0
returns-then-depth-eq0 t c = rw c.at.ensures (sym (walk_deep _ _ _ _ _ _ _ c.if-depth-eq0.true))

pub returns-then-parts-at : goal.returns-then-parts-at
returns-then-parts-at t c = rw c.at-then-parts-at.ensures (sym (walk_past _ _ _ _ _ _ _ c.if-depth-eq0.false c.if-parts-at.true))

pub returns-then-t-eq0 : goal.returns-then-t-eq0
returns-then-t-eq0 t c = c.leaf_at.ensures ∙ sym (walk_leaf _ _ _ _ _ _ _ c.if-depth-eq0.false c.if-parts-at.false c.if-t-eq0.true)

pub returns-in_err-first : goal.returns-in_err-first
returns-in_err-first t c =
    let h : c.from_residual.result ≡ Err c.in_err-first.field-0.0 = search rules in
    rw h (sym (walk_stops _ _ _ _ _ _ _ c.if-depth-eq0.false c.if-parts-at.false c.if-t-eq0.false (sym c.in_err-first.ensures)))

pub returns-then-t-eq3 : goal.returns-then-t-eq3
returns-then-t-eq3 t c =
    sym (walk_not _ _ _ _ _ _ _ c.if-depth-eq0.false c.if-parts-at.false c.if-t-eq0.false (sym c.in_ok-first.ensures) c.if-t-eq3.true)

pub eval_at-requires-2 : goal.eval_at-requires-2
eval_at-requires-2 t c = (omega arith, (next_step _ _ _ _ _ _ _ (sym c.in_ok-first.ensures), c.requires.1))

pub returns-in_err-second : goal.returns-in_err-second
returns-in_err-second t c =
    let h : c.from_residual-in_err-second.result ≡ Err c.in_err-second.field-0.0 = search rules in
    rw h (sym (walk_both _ _ _ _ _ _ _ c.if-depth-eq0.false c.if-parts-at.false c.if-t-eq0.false (sym c.in_ok-first.ensures) c.if-t-eq3.false c.in_err-second.ensures))

pub returns : goal.returns
returns t c =
    rw c.join_bool.ensures
    (sym (walk_both _ _ _ _ _ _ _ c.if-depth-eq0.false c.if-parts-at.false c.if-t-eq0.false (sym c.in_ok-first.ensures) c.if-t-eq3.false c.in_ok-second.ensures))
