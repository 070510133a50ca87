-- The prologue, the walk over the tokens, the end.
use Rattle.std.proofs.Common.{◌≡◌, ℕ, ◌+◌, ◌*◌, ◌≤◌, List, [], length, Err, rules, sym, ap, ◌∙◌, subst, arith}
use Rattle.patches.specs.Code.{Setting, emission}
use Rattle.patches.specs.Machine.{Tpl, run, cost}
use Rattle.patches.specs.Same.{SameFrom}
use Rattle.patches.specs.Whole.{Comp}
use Rattle.patches.proofs.Unchanged.{from_trans, kept_trans}
use Rattle.generator.specs.Compile.{WalkOk, TryOk}
use Rattle.generator.specs.Template.{template}
use Rattle.generator.proofs.Programs.{prologue_fits, start_work, start_kept, start_begun, start_same, start_run, walk_refused, walk_whole, at_template}
use Rattle.generator.proofs.emit_program.Goals as goal

pub emit_prologue-requires : goal.emit_prologue-requires
emit_prologue-requires c = prologue_fits _ c.requires.begun

pub emit_expr-requires : goal.emit_expr-requires
unfolding emission
emit_expr-requires c =
    let a = c.args in
    let b = a.code.now in
    let y = emission b in
    let y1 = emission c.emit_prologue.new.code in
    let q = c.requires.tokens_bound in
    let none = c.requires.begun in
    let tpl = template b.mode b.link a.parts.steps.now a.parts.prims.now in
    let m = a.l + 3 * length a.parts.tokens.now in
    let kept = start_kept y y1 c.emit_prologue.ensures none in
    let w : c.emit_prologue.new.code.work.now ≡ b.work.now = start_work y y1 c.emit_prologue.ensures none in
    let mode : c.emit_prologue.new.code.mode ≡ b.mode = ap (λ (s : Setting). s.mode) kept.setting in
    let link : c.emit_prologue.new.code.link ≡ b.link = ap (λ (s : Setting). s.link) kept.setting in
    let paid : 2 + cost (template c.emit_prologue.new.code.mode c.emit_prologue.new.code.link a.parts.steps.now a.parts.prims.now) a.parts.tokens.now 0 + 4 ≤ a.l = rw (mode, link) q.0 in
    record {
      begun = start_begun y y1 c.emit_prologue.ensures none;
      descends = rw w c.requires.descends;
      tokens_bound = (paid, q.1, omega (arith, kept.work_len, q.2), omega (arith, kept.out_len, q.3), q.4);
    }

pub returns-in_err-emit_expr : goal.returns-in_err-emit_expr
unfolding emission
returns-in_err-emit_expr c =
    let a = c.args in
    let b = a.code.now in
    let y = emission b in
    let y1 = emission c.emit_prologue.new.code in
    let q = c.requires.tokens_bound in
    let none = c.requires.begun in
    let tpl = template b.mode b.link a.parts.steps.now a.parts.prims.now in
    let m = a.l + 3 * length a.parts.tokens.now in
    let kept = start_kept y y1 c.emit_prologue.ensures none in
    let w : c.emit_prologue.new.code.work.now ≡ b.work.now = start_work y y1 c.emit_prologue.ensures none in
    let same = start_same y y1 c.emit_prologue.ensures none a.l (omega (arith, q.0)) in
    let y2 = emission c.emit_expr.new.code in
    let k = c.emit_expr.ensures in
    let mode : c.emit_prologue.new.code.mode ≡ b.mode = ap (λ (s : Setting). s.mode) kept.setting in
    let link : c.emit_prologue.new.code.link ≡ b.link = ap (λ (s : Setting). s.link) kept.setting in
    let walk = at_template b.mode b.link _ _ mode link a.parts.steps.now a.parts.prims.now (λ (t : ℕ → Tpl). WalkOk a.l (run t a.parts.tokens.now 0 2 c.emit_prologue.new.code.out.now []) c.emit_expr.result y2) k.walk_ok in
    let e : c.from_residual.result ≡ Err c.in_err-emit_expr.field-0.0 = search rules in
    record {
      try_ok = rw e (subst (λ (u : Comp). TryOk u (Err c.in_err-emit_expr.field-0.0) c.emit_expr.new.code.out.now) (start_run y y1 c.emit_prologue.ensures none tpl a.parts.tokens.now)
          (walk_refused a.l (run tpl a.parts.tokens.now 0 2 c.emit_prologue.new.code.out.now []) _ y2 walk _ c.in_err-emit_expr.was c.emit_expr.new.code.out.now));
      same_out = ap (λ (s : Setting). s.out.name) (kept_trans kept k.kept).setting;
      same_work = ap (λ (s : Setting). s.work.name) (kept_trans kept k.kept).setting;
      same_from = from_trans (8 * a.l) b.out.now c.emit_prologue.new.code.out.now c.emit_expr.new.code.out.now same k.same_from;
      same_from_2 = subst (λ (u : List ℕ). SameFrom m u c.emit_expr.new.code.work.now) w k.same_from_2;
    }

pub end-requires : goal.end-requires
unfolding emission
end-requires c =
    let a = c.args in
    let b = a.code.now in
    let y = emission b in
    let y1 = emission c.emit_prologue.new.code in
    let q = c.requires.tokens_bound in
    let none = c.requires.begun in
    let tpl = template b.mode b.link a.parts.steps.now a.parts.prims.now in
    let m = a.l + 3 * length a.parts.tokens.now in
    let kept = start_kept y y1 c.emit_prologue.ensures none in
    let w : c.emit_prologue.new.code.work.now ≡ b.work.now = start_work y y1 c.emit_prologue.ensures none in
    let same = start_same y y1 c.emit_prologue.ensures none a.l (omega (arith, q.0)) in
    let y2 = emission c.emit_expr.new.code in
    let k = c.emit_expr.ensures in
    let mode : c.emit_prologue.new.code.mode ≡ b.mode = ap (λ (s : Setting). s.mode) kept.setting in
    let link : c.emit_prologue.new.code.link ≡ b.link = ap (λ (s : Setting). s.link) kept.setting in
    let walk = at_template b.mode b.link _ _ mode link a.parts.steps.now a.parts.prims.now (λ (t : ℕ → Tpl). WalkOk a.l (run t a.parts.tokens.now 0 2 c.emit_prologue.new.code.out.now []) c.emit_expr.result y2) k.walk_ok in
    let v = walk_whole a.l (run tpl a.parts.tokens.now 0 2 c.emit_prologue.new.code.out.now []) _ y2 walk c.in_ok-emit_expr.was in
    record { some = v.some; pos_bound = (v.room, omega (arith, kept.out_len, k.kept.out_len, q.3), q.1) }

pub returns : goal.returns
unfolding emission
returns c =
    let a = c.args in
    let b = a.code.now in
    let y = emission b in
    let y1 = emission c.emit_prologue.new.code in
    let q = c.requires.tokens_bound in
    let none = c.requires.begun in
    let tpl = template b.mode b.link a.parts.steps.now a.parts.prims.now in
    let m = a.l + 3 * length a.parts.tokens.now in
    let kept = start_kept y y1 c.emit_prologue.ensures none in
    let w : c.emit_prologue.new.code.work.now ≡ b.work.now = start_work y y1 c.emit_prologue.ensures none in
    let same = start_same y y1 c.emit_prologue.ensures none a.l (omega (arith, q.0)) in
    let y2 = emission c.emit_expr.new.code in
    let k = c.emit_expr.ensures in
    let mode : c.emit_prologue.new.code.mode ≡ b.mode = ap (λ (s : Setting). s.mode) kept.setting in
    let link : c.emit_prologue.new.code.link ≡ b.link = ap (λ (s : Setting). s.link) kept.setting in
    let walk = at_template b.mode b.link _ _ mode link a.parts.steps.now a.parts.prims.now (λ (t : ℕ → Tpl). WalkOk a.l (run t a.parts.tokens.now 0 2 c.emit_prologue.new.code.out.now []) c.emit_expr.result y2) k.walk_ok in
    let v = walk_whole a.l (run tpl a.parts.tokens.now 0 2 c.emit_prologue.new.code.out.now []) _ y2 walk c.in_ok-emit_expr.was in
    let d = c.end.ensures in
    record {
      try_ok = subst (λ (u : Comp). TryOk u c.end.result c.end.new.code.out.now) (sym v.final ∙ start_run y y1 c.emit_prologue.ensures none tpl a.parts.tokens.now) d.try_ok;
      same_out = ap (λ (s : Setting). s.out.name) (kept_trans (kept_trans kept k.kept) d.kept).setting;
      same_work = ap (λ (s : Setting). s.work.name) (kept_trans (kept_trans kept k.kept) d.kept).setting;
      same_from = from_trans (8 * a.l) b.out.now c.emit_expr.new.code.out.now c.end.new.code.out.now
          (from_trans (8 * a.l) b.out.now c.emit_prologue.new.code.out.now c.emit_expr.new.code.out.now same k.same_from) d.same_from;
      same_from_2 = subst (λ (u : List ℕ). SameFrom m b.work.now u) (sym d.work_unchanged) (subst (λ (u : List ℕ). SameFrom m u c.emit_expr.new.code.work.now) w k.same_from_2);
    }
