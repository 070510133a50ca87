-- The refusal, or the code and then `finish`.
use Rattle.std.proofs.Common.{◌≡◌, ◌+◌, ◌*◌, refl, sym, subst, arith, length}
use Rattle.refusals.specs.Refusal.{number_of}
use Rattle.refusals.proofs.Numbers.{above_zero}
use Rattle.checks.specs.Refusal.{refusal}
use Rattle.codegen.specs.Primitives.{emit_primitive}
use Rattle.patches.specs.Code.{Emission, emission}
use Rattle.patches.specs.Same.{Kept}
use Rattle.patches.proofs.Tokens.{leaf_some, leaf_from, leaf_code, leaf_refused}
use Rattle.patches.proofs.Unchanged.{from_trans, from_more, block_kept, kept_trans}
use Rattle.generator.proofs.Templates.{coded, denied, leaf_size, leaf_fits}
use Rattle.generator.proofs.emit_operand.Goals as goal

pub returns-in-Err : goal.returns-in-Err
unfolding emission
returns-in-Err c =
    let a = c.args in
    let b = a.code.now in
    let e = denied b.mode b.link a.steps.now a.from a.prim (λ z. omega (arith, above_zero c.in-Err.reason, c.in-Err.ensures, z)) in
    let en : number_of c.at.result.reason ≡ refusal b.link a.steps.now a.from a.prim = rw c.at.ensures c.in-Err.ensures in
    let ep : c.at.result.place ≡ a.k = rw c.at.ensures refl in
    record {
      leaf_ok = leaf_refused _ _ _ _ _ e c.at.result en ep (emission b) (emission b);
      kept = record { setting = refl; out_len = refl; work_len = refl };
      same_from = λ p h. refl;
      same_from_2 = λ p h. refl;
    }

pub emit_primitive-requires : goal.emit_primitive-requires
emit_primitive-requires c =
    let a = c.args in
    leaf_fits a.code.now.mode a.code.now.link a.steps.now a.from a.prim c.requires.l_in_bounds.1 (sym c.in_default.ensures) c.requires.some_leaf

pub finish-requires : goal.finish-requires
unfolding emission
finish-requires c =
    let a = c.args in
    let y = emission a.code.now in
    let y1 = emission c.emit_primitive.new.code in
    let xs = emit_primitive a.code.now.mode a.code.now.link a.steps.now a.from a.prim in
    let s = leaf_size a.code.now.mode a.code.now.link a.steps.now a.from a.prim (sym c.in_default.ensures) c.requires.some_leaf in
    let len = subst (λ (v : Emission). length v.out ≡ length y.out) (sym c.emit_primitive.ensures) (block_kept xs y).out_len in
    record {
      some = leaf_some a.l a.n a.k xs y y1 c.emit_primitive.ensures s;
      l_in_bounds = (omega (arith, len, c.requires.l_in_bounds.0), c.requires.l_in_bounds.1);
    }

pub returns : goal.returns
unfolding emission
returns c =
    let a = c.args in
    let y = emission a.code.now in
    let y1 = emission c.emit_primitive.new.code in
    let xs = emit_primitive a.code.now.mode a.code.now.link a.steps.now a.from a.prim in
    let none = sym c.in_default.ensures in
    let s = leaf_size a.code.now.mode a.code.now.link a.steps.now a.from a.prim none c.requires.some_leaf in
    let f = leaf_from a.l a.n a.k xs y y1 c.emit_primitive.ensures s in
    let k = c.finish.ensures in
    record {
      leaf_ok = leaf_code a.l a.n a.k xs y y1 c.emit_primitive.ensures _ (coded a.code.now.mode a.code.now.link a.steps.now a.from a.prim none) _ (emission c.finish.new.self) k.finish_ok;
      kept = kept_trans (subst (λ (v : Emission). Kept y v) (sym c.emit_primitive.ensures) (block_kept xs y)) k.kept;
      same_from = from_trans (8 * a.l) y.out y1.out c.finish.new.self.out.now f.0 k.same_from;
      same_from_2 = from_trans (a.l + 3 * a.n) y.work y1.work c.finish.new.self.work.now (from_more a.l (a.l + 3 * a.n) y.work y1.work (omega arith) f.1) k.same_from_2;
    }
