-- Refusals 1 to 8 leave all as it was; past them the sections go to `generate`.
use Rattle.std.proofs.Common.{◌≡◌, rules, Err}
use mathlib.Core.Path.{refl, sym}
use Rattle.refusals.specs.Refusal.Answer.{Given}
use Rattle.filter.specs.Sheet.{counts}
use Rattle.checks.specs.Measure.{asks, admit_of}
use native.Mathlib.Omega.{arith}
use lib.ListN.{length}
use Rattle.generator.specs.Compile.{outcome, outcome_of, answer_of, output_after, work_after}
use Rattle.generator.proofs.Admitted.{admitted, tokens_length, sheet_sized, late_outcome}
use Rattle.generator.proofs.compile.Goals as goal

-- the clauses, each by its name
of_triple_value : {A B C : Type 0} → A × (B × C) → record { value : A; output_after : B; work_after : C }
of_triple_value p = record { value = p.0; output_after = p.1.0; work_after = p.1.1 }

pub generate-requires : goal.generate-requires
generate-requires c =
    let a = c.args in
    let p = c.sections-parts.ensures in
    let v = admitted a.sheet.now a.link a.mode (length a.output.now) (length a.work.now) _ _ _ _ (sym c.in_ok-asked.ensures) in
    record {
      sized = rw (c.from.ensures, p.steps, p.prims, p.tokens) (sheet_sized v a.mode (omega arith) (omega arith) (omega arith));
      l_in_bounds = (v.bytes, rw p.tokens (omega (arith, v.numbers, tokens_length v)));
    }

pub returns-in_err-asked : goal.returns-in_err-asked
unfolding outcome_of outcome answer_of output_after work_after
returns-in_err-asked c =
    let h : c.from_residual.result ≡ Err c.in_err-asked.field-0.0 = search rules in
    rw (h, ← c.in_err-asked.ensures) (record { value = refl; output_after = refl; work_after = refl })

pub returns : goal.returns
unfolding answer_of output_after work_after
returns c = of_triple_value (let a = c.args in
    let m : admit_of a.sheet.now a.link a.mode (length a.output.now) (length a.work.now) ≡ Given (asks (counts c.in_ok-asked.asked.counts.steps c.in_ok-asked.asked.counts.prims c.in_ok-asked.asked.counts.tokens) c.in_ok-asked.asked.length) = sym c.in_ok-asked.ensures in
    let v = admitted a.sheet.now a.link a.mode (length a.output.now) (length a.work.now) _ _ _ _ m in
    let p = c.sections-parts.ensures in
    rw (late_outcome v a.mode _ c.from.ensures m, ← p.steps, ← p.prims, ← p.tokens) (c.generate.ensures.value, (c.generate.ensures.out_after, c.generate.ensures.work_after)))
