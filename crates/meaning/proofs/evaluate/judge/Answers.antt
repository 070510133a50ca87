-- The walk's answers, where the tokens are one tree.
use Rattle.std.proofs.Common.{◌≡◌, sym, refl, ◌∙◌, rules, Err}
use Rattle.checks.specs.Check.{steps_before}
use Rattle.meaning.proofs.Verdicts.{judge_done, judge_stops}
use Rattle.meaning.proofs.evaluate.judge.Goals as goal

pub eval_at-requires : goal.eval_at-requires
unfolding steps_before
eval_at-requires c = (refl, c.requires.1)

pub returns-in_err-root : goal.returns-in_err-root
returns-in_err-root c =
    let h : c.from_residual.result ≡ Err c.in_err-root.field-0.0 = search rules in
    rw h (judge_stops _ _ _ _ _ _ c.requires.0 (sym c.in_err-root.ensures))

pub returns : goal.returns
returns c = c.refused_or.ensures ∙ judge_done _ _ _ _ _ _ c.requires.0 (sym c.in_ok-root.ensures)
