-- The tokens of a sheet that passes the checks are one tree.
use Rattle.std.proofs.Common.{◌≡◌, sym, rules, arith, Err}
use Rattle.meaning.specs.Evaluate.{evaluated, evaluate_of}
use Rattle.meaning.proofs.Parts.{good_parts}
use Rattle.meaning.proofs.evaluate.evaluate.Goals as goal

pub returns-in_err-n : goal.returns-in_err-n
unfolding evaluate_of evaluated
returns-in_err-n c =
    let h : c.from_residual.result ≡ Err c.in_err-n.field-0.0 = search rules in
    rw (h, ← c.in_err-n.ensures)

pub judge-requires : goal.judge-requires
judge-requires c =
    let p = c.sections.ensures in
    let g = good_parts c.args.sheet.now c.args.link (sym c.in_ok-n.ensures) in
    (rw p.tokens g.tree, rw (p.prims, g.steps) (omega arith))

pub returns : goal.returns
unfolding evaluate_of evaluated
returns c =
    let p = c.sections.ensures in
    rw (← c.in_ok-n.ensures, ← c.from.ensures, ← p.steps, ← p.prims, ← p.tokens) c.judge.ensures
