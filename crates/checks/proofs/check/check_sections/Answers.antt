use Rattle.std.proofs.Common.{◌≡◌, rules, Err}
use Rattle.checks.specs.Check.{check_sections}
use Rattle.checks.proofs.check.check_sections.Goals as goal

pub returns-in_err-n : goal.returns-in_err-n
unfolding check_sections
returns-in_err-n c =
    let h : c.from_residual.result ≡ Err c.in_err-n.field-0.0 = search rules in
    let e = c.in_err-n.ensures in
    let v = rw e.ok_part at e.value in
    let q : c.in_err-n.field-0.0 ≡ c.at.result = cc in
    rw (← c.find_sections.ensures, e.ok_part, h, q, c.at.ensures)

pub returns : goal.returns
unfolding check_sections
returns c =
    let p = c.sections.ensures in
    rw (← c.find_sections.ensures, c.in_ok-n.ensures.ok_part, ← p.steps, ← p.prims, ← p.tokens) c.check_parts.ensures
