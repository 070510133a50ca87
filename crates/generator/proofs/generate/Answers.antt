-- The work is cleared, the program written, the work cleared again, and after a refusal the output.
use Rattle.std.proofs.Common.{◌≡◌, ◌+◌, ◌*◌, length, ap, ◌∙◌, arith}
use Rattle.patches.proofs.Zeros.{length_zeroed}
use Rattle.generator.proofs.Answers.{zeros_descend, cleared, enough, answer_made, answer_stopped}
use Rattle.generator.proofs.Clears.{filled}
use Rattle.generator.proofs.generate.Goals as goal

pub write_program-done-requires : goal.write_program-done-requires
write_program-done-requires c =
    let a = c.args in
    let z = c.requires.sized in
    let q = c.requires.l_in_bounds in
    let m = a.l + 8 * length a.parts.tokens.now in
    let w1 = filled m a.work.now c.fill.new.self q.1 (c.fill.ensures.after (λ y e. e)) in
    rw w1 (record {
      descends = zeros_descend a.l m a.work.now (omega arith) q.1;
      tokens_bound = (enough a.mode a.link a.parts.steps.now a.parts.prims.now a.parts.tokens.now a.l z, z.short, omega (arith, q.1, length_zeroed m a.work.now), q.0, z.few);
    })

pub returns-in-Ok : goal.returns-in-Ok
returns-in-Ok c =
    let a = c.args in
    let z = c.requires.sized in
    let q = c.requires.l_in_bounds in
    let m = a.l + 8 * length a.parts.tokens.now in
    let w1 = filled m a.work.now c.fill.new.self q.1 (c.fill.ensures.after (λ y e. e)) in
    let w2 = c.write_program-done.new.work in
    let long : length w2 ≡ length a.work.now = c.write_program-done.auto.work ∙ ap length w1 ∙ length_zeroed m a.work.now in
    let w3 = filled m w2 c.fill-2.new.self (omega (arith, long, q.1)) (c.fill-2.ensures.after (λ y e. e)) in
    let work = cleared m (a.l + 3 * length a.parts.tokens.now) a.work.now _ w2 _ (omega arith) q.1 w1 c.write_program-done.auto.work c.write_program-done.ensures.same_from_2 w3 in
    let d = c.write_program-done.ensures in
    let r = answer_made a.mode a.link a.parts.steps.now a.parts.prims.now a.parts.tokens.now a.l z a.out.now c.write_program-done.new.out c.write_program-done.result d.try_ok q.0 c.write_program-done.auto.out d.same_from c.in-Ok.is in
    record { value = r.0; out_after = r.1; work_after = work }

pub returns-in-Err : goal.returns-in-Err
returns-in-Err c =
    let a = c.args in
    let z = c.requires.sized in
    let q = c.requires.l_in_bounds in
    let m = a.l + 8 * length a.parts.tokens.now in
    let w1 = filled m a.work.now c.fill.new.self q.1 (c.fill.ensures.after (λ y e. e)) in
    let w2 = c.write_program-done.new.work in
    let long : length w2 ≡ length a.work.now = c.write_program-done.auto.work ∙ ap length w1 ∙ length_zeroed m a.work.now in
    let w3 = filled m w2 c.fill-2.new.self (omega (arith, long, q.1)) (c.fill-2.ensures.after (λ y e. e)) in
    let work = cleared m (a.l + 3 * length a.parts.tokens.now) a.work.now _ w2 _ (omega arith) q.1 w1 c.write_program-done.auto.work c.write_program-done.ensures.same_from_2 w3 in
    let d = c.write_program-done.ensures in
    let o1 = c.write_program-done.new.out in
    let o2 = filled (8 * a.l) o1 c.fill-in-Err.new.self (omega (arith, q.0, c.write_program-done.auto.out)) (c.fill-in-Err.ensures.after (λ y e. e)) in
    let r = answer_stopped a.mode a.link a.parts.steps.now a.parts.prims.now a.parts.tokens.now a.l z a.out.now o1 c.write_program-done.result d.try_ok q.0 c.write_program-done.auto.out d.same_from _ c.in-Err.is _ o2 in
    record { value = r.0; out_after = r.1; work_after = work }
