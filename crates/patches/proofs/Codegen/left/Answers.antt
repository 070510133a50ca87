-- `left` resolves the successes, and saves the failures.
use Rattle.std.proofs.Common.{◌≡◌, Ok, Err, rules, refl, sym, ap, ◌∙◌}
use Rattle.patches.specs.Code.{Emission, emission, with_work, with_patches}
use Rattle.patches.specs.Lists.{save_at}
use Rattle.patches.specs.Operators.{lands, blank, left_of}
use Rattle.patches.proofs.Codegen.left.Goals as goal

pub save-requires : goal.save-requires
unfolding emission
save-requires c = let e : c.resolve_all.new.self.work.now ≡ c.args.self.now.work.now = ap (λ (e : Emission). e.work) c.resolve_all.ensures.out_after in
    rw e c.requires.l_in_bounds.4

pub returns-in_err-resolve_all : goal.returns-in_err-resolve_all
unfolding emission left_of
returns-in_err-resolve_all c =
    let e : lands (emission c.args.self.now) ≡ Err c.in_err-resolve_all.field-0.0 = sym c.resolve_all.ensures.value ∙ c.in_err-resolve_all.was in
    record { value = rw e (search rules); after = rw e c.resolve_all.ensures.out_after }

pub returns : goal.returns
unfolding emission left_of
returns c =
    let e : lands (emission c.args.self.now) ≡ Ok tt = sym c.resolve_all.ensures.value ∙ c.in_ok-resolve_all.was in
    record {
      value = rw e refl;
      after = rw e (
          ap (λ (e : Emission). with_patches (blank e.patches) e) c.save.ensures
          ∙ ap (λ (e : Emission). with_patches (blank e.patches) (with_work (save_at e.work c.args.base c.args.op e.patches.failure) e)) c.resolve_all.ensures.out_after);
    }
