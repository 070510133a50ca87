-- `land` resolves the successes.
use Rattle.std.proofs.Common.{◌≡◌, Ok, Err, rules, refl, sym, ap, ◌∙◌}
use Rattle.patches.specs.Code.{Emission, emission, with_patches}
use Rattle.patches.specs.Operators.{lands, landed, land_of}
use Rattle.patches.proofs.Codegen.land.Goals as goal

pub returns-in_err-resolve_all : goal.returns-in_err-resolve_all
unfolding emission land_of
returns-in_err-resolve_all c =
    let e : lands (emission c.args.self.now) ≡ Err c.in_err-resolve_all.field-0.0 = sym c.resolve_all.ensures.value ∙ c.in_err-resolve_all.was in
    record { value = rw e (search rules); after = rw e c.resolve_all.ensures.out_after }

pub returns : goal.returns
unfolding emission land_of
returns c =
    let e : lands (emission c.args.self.now) ≡ Ok tt = sym c.resolve_all.ensures.value ∙ c.in_ok-resolve_all.was in
    record { value = rw e refl; after = rw e (ap (λ (e : Emission). with_patches (landed e.patches) e) c.resolve_all.ensures.out_after) }
