use Rattle.std.proofs.Common.{ℕ, List, ap, ◌∙◌}
use Rattle.patches.specs.Chain.{chain_of, resolved}
use Rattle.patches.specs.Code.{emission, with_out, with_work}
use Rattle.patches.proofs.Codegen.resolve_all.Goals as goal

pub returns-clause-out_after : goal.returns-clause-out_after
unfolding emission
returns-clause-out_after c =
    let e = emission c.args.self.now in
    let told = c.resolve_in.ensures in
    ap (λ (out : List ℕ). with_out out (with_work c.resolve_in.new.work e)) told.out_after
    ∙ ap (λ (work : List ℕ). with_out (resolved c.args.target (chain_of e.work c.args.head) e.out) (with_work work e)) told.work_unchanged
