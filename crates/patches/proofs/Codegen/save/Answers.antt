use Rattle.std.proofs.Common.{ℕ, List, ap}
use Rattle.patches.specs.Code.{emission, with_work}
use Rattle.patches.proofs.Codegen.save.Goals as goal

pub returns : goal.returns
unfolding emission
returns c = ap (λ (work : List ℕ). with_work work (emission c.args.self.now)) c.save.ensures
