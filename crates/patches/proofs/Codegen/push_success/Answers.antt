-- The jump is written, then put before the others.
use Rattle.std.proofs.Common.{ap}
use Rattle.patches.specs.Code.{Emission, emission, push1}
use Rattle.patches.specs.Lists.{pushed, pushed_links}
use Rattle.patches.proofs.Codegen.push_success.Goals as goal

pub returns : goal.returns
unfolding emission push1
returns c =
    let p = c.args.self.now.patches.pos in
    let put : Emission → Emission = λ e. record e {
      work = pushed_links e.work e.patches.success p;
      patches = record { pos = e.patches.pos; success = pushed e.patches.success p; failure = e.patches.failure };
    } in
    rw (c.push_patch-self.ensures.value, c.push_patch-self.ensures.work_after) (ap put c.push.ensures)
