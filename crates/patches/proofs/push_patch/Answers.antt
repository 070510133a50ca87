-- `push_patch` links the patch to the head of the list.
use Rattle.std.proofs.Common.{ne_eqb}
use Rattle.patches.specs.Lists.{pushed, pushed_links}
use Rattle.patches.proofs.push_patch.Goals as goal

pub returns-then-list-eq0 : goal.returns-then-list-eq0
unfolding pushed pushed_links
returns-then-list-eq0 c = record { value = rw c.if-list-eq0.true; work_after = c.set_link.ensures }

pub returns-else-list-eq0 : goal.returns-else-list-eq0
unfolding pushed pushed_links
returns-else-list-eq0 c = record { value = rw (ne_eqb _ _ c.if-list-eq0.false); work_after = c.set_link.ensures }
