-- `join` links the tail of the later list to the head of the earlier.
use Rattle.std.proofs.Common.{ne_eqb}
use Rattle.patches.specs.Lists.{joined, joined_links}
use Rattle.patches.proofs.join.Goals as goal

pub returns-then-later-eq0 : goal.returns-then-later-eq0
unfolding joined joined_links
returns-then-later-eq0 c = record { value = rw c.if-later-eq0.true; work_after = rw c.if-later-eq0.true }

pub returns-then-earlier-eq0 : goal.returns-then-earlier-eq0
unfolding joined joined_links
returns-then-earlier-eq0 c = record { value = rw (ne_eqb _ _ c.if-later-eq0.false, c.if-earlier-eq0.true); work_after = rw (ne_eqb _ _ c.if-later-eq0.false, c.if-earlier-eq0.true) }

pub returns : goal.returns
unfolding joined joined_links
returns c = record { value = rw (ne_eqb _ _ c.if-later-eq0.false, ne_eqb _ _ c.if-earlier-eq0.false); work_after = rw (ne_eqb _ _ c.if-later-eq0.false, ne_eqb _ _ c.if-earlier-eq0.false) c.set_link.ensures }
