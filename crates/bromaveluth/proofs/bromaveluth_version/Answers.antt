-- The number that is written.
use mathlib.Core.Path.{refl}
use Rattle.bromaveluth.specs.Boundary.{version}
use Rattle.bromaveluth.proofs.bromaveluth_version.Goals as goal

pub returns : goal.returns
unfolding version
returns c = refl
