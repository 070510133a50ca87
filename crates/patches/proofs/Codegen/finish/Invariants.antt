-- `finish` closes operators: what is left ends as the first reading does.
use Rattle.std.proofs.Common.{ℕ, ◌+◌, ◌*◌, ◌≤◌, List, length}
use Rattle.patches.specs.Code.{Emission, emission}
use Rattle.patches.specs.Rel.{Frame, Rel, owed}
use Rattle.patches.specs.Finish.{finish_ops}
use Rattle.patches.specs.Same.{SameFrom, Kept}
use Rattle.patches.proofs.Finishes.{Now}
use Rattle.patches.proofs.Codegen.finish.Given as goal

pub record Inv (y₀ : Emission) (l height : ℕ) (y : Emission) (n : ℕ) : Type 0 where
  pub every : (fs : List Frame) (sp fp : List ℕ) (lo : ℕ) → Rel l y₀.work height y₀.patches fs sp fp lo → y₀.patches.pos + owed fs ≤ l
      → Now l (finish_ops fs y₀.patches.pos y₀.out sp fp) y n
  pub room : l + 3 * n ≤ length y.work
  pub n_in : n ≤ height
  pub outs : 8 * l ≤ length y.out
  pub kept : Kept y₀ y
  pub same_from : SameFrom (8 * l) y₀.out y.out
  pub same_from_2 : SameFrom (l + 3 * height) y₀.work y.work

abbrev pub invariant-loop-n : goal.invariant-loop-n
invariant-loop-n l = Inv (emission l.initial.self) l.l l.height (emission l.self) l.n

abbrev pub decreases-loop-n : goal.decreases-loop-n
decreases-loop-n l = l.n
