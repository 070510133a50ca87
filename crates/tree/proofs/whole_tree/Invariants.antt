-- The loop keeps what the scan says of the tokens that are left; at most one tree more is wanted, and one primitive more met, for each token read.
use Prim.Native.Nat.{◌≤◌, ◌+◌}
use mathlib.Core.Path.{◌≡◌}
use lib.ListN.{drop}
use Rattle.tree.specs.Shape.{scan, shape_of}
use Rattle.tree.proofs.whole_tree.Given as goal

abbrev pub invariant-loop-t : goal.invariant-loop-t
invariant-loop-t l =
    (l.want ≤ l.t-index + 1) × (l.leaves ≤ l.t-index) × (shape_of l.tokens ≡ scan (drop l.t-index l.tokens) l.want l.leaves)
