-- The step after a primitive's own is the first of the next, and no later than the last of all.
use Rattle.std.proofs.Common.{◌≡◌, ◌+◌, ◌≤◌, arith, le-ltb, lt-ltb}
use Rattle.checks.specs.Check.{steps_before}
use Rattle.checks.proofs.Checks.{before_more}
use Rattle.meaning.specs.Evaluate.{primitive_holds}
use Rattle.meaning.specs.Walk.{leaf_of}
use Rattle.meaning.proofs.Parts.{before_grows}
use Rattle.meaning.proofs.walk.leaf_at.Goals as goal

pub returns-then-from-k : goal.returns-then-from-k
unfolding leaf_of
returns-then-from-k c = rw (le-ltb c.args.spot.prim c.args.count (omega arith), c.at.ensures)

pub overflow_add-next-2 : goal.overflow_add-next-2
overflow_add-next-2 c =
    let a = c.args in
    let s = a.parts.now.prims.now in
    let more : steps_before s (a.spot.prim + 1) ≤ steps_before s a.count = before_grows s (a.spot.prim + 1) a.count (omega arith) in
    omega (arith, before_more s a.spot.prim)

pub returns : goal.returns
unfolding leaf_of primitive_holds
returns c =
    let a = c.args in
    let s = a.parts.now.prims.now in
    let first = c.requires.0 in
    let step : a.spot.step + c.from-taken.result ≡ steps_before s (a.spot.prim + 1) = omega (arith, before_more s a.spot.prim) in
    rw (lt-ltb a.spot.prim a.count (omega arith), ← step, ← first, ← c.primitive_at-prim.ensures, ← c.means-holds.ensures)
