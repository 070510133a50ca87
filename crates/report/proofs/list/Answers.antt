-- What is refused here leaves output and work as they were.
use Rattle.std.proofs.Common.{◌<◌, length, refl, arith, lt-ltb, le-ltb, length-take, length-drop}
use Rattle.generator.specs.Compile.{output_after, work_after}
use Rattle.report.specs.Listing.{listed}
use Rattle.report.proofs.list.Goals.{then-link-gt2-via-then-link-gt2, then-link-gt2-via-else-link-gt2+then-mode-gt1}
use Rattle.report.proofs.list.Goals as goal

pub returns-in_default : goal.returns-in_default
unfolding listed output_after work_after
returns-in_default g c = rw (lt-ltb _ _ c.in_default.len_below) (record { output_after = refl; work_after = refl })

pub returns-then-link-gt2 : goal.returns-then-link-gt2
unfolding listed output_after work_after
returns-then-link-gt2 g c =
    elim c.then-link-gt2.branch [
      | then-link-gt2-via-then-link-gt2 w ↦
          rw (le-ltb _ _ c.in-len2-up.len_at_least, lt-ltb _ _ w.if-link-gt2.true) (record { output_after = refl; work_after = refl })
      | then-link-gt2-via-else-link-gt2+then-mode-gt1 w ↦
          rw (le-ltb _ _ c.in-len2-up.len_at_least, le-ltb _ _ w.if-link-gt2.false, lt-ltb _ _ w.if-mode-gt1.true) (record { output_after = refl; work_after = refl })
    ]

pub returns-then-sheet-gt65536 : goal.returns-then-sheet-gt65536
unfolding listed output_after work_after
returns-then-sheet-gt65536 g c =
    let long : 65538 < length c.args.input.now = omega (arith, simp (length-take, length-drop) at c.if-sheet-gt65536.true) in
    rw (le-ltb _ _ c.in-len2-up.len_at_least, le-ltb _ _ c.if-link-gt2.false, le-ltb _ _ c.if-mode-gt1.false, lt-ltb _ _ long) (record { output_after = refl; work_after = refl })
