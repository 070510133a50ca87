-- The program lies within the output.
use Rattle.std.proofs.Common.{ℕ, sym, arith, length, length-take}
use Rattle.report.proofs.Room.{program_room}
use Rattle.report.proofs.report.Goals as goal

pub slice_bounds-print_program-end-in-Ok : goal.slice_bounds-print_program-end-in-Ok
slice_bounds-print_program-end-in-Ok g c =
    let a = c.args in
    let m = sym c.in-Ok.ensures.value in
    omega (arith, length-take {A = ℕ}, program_room a.sheet.now a.link a.mode (length a.output.now) (length a.work.now) _ m)
