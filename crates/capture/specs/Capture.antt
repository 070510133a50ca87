-- One filter over a capture: its classes of records, counted over the file itself (document 02, A1).
use Rattle.std.specs.Prelude.{ℕ, ◌+◌, ◌/◌, ◌<◌, ◌^◌, ◌≡◌, Bool, not, cond, ◌&&◌, List, [], length, get_or, eqb}
use Rattle.ebpf.specs.Run.{run_of}
use Rattle.program.specs.Program.{code_of}
use Rattle.patches.specs.Listing.CompL.{stopped_l, made_l}
use Rattle.savefile.specs.Savefile.{Rec, Walk, is_cut, frame_of, counted, walk_of, header_of, opened_of}
use Rattle.refusals.specs.Refusal.{Answer}
use Rattle.refusals.specs.Refusal.Answer.{Refused, Given}
use Rattle.savefile.specs.declared.Header.{Header}
use Rattle.savefile.specs.declared.Record.{Record}
use Rattle.generator.specs.Compile.{Outcome, outcome_of, answer_of, output_after, work_after}
use Rattle.generator.specs.Compile.Outcome.{early, late}
use Rattle.sound.specs.Demand.{sheet_holds}
use Rattle.capture.specs.declared.Tally.{Tally}
use Rattle.capture.specs.declared.Counted.{Counted}

-- The bytes of the program that `compile` makes, if it makes one.
unfoldable pub program_of : Outcome → List ℕ
program_of (early number place) = []
program_of (late l c (stopped_l number place)) = []
program_of (late l c (made_l is)) = code_of is

-- What a program says of a record's frame, by R0; the frame stands at 0 on the machine.
unfoldable pub accepts : List ℕ → List ℕ → Rec → Bool
accepts program file r = eqb (run_of program (frame_of file r) 0 (length program / 8)).r0 2

-- "how many frames passed, dropped, and were cut"; "a cut frame isn't judged".
unfoldable pub is_passed : List ℕ → List ℕ → Rec → Bool
is_passed program file r = not (is_cut r) && accepts program file r

unfoldable pub is_dropped : List ℕ → List ℕ → Rec → Bool
is_dropped program file r = not (is_cut r) && not (accepts program file r)

unfoldable pub tallied : List ℕ → List ℕ → List Rec → Tally
tallied program file rs =
    record { passed = counted (is_passed program file) rs; dropped = counted (is_dropped program file) rs; cut = counted is_cut rs }

-- The counts of a walk without fault and where to go on; or the fault, and where its record starts.
unfoldable pub judged_walk : List ℕ → List ℕ → Walk → Answer Counted
judged_walk program file w = cond (eqb w.fault 0) (Given (record { tally = tallied program file w.records; next = w.next })) (Refused w.fault w.next)

-- One of document 01's refusals comes before the records.
abbrev pub unless_refused : Answer ℕ → Answer Counted → Answer Counted
unless_refused (Refused number place) r = Refused number place
unless_refused (Given l) r = r

-- For a sheet, a mode, so many bytes of output and so many numbers of work: at most `most` records of a file from the place `at` on.
unfoldable pub judged_from : Header → List ℕ → List ℕ → ℕ → ℕ → ℕ → ℕ → ℕ → Answer Counted
judged_from header file sheet mode output work at most =
    let o = outcome_of sheet header.link mode output work in
    unless_refused (answer_of o) (judged_walk (program_of o) file (walk_of most header.order file at))

-- "The link type field picks the link for which the sheet is compiled."
abbrev pub judged_in : Answer Header → List ℕ → List ℕ → ℕ → ℕ → ℕ → ℕ → ℕ → Answer Counted
judged_in (Given header) file sheet mode output work at most = judged_from header file sheet mode output work at most
judged_in (Refused number place) file sheet mode output work at most = Refused number place

-- A part of a file: its header, then the sheet, then at most `most` records from the place `at` on.
unfoldable pub part_of : List ℕ → List ℕ → ℕ → ℕ → ℕ → ℕ → ℕ → Answer Counted
part_of file sheet mode output work at most = judged_in (header_of file) file sheet mode output work at most

-- The whole file: 40 to 43 "looked for in file order through the whole file, then document 01's".
unfoldable pub captured_of : List ℕ → List ℕ → ℕ → ℕ → ℕ → Answer Counted
captured_of file sheet mode output work = judged_in (opened_of file) file sheet mode output work 24 (length file)

-- "40 to 43 touch no buffer"; else output and work are what `compile` leaves.
unfoldable pub output_in : Answer Header → List ℕ → ℕ → ℕ → List ℕ → List ℕ
output_in (Given header) sheet mode work output = output_after (outcome_of sheet header.link mode (length output) work) output
output_in (Refused number place) sheet mode work output = output

unfoldable pub work_in : Answer Header → List ℕ → ℕ → ℕ → List ℕ → List ℕ
work_in (Given header) sheet mode output work = work_after (outcome_of sheet header.link mode output (length work)) work
work_in (Refused number place) sheet mode output work = work

-- "Demand 3 holds for each judged frame": a record that is not cut and on whose frame the sheet's expression holds, or does not.
unfoldable pub holds_on : List ℕ → ℕ → List ℕ → Rec → Bool
holds_on sheet link file r = not (is_cut r) && sheet_holds sheet link (frame_of file r)

unfoldable pub fails_on : List ℕ → ℕ → List ℕ → Rec → Bool
fails_on sheet link file r = not (is_cut r) && not (sheet_holds sheet link (frame_of file r))

-- The program exits on every frame of bytes.
abbrev pub Always : List ℕ → Type 0
Always program = (frame : List ℕ) → ((p : ℕ) → get_or frame p 0 < 256) → length frame < 2 ^ 32 → (run_of program frame 0 (length program / 8)).stop ≡ 0

-- One record more.
unfoldable pub added : List ℕ → List ℕ → Rec → Tally → Tally
added program file r t =
    record {
      passed = t.passed + cond (is_passed program file r) 1 0;
      dropped = t.dropped + cond (is_dropped program file r) 1 0;
      cut = t.cut + cond (is_cut r) 1 0;
    }

abbrev pub rec_at : ℕ → Record → Rec
rec_at from r = record { from = from; captured = r.captured; original = r.original }
