-- A sheet that passes refusals 1 to 6, with its counts and L; and refusals 7 and 8, which need L.
use Rattle.std.specs.Prelude.{ℕ, ◌+◌, ◌*◌, List, cond, ltb}
use Rattle.filter.specs.Ast.{link_of}
use Rattle.filter.specs.Sheet.{steps_part, prims_part, tokens_part}
use Rattle.checks.specs.Check.{check_of}
use Rattle.checks.specs.Length.{program_length}
use Rattle.refusals.specs.Refusal.{Answer}
use Rattle.refusals.specs.Refusal.Answer.{Refused, Given}
use Rattle.filter.specs.declared.sheet.Counts.{Counts}
use Rattle.checks.specs.declared.measure.Measured.{Measured}

-- These counts, and L.
abbrev pub asks : Counts → ℕ → Measured
asks n l = record { counts = n; length = l }

unfoldable pub measured : Answer Counts → List ℕ → ℕ → Answer Measured
measured (Refused number place) s link = Refused number place
measured (Given n) s link =
    Given (asks n (program_length (link_of link) (steps_part s n.steps) (prims_part s n.steps n.prims) (tokens_part s n.steps n.prims n.tokens) n.prims n.tokens))

unfoldable pub measure_of : List ℕ → ℕ → Answer Measured
measure_of s link = measured (check_of s link) s link

-- Refusal 7: "output below 8 x L bytes"; then 8: "work below L + 8 x tokens numbers of 32 bits"
unfoldable pub roomed : Answer Measured → ℕ → ℕ → Answer Measured
roomed (Refused number place) output work = Refused number place
roomed (Given m) output work =
    cond (ltb output (8 * m.length)) (Refused 7 0) (cond (ltb work (m.length + 8 * m.counts.tokens)) (Refused 8 0) (Given m))

-- Refusals 1 to 8, in order: "a link above 2 or a mode above 1" comes first
unfoldable pub admit_of : List ℕ → ℕ → ℕ → ℕ → ℕ → Answer Measured
admit_of s link mode output work = cond (ltb 1 mode) (Refused 1 0) (roomed (measure_of s link) output work)
