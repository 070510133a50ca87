-- How an answer of cases crosses to C: as a status number, 0 where there is no refusal, and the number beside it.
use Rattle.std.specs.Prelude.{ℕ, ◌+◌, ◌*◌, Bool, cond, List, ltb}
use Rattle.refusals.specs.Refusal.{Answer}
use Rattle.refusals.specs.Refusal.Answer.{Refused, Given}
use Rattle.checks.specs.Measure.{measure_of}
use Rattle.checks.specs.declared.measure.Measured.{Measured}
use Rattle.capture.specs.declared.Counted.{Counted}
use Rattle.savefile.specs.declared.Header.{Header}

-- The refusal's number, or 0.
unfoldable pub status : {A : Type 0} → Answer A → ℕ
status (Refused number place) = number
status (Given x) = 0

-- The refusal's place, or L.
unfoldable pub compiled_number : Answer ℕ → ℕ
compiled_number (Refused number place) = place
compiled_number (Given l) = l

-- The refusal's place, or 1 for a frame on which the expression holds and 0 for another.
unfoldable pub verdict_number : Answer Bool → ℕ
verdict_number (Refused number place) = place
verdict_number (Given holds) = cond holds 1 0

-- The refusal's place, or the new sheet's length.
unfoldable pub pushed_number : Answer ℕ → ℕ
pushed_number (Refused number place) = place
pushed_number (Given bytes) = bytes

-- The refusal's place in the file, or the link that the file picks.
unfoldable pub opened_number : Answer Header → ℕ
opened_number (Refused number place) = place
opened_number (Given header) = header.link

-- "counts then zero".
unfoldable pub passed_count : Answer Counted → ℕ
passed_count (Refused number place) = 0
passed_count (Given c) = c.tally.passed

unfoldable pub dropped_count : Answer Counted → ℕ
dropped_count (Refused number place) = 0
dropped_count (Given c) = c.tally.dropped

unfoldable pub cut_count : Answer Counted → ℕ
cut_count (Refused number place) = 0
cut_count (Given c) = c.tally.cut

-- The refusal's place, or where to go on.
unfoldable pub captured_number : Answer Counted → ℕ
captured_number (Refused number place) = place
captured_number (Given c) = c.next

-- Refusals 1 to 6, "link or mode above 1" first; or the counts and L.
unfoldable pub asked_of : List ℕ → ℕ → ℕ → Answer Measured
asked_of s link mode = cond (ltb 1 mode) (Refused 1 0) (measure_of s link)

unfoldable pub asked_tokens : Answer Measured → ℕ
asked_tokens (Refused number place) = 0
asked_tokens (Given m) = m.counts.tokens

-- The least that is not "output below 8 x L bytes".
unfoldable pub asked_output : Answer Measured → ℕ
asked_output (Refused number place) = 0
asked_output (Given m) = 8 * m.length

-- The least that is not "work below L + 8 x tokens numbers of 32 bits".
unfoldable pub asked_work : Answer Measured → ℕ
asked_work (Refused number place) = 0
asked_work (Given m) = m.length + 8 * m.counts.tokens

-- The refusal's place, or L.
unfoldable pub asked_number : Answer Measured → ℕ
asked_number (Refused number place) = place
asked_number (Given m) = m.length

-- The version of the header and of the archive: 1,000,000 x major + 1,000 x minor + patch.
unfoldable pub version : ℕ
version = 1000
