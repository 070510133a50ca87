-- Document 01's listing program: what comes of the bytes that it reads, for output and work of these sizes.
use Rattle.std.specs.Prelude.{ℕ, List, cond, ltb, length, get_or, drop}
use Rattle.generator.specs.Compile.{Outcome, outcome_of}
use Rattle.generator.specs.Compile.Outcome.{early}

-- "Fewer than two bytes print `1 0`; past refusal 1, a longer sheet is refused 2": one of more than 65,536 bytes behind the first two.
unfoldable pub listed : List ℕ → ℕ → ℕ → Outcome
listed input output work =
    cond (ltb (length input) 2) (early 1 0)
    (cond (ltb 2 (get_or input 0 0)) (early 1 0)
    (cond (ltb 1 (get_or input 1 0)) (early 1 0)
    (cond (ltb 65538 (length input)) (early 2 0)
    (outcome_of (drop 2 input) (get_or input 0 0) (get_or input 1 0) output work))))
