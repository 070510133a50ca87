-- What a filter says of one frame.
use Rattle.std.specs.Prelude.{ℕ, ◌^◌, Bool, cond, ltb, Result, Ok, Err}
use Rattle.refusals.specs.Refusal.{Answer, number_of}
use Rattle.refusals.specs.Refusal.Answer.{Refused as refused, Given}
use Rattle.gateway.specs.declared.Verdict.{Verdict}
use Rattle.gateway.specs.declared.Verdict.TheVariants as verdict
use Rattle.gateway.specs.declared.Unjudged.{Unjudged}
use Rattle.gateway.specs.declared.Unjudged.TheVariants as unjudged

-- A refusal's number and place, a frame longer than the machine takes, or the verdict.
pub data Judged : Type 0 where
  Refused : ℕ → ℕ → Judged
  Long : Judged
  Pass : Judged
  Drop : Judged

-- What a result says in these words.
abbrev pub judged : Result Verdict Unjudged → Judged
judged (Ok verdict.Pass) = Pass
judged (Ok verdict.Drop) = Drop
judged (Err (unjudged.Refused refusal)) = Refused (number_of refusal.reason) refusal.place
judged (Err unjudged.Long) = Long

-- The refusal that `compile` gives; else, for a frame below 2^32 bytes, pass exactly when the expression holds.
unfoldable pub judged_of : Answer ℕ → ℕ → Bool → Judged
judged_of (refused number place) size holds = Refused number place
judged_of (Given l) size holds = cond (ltb size (2 ^ 32)) (cond holds Pass Drop) Long
