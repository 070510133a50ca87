-- Any two answers that a public function's contract allows are equal.
use mathlib.Core.Path.{refl}
use Rattle.unique.proofs.Unique.{Unique, by_result}
use Rattle.refusals.specs.contracts as crate

pub number : Unique crate.Reason.number.ended (λ M 𝓤 𝓛. crate.Reason.number.clauses 𝓛)
number = by_result _ (λ κs a ws ws'. refl)

pub at : Unique crate.Reason.at.ended (λ M 𝓤 𝓛. crate.Reason.at.clauses 𝓛)
at = by_result _ (λ κs a ws ws'. refl)
