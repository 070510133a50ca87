-- Any two answers that a public function's contract allows are equal: the result, and the last value of everything lent.
use mathlib.Core.Path.{refl}
use Rattle.unique.proofs.Unique.{Unique, by_result}
use Rattle.tree.specs.contracts as crate

pub whole_tree : Unique crate.whole_tree.ended (λ M 𝓤 𝓛. crate.whole_tree.clauses 𝓛)
whole_tree = by_result _ (λ κs a ws ws'. refl)
