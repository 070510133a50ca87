-- Any two answers that a public function's contract allows are equal: the result, and the last value of everything lent.
use mathlib.Core.Path.{sym, ◌∙◌}
use Rattle.unique.proofs.Unique.{Unique, unique, plain, beside}
use Rattle.refusals.proofs.Numbers.{one_told}
use Rattle.nots.specs.contracts as crate

pub push_nots : Unique crate.push_nots.ended (λ M 𝓤 𝓛. crate.push_nots.clauses 𝓛)
push_nots = unique (beside _ (plain _)) (λ κs a r r' ws ws' p q. (one_told r r' (p.0 ∙ sym q.0), λ i. (tt, ((p.1 ∙ sym q.1) i, tt))))
