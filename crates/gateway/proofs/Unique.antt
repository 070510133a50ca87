-- Any two answers that a public function's contract allows are equal: the result, and the last value of everything lent.
use mathlib.Core.Path.{refl, sym, ◌∙◌}
use Rattle.unique.proofs.Unique.{Unique, unique, by_result, plain, beside}
use Rattle.gateway.proofs.Judges.{one_judged}
use Rattle.gateway.specs.contracts as crate

pub from : Unique crate.UnjudgedFromRefusal.from.ended (λ M 𝓤 𝓛. crate.UnjudgedFromRefusal.from.clauses 𝓛)
from = by_result _ (λ κs a ws ws'. refl)

pub judge : Unique crate.judge.ended (λ M 𝓤 𝓛. crate.judge.clauses 𝓛)
judge = unique (beside _ (beside _ (plain _))) (λ κs a r r' ws ws' p q. (one_judged r r' (p.0 ∙ sym q.0), λ i. (tt, (tt, (tt, ((p.1.0 ∙ sym q.1.0) i, ((p.1.1 ∙ sym q.1.1) i, tt)))))))
