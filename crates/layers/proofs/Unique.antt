-- Any two answers that a public function's contract allows are equal: the result, and the last value of everything lent.
use mathlib.Core.Path.{refl, sym, ◌∙◌}
use Rattle.unique.proofs.Unique.{Unique, by_result, unique, plain}
use Rattle.layers.specs.contracts as crate

pub step_in_place : Unique crate.place.step_in_place.ended (λ M 𝓤 𝓛. crate.place.step_in_place.clauses 𝓛)
step_in_place = unique (plain _) (λ κs a r r' ws ws' p q. (p.0 ∙ sym q.0, λ i. (tt, (tt, (tt, (tt, ((p.1 ∙ sym q.1) i, tt)))))))

pub step_by_place : Unique crate.place.step_by_place.ended (λ M 𝓤 𝓛. crate.place.step_by_place.clauses 𝓛)
step_by_place = by_result _ (λ κs a ws ws'. refl)

pub fill_records : Unique crate.records.fill_records.ended (λ M 𝓤 𝓛. crate.records.fill_records.clauses 𝓛)
fill_records = unique (plain _) (λ κs a r r' ws ws' p q. (p.0 ∙ sym q.0, λ i. (tt, ((p.1 ∙ sym q.1) i, tt))))

pub record_at : Unique crate.records.record_at.ended (λ M 𝓤 𝓛. crate.records.record_at.clauses 𝓛)
record_at = by_result _ (λ κs a ws ws'. refl)

pub record_by_run : Unique crate.records.record_by_run.ended (λ M 𝓤 𝓛. crate.records.record_by_run.clauses 𝓛)
record_by_run = by_result _ (λ κs a ws ws'. refl)
