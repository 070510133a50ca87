-- Any two answers that a public function's contract allows are equal: the result, and the last value of everything lent.
use mathlib.Core.Path.{refl, sym, ◌∙◌}
use Rattle.unique.proofs.Unique.{Unique, unique, by_result, plain, beside}
use Rattle.patches.proofs.Blocks.{same_code}
use Rattle.patches.specs.contracts as crate

pub from : Unique crate.RefusalFromTooFar.from.ended (λ M 𝓤 𝓛. crate.RefusalFromTooFar.from.clauses 𝓛)
from = by_result _ (λ κs a ws ws'. refl)

pub push : Unique crate.Codegen.push.ended (λ M 𝓤 𝓛. crate.Codegen.push.clauses 𝓛)
push = unique (plain _) (λ κs a r r' ws ws' p q. (refl, λ i. (same_code (p ∙ sym q) i, (tt, tt))))

pub push_jump : Unique crate.Codegen.push_jump.ended (λ M 𝓤 𝓛. crate.Codegen.push_jump.clauses 𝓛)
push_jump = unique (plain _) (λ κs a r r' ws ws' p q. (refl, λ i. (same_code (p ∙ sym q) i, (tt, (tt, tt)))))

pub push_success : Unique crate.Codegen.push_success.ended (λ M 𝓤 𝓛. crate.Codegen.push_success.clauses 𝓛)
push_success = unique (plain _) (λ κs a r r' ws ws' p q. (refl, λ i. (same_code (p ∙ sym q) i, (tt, tt))))

pub push_failure : Unique crate.Codegen.push_failure.ended (λ M 𝓤 𝓛. crate.Codegen.push_failure.clauses 𝓛)
push_failure = unique (plain _) (λ κs a r r' ws ws' p q. (refl, λ i. (same_code (p ∙ sym q) i, (tt, tt))))

pub Codegen-save : Unique crate.Codegen.save.ended (λ M 𝓤 𝓛. crate.Codegen.save.clauses 𝓛)
Codegen-save = unique (plain _) (λ κs a r r' ws ws' p q. (refl, λ i. (same_code (p ∙ sym q) i, (tt, (tt, (tt, tt))))))

pub Codegen-resolve_all : Unique crate.Codegen.resolve_all.ended (λ M 𝓤 𝓛. crate.Codegen.resolve_all.clauses 𝓛)
Codegen-resolve_all = unique (beside _ (plain _)) (λ κs a r r' ws ws' p q. (p.0 ∙ sym q.0, λ i. (same_code (p.1 ∙ sym q.1) i, (tt, (tt, (tt, tt))))))

pub resolve_all : Unique crate.resolve_all.ended (λ M 𝓤 𝓛. crate.resolve_all.clauses 𝓛)
resolve_all = unique (beside _ (plain _)) (λ κs a r r' ws ws' p q. (p.0 ∙ sym q.0, λ i. ((p.1 ∙ sym q.1) i, (tt, (tt, (tt, (tt, tt)))))))

pub save : Unique crate.save.ended (λ M 𝓤 𝓛. crate.save.clauses 𝓛)
save = unique (plain _) (λ κs a r r' ws ws' p q. (refl, λ i. ((p ∙ sym q) i, (tt, (tt, (tt, tt))))))
