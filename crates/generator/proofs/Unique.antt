-- Any two answers that a public function's contract allows are equal: the result, and the last value of everything lent.
use mathlib.Core.Path.{sym, ◌∙◌}
use Rattle.unique.proofs.Unique.{Unique, unique, plain, beside}
use Rattle.refusals.proofs.Numbers.{one_told}
use Rattle.generator.specs.contracts as crate

pub compile : Unique crate.compile.ended (λ M 𝓤 𝓛. crate.compile.clauses 𝓛)
compile = unique (beside _ (beside _ (plain _))) (λ κs a r r' ws ws' p q. (one_told r r' (p.0 ∙ sym q.0), λ i. (tt, (tt, (tt, ((p.1.0 ∙ sym q.1.0) i, ((p.1.1 ∙ sym q.1.1) i, tt)))))))
