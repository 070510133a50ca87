-- Any two answers that a public function's contract allows are equal.
use mathlib.Core.Path.{refl, sym, ◌∙◌}
use Rattle.unique.proofs.Unique.{Unique, unique, plain}
use Rattle.refusals.proofs.Numbers.{one_told}
use Rattle.savefile.specs.contracts as crate

pub open_header : Unique crate.open_header.ended (λ M 𝓤 𝓛. crate.open_header.clauses 𝓛)
open_header = unique (plain _) (λ κs a r r' ws ws' p q. (one_told r r' (p ∙ sym q), refl))

pub next_of : Unique crate.next_of.ended (λ M 𝓤 𝓛. crate.next_of.clauses 𝓛)
next_of = unique (plain _) (λ κs a r r' ws ws' p q. (one_told r r' (p ∙ sym q), refl))

pub open_file : Unique crate.open_file.ended (λ M 𝓤 𝓛. crate.open_file.clauses 𝓛)
open_file = unique (plain _) (λ κs a r r' ws ws' p q. (one_told r r' (p ∙ sym q), refl))
