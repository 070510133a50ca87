-- Any two answers that a public function's contract allows are equal: the result, and the last value of everything lent.
use mathlib.Core.Path.{sym, ◌∙◌}
use Rattle.patches.proofs.Blocks.{same_code}
use mathlib.Core.Path.{refl}
use Rattle.unique.proofs.Unique.{Unique, unique, plain}
use Rattle.codegen.specs.contracts as crate

pub emit_primitive : Unique crate.primitive.emit_primitive.ended (λ M 𝓤 𝓛. crate.primitive.emit_primitive.clauses 𝓛)
emit_primitive = unique (plain _) (λ κs a r r' ws ws' p q. (refl, λ i. (same_code (p ∙ sym q) i, (tt, (tt, (tt, tt))))))
