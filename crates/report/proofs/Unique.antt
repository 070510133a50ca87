-- Any two answers that a public function's contract allows leave the same output and the same work, at every writer and
-- whether or not a write fails. Of the writer and of the result, an error or none, the contracts say nothing.
use Prim.Native.Nat.{ℕ}
use mathlib.Core.List.{List}
use mathlib.Core.Path.{sym, ◌∙◌}
use denote.RattleType.{RattleType}
use mir.Syntax.{Dict}
use Rattle.std.specs.declared.io.traits.Write.{Ghosts}
use Rattle.unique.proofs.Unique.{UniqueIn, unique_in, plain, beside}
use Rattle.report.specs.contracts as crate

module _ (W : RattleType) (g : Ghosts W.Denot) (d : Dict) where
  pub report : UniqueIn (crate.report.ended W g d) {V = List ℕ × List ℕ} (λ κs a r ws. (ws.1.1.1.1.0, ws.1.1.1.1.1.0)) (λ M 𝓤 𝓛. crate.report.clauses W g d 𝓛)
  report = unique_in _ (beside _ (plain _)) (λ κs a r r' ws ws' p q i. ((p.0 ∙ sym q.0) i, (p.1 ∙ sym q.1) i))

  pub list : UniqueIn (crate.list.ended W g d) {V = List ℕ × List ℕ} (λ κs a r ws. (ws.1.1.0, ws.1.1.1.0)) (λ M 𝓤 𝓛. crate.list.clauses W g d 𝓛)
  list = unique_in _ (beside _ (plain _)) (λ κs a r r' ws ws' p q i. ((p.0 ∙ sym q.0) i, (p.1 ∙ sym q.1) i))
