-- What it is that a contract allows one answer only. An answer is a result with the last value of everything lent mutably.
use mathlib.Core.Path.{◌≡◌, sym, ◌∙◌}
use mathlib.Core.Logic.{∥∥₁_prop, ∥∥₁_elim, ∥∥₁_map}
use seplogic.Ra.Ura.{Ura}
use seplogic.Bi.Sat
use seplogic.Bi.Sat.{Sat}
use base.Logic.{SProp, ent, sep, emp, id⊢, via, fst∗, snd∗, Sat_exists}
use prog.Memory.{Memory}
use prog.Routine.{Routine}
use types.Logic.{Logic}
use contract.Lifetimes.{Lfts}
use contract.Monad.{Fun, fact, fact_use, fact_i}
use denote.Triple.Entry.{Args, Res}
use denote.Triple.Clauses.{Ended, Lasts, AtExit, at_exit, Clauses}

-- A function's contract as the check makes it of the source, in every model of the logic.
abbrev pub Contract : Ended → Type 2
Contract T = (M : Type 1) (𝓤 : Ura M) (𝓛 : Logic 𝓤) → (Memory → SProp 𝓤) → (Routine → Fun 𝓤) → Clauses 𝓤 T

-- Two answers, to the same arguments, of each of which the `ensures` can hold (in any states, whatever `requires` says) are equal.
pub record Unique (T : Ended) (c : Contract T) : Type 2 where
  pub equal : (M : Type 1) (𝓤 : Ura M) (𝓛 : Logic 𝓤) (mem : Memory → SProp 𝓤) (run : Routine → Fun 𝓤)
      (κs : Lfts T.signature.lifetimes) (a : Args T.signature κs) (g g' : (c M 𝓤 𝓛 mem run κs a).ghost)
      (r r' : Res T.signature κs) (ws ws' : Lasts T κs a)
      → Sat 𝓤.op ((c M 𝓤 𝓛 mem run κs a).ensures g r (at_exit T κs a ws))
      → Sat 𝓤.op ((c M 𝓤 𝓛 mem run κs a).ensures g' r' (at_exit T κs a ws'))
      → ∥ (r ≡ r') × (ws ≡ ws') ∥₁

-- What is asked of an answer, where not all of it is fixed: as what a result that borrows holds, and not where that lies.
abbrev pub Seen : Ended → Type 0 → Type 0
Seen T V = (κs : Lfts T.signature.lifetimes) (a : Args T.signature κs) → Res T.signature κs → Lasts T κs a → V

-- Two answers, as before, are the same in what is asked of them.
pub record UniqueIn (T : Ended) {V : Type 0} (seen : Seen T V) (c : Contract T) : Type 2 where
  pub equal : (M : Type 1) (𝓤 : Ura M) (𝓛 : Logic 𝓤) (mem : Memory → SProp 𝓤) (run : Routine → Fun 𝓤)
      (κs : Lfts T.signature.lifetimes) (a : Args T.signature κs) (g g' : (c M 𝓤 𝓛 mem run κs a).ghost)
      (r r' : Res T.signature κs) (ws ws' : Lasts T κs a)
      → Sat 𝓤.op ((c M 𝓤 𝓛 mem run κs a).ensures g r (at_exit T κs a ws))
      → Sat 𝓤.op ((c M 𝓤 𝓛 mem run κs a).ensures g' r' (at_exit T κs a ws'))
      → ∥ seen κs a r ws ≡ seen κs a r' ws' ∥₁

module _ (T : Ended) where
  -- What a `requires` and an `ensures` say, and a plain fact of an answer.
  abbrev pub Asks : Type 2
  Asks = (M : Type 1) (𝓤 : Ura M) (κs : Lfts T.signature.lifetimes) → Args T.signature κs → SProp 𝓤

  abbrev pub Says : Type 2
  Says = (M : Type 1) (𝓤 : Ura M) (κs : Lfts T.signature.lifetimes) → Args T.signature κs → Res T.signature κs → AtExit T κs → SProp 𝓤

  abbrev pub Fact : Type 1
  Fact = (κs : Lfts T.signature.lifetimes) → Args T.signature κs → Res T.signature κs → AtExit T κs → Type 0

  abbrev pub contract_of : Asks → Says → Contract T
  contract_of R E M 𝓤 𝓛 mem run κs a = record { ghost = Unit {0}; requires = λ g. R M 𝓤 κs a; ensures = λ g r e. E M 𝓤 κs a r e }

  -- The fact holds of one answer only.
  abbrev pub Fixes : Fact → Type 0
  Fixes φ = (κs : Lfts T.signature.lifetimes) (a : Args T.signature κs) (r r' : Res T.signature κs) (ws ws' : Lasts T κs a)
      → φ κs a r (at_exit T κs a ws) → φ κs a r' (at_exit T κs a ws') → (r ≡ r') × (ws ≡ ws')

-- What is said tells a fact: one `ensures` is the fact, and each further one stands beside it.
pub record Tells (T : Ended) (E : Says T) (φ : Fact T) : Type 2 where
  pub told : (M : Type 1) (𝓤 : Ura M) (κs : Lfts T.signature.lifetimes) (a : Args T.signature κs) (r : Res T.signature κs) (e : AtExit T κs)
      → ent 𝓤 (E M 𝓤 κs a r e) (fact 𝓤 (φ κs a r e))

pub plain : {T : Ended} (φ : Fact T) → Tells T (λ M 𝓤 κs a r e. fact 𝓤 (φ κs a r e)) φ
plain φ = record { told = λ M 𝓤 κs a r e. id⊢ 𝓤 (fact 𝓤 (φ κs a r e)) }

pub beside : {T : Ended} (φ : Fact T) {E : Says T} {ψ : Fact T} → Tells T E ψ
    → Tells T (λ M 𝓤 κs a r e. sep 𝓤 (fact 𝓤 (φ κs a r e)) (E M 𝓤 κs a r e)) (λ κs a r e. φ κs a r e × ψ κs a r e)
beside φ {E} {ψ} t = record {
  told = λ M 𝓤 κs a r e.
      fact_use 𝓤 (φ κs a r e) (fst∗ 𝓤 (fact 𝓤 (φ κs a r e)) (E M 𝓤 κs a r e)) (λ p.
      fact_use 𝓤 (ψ κs a r e) (via 𝓤 (E M 𝓤 κs a r e) (snd∗ 𝓤 (fact 𝓤 (φ κs a r e)) (E M 𝓤 κs a r e)) (t.told M 𝓤 κs a r e)) (λ q.
      fact_i 𝓤 (φ κs a r e × ψ κs a r e) _ (p, q)));
}

-- What an answer tells is so.
known : {T : Ended} {E : Says T} {φ : Fact T} → Tells T E φ
    → (M : Type 1) (𝓤 : Ura M) (κs : Lfts T.signature.lifetimes) (a : Args T.signature κs) (r : Res T.signature κs) (ws : Lasts T κs a)
    → Sat 𝓤.op (E M 𝓤 κs a r (at_exit T κs a ws)) → ∥ φ κs a r (at_exit T κs a ws) ∥₁
known {T} {E} {φ} t M 𝓤 κs a r ws s =
    ∥∥₁_map (Sat_exists {0} 𝓤 {A = φ κs a r (at_exit T κs a ws)} (λ _. emp 𝓤) (Sat.mono 𝓤.op (t.told M 𝓤 κs a r (at_exit T κs a ws)) s)) (λ p. p.0)

-- A contract that tells a fact which holds of one answer only allows one answer only.
pub unique : {T : Ended} {R : Asks T} {E : Says T} {φ : Fact T} → Tells T E φ → Fixes T φ → Unique T (contract_of T R E)
unique {T} {R} {E} {φ} t fixes = record {
  equal = λ M 𝓤 𝓛 mem run κs a g g' r r' ws ws' s s'.
      ∥∥₁_elim (known t M 𝓤 κs a r ws s) ∥∥₁_prop (λ p. ∥∥₁_map (known t M 𝓤 κs a r' ws' s') (λ q. fixes κs a r r' ws ws' p q));
}

-- One that tells a fact which fixes what is asked allows only answers that are the same in it.
pub unique_in : {T : Ended} {R : Asks T} {E : Says T} {φ : Fact T} {V : Type 0} (seen : Seen T V) → Tells T E φ
    → ((κs : Lfts T.signature.lifetimes) (a : Args T.signature κs) (r r' : Res T.signature κs) (ws ws' : Lasts T κs a)
    → φ κs a r (at_exit T κs a ws) → φ κs a r' (at_exit T κs a ws') → seen κs a r ws ≡ seen κs a r' ws')
    → UniqueIn T seen (contract_of T R E)
unique_in {T} {R} {E} {φ} seen t fixes = record {
  equal = λ M 𝓤 𝓛 mem run κs a g g' r r' ws ws' s s'.
      ∥∥₁_elim (known t M 𝓤 κs a r ws s) ∥∥₁_prop (λ p. ∥∥₁_map (known t M 𝓤 κs a r' ws' s') (λ q. fixes κs a r r' ws ws' p q));
}

-- The case of most functions: the result is what a definition says, and nothing is lent mutably (`unlent`).
pub by_result : {T : Ended} {R : Asks T} (D : (κs : Lfts T.signature.lifetimes) → Args T.signature κs → Res T.signature κs)
    → ((κs : Lfts T.signature.lifetimes) (a : Args T.signature κs) (ws ws' : Lasts T κs a) → ws ≡ ws')
    → Unique T (contract_of T R (λ M 𝓤 κs a r e. fact 𝓤 (r ≡ D κs a)))
by_result D unlent = unique (plain (λ κs a r e. r ≡ D κs a)) (λ κs a r r' ws ws' p q. (p ∙ sym q, unlent κs a ws ws'))
