-- A patch pushed and two lists joined: the places that the chains then have.
use Prim.Native.Nat.{ℕ, zero, suc, ◌+◌, ◌<◌, ◌≤◌}
use mathlib.Core.Path.{◌≡◌, refl, ap, ◌∙◌, subst}
use mathlib.Core.List.{List, ◌∷◌, ◌++◌}
use native.Mathlib.Omega.{arith}
use native.Mathlib.Numerals.{add-one}
use lib.ListN.{get_or, length, set}
use lib.Seq.{get_or-set_same, get_or-set_other}
use Rattle.patches.specs.Chain.{Descends, chain, chain_of}
use Rattle.patches.specs.Lists.{last_or}
use Rattle.patches.specs.Rel.{Out}
use Rattle.patches.specs.Rel.Out.{out_cons}
use Rattle.patches.proofs.Chains.{fuel, chain_set}

pub push_chain : (l : ℕ) (ls : List ℕ) (h p : ℕ) → Descends l ls → p < l → h ≤ p → p < length ls → chain_of (set ls p h) (p + 1) ≡ p ∷ chain_of ls h
unfolding chain_of chain
push_chain l ls h p d i a b =
    rw (add-one p, get_or-set_same ls p h 0 b)
    (ap (λ x. p ∷ x) (chain_set l ls p h d p h (omega arith) a ∙ fuel l ls d p h h (omega arith) a (omega arith)))

not_in : {q p : ℕ} {ps : List ℕ} → Out q (p ∷ ps) → (p ≡ q → ⊥) × Out q ps
not_in (out_cons n o) = (n, o)

pub chain_other : (ls : List ℕ) (q v n h : ℕ) → Out q (chain n ls h) → chain n (set ls q v) h ≡ chain n ls h
unfolding chain
chain_other ls q v zero h o = refl
chain_other ls q v (suc n) zero o = refl
chain_other ls q v (suc n) (suc p) o =
    let e : get_or (set ls q v) p 0 ≡ get_or ls p 0 = get_or-set_other ls q p v 0 (not_in o).0 in
    rw e (ap (λ l. p ∷ l) (chain_other ls q v n (get_or ls p 0) (not_in o).1))

last_le : (l : ℕ) (ls : List ℕ) → Descends l ls → (n p h : ℕ) → h ≤ l → h ≤ p → last_or p (chain n ls h) ≤ p
unfolding chain last_or
last_le l ls d zero p h i a = omega arith
last_le l ls d (suc n) p zero i a = omega arith
last_le l ls d (suc n) p (suc q) i a = let g : get_or ls q 0 ≤ q = d q (omega arith) in omega (arith, last_le l ls d n q (get_or ls q 0) (omega arith) g)

-- The end of a chain is linked to the head of another that lies before it.
module _ (l : ℕ) (ls : List ℕ) (d : Descends l ls) (v : ℕ) where
  at_end : (n p : ℕ) → p < l → p ≤ n → p < length ls → v ≤ p → chain n (set ls p v) (get_or (set ls p v) p 0) ≡ chain_of ls v
  unfolding chain_of
  at_end n p i a b c =
      rw (get_or-set_same ls p v 0 b) (chain_set l ls p v d n v (omega arith) c ∙ fuel l ls d n v v (omega arith) (omega arith) (omega arith))

  after : (n p g : ℕ) → get_or ls p 0 ≡ g → p < l → p ≤ n → p < length ls → v ≤ last_or p (chain n ls g)
      → chain n (set ls (last_or p (chain n ls g)) v) (get_or (set ls (last_or p (chain n ls g)) v) p 0) ≡ chain n ls g ++ chain_of ls v
  unfolding chain last_or chain_of
  after zero p zero e i a b c = at_end zero p i a b c
  after (suc n) p zero e i a b c = at_end (suc n) p i a b c
  after zero p (suc g) e i a b c = absurd (omega (arith, d p i))
  after (suc n) p (suc g) e i a b c =
      let q = last_or g (chain n ls (get_or ls g 0)) in
      let m : suc g ≤ p = subst (λ (x : ℕ). x ≤ p) e (d p i) in
      let k : get_or ls g 0 ≤ g = d g (omega arith) in
      let w : q ≤ g = last_le l ls d n g (get_or ls g 0) (omega arith) k in
      let o : get_or (set ls q v) p 0 ≡ suc g = get_or-set_other ls q p v 0 (λ x. omega arith) ∙ e in
      rw o (ap (λ x. g ∷ x) (after n g (get_or ls g 0) refl (omega arith) (omega arith) (omega arith) c))

pub join_chain : (l : ℕ) (ls : List ℕ) (h v : ℕ) → Descends l ls → h ≤ l → 0 < h → h ≤ length ls → v ≤ last_or 0 (chain_of ls h)
    → chain_of (set ls (last_or 0 (chain_of ls h)) v) h ≡ chain_of ls h ++ chain_of ls v
unfolding chain last_or chain_of
join_chain l ls zero v d i z b c = absurd (omega arith)
join_chain l ls (suc p) v d i z b c = ap (λ x. p ∷ x) (after l ls d v p p (get_or ls p 0) refl (omega arith) (omega arith) b c)
