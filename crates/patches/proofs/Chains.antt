-- Chains: how far they are followed, what a write does to them, one turn of `resolve_all`.
use Prim.Native.Nat.{ℕ, zero, suc, ◌-◌, ◌<◌, ◌≤◌}
use mathlib.Core.Path.{◌≡◌, refl, ap, ◌∙◌}
use mathlib.Core.List.{List, [], ◌∷◌}
use mathlib.Core.Bool.{Bool, true, false}
use native.Mathlib.Omega.{arith}
use borrow.Author.Tests.{lt-ltb, le-ltb, eqb-true, eqb-false, leb-true, leb-false}
use lib.Dec.{eqb, leb}
use lib.ListN.{get_or, length, set}
use lib.Seq.{get_or-set_same, get_or-set_other, set_out}
use Rattle.std.specs.Prelude.{Err}
use Rattle.patches.specs.Chain.{Descends, too_far, chain, chain_of, put_off, resolved, reach}

-- A chain that descends has no more places than its head says: any larger number follows it to its end.
pub fuel : (l : ℕ) (ls : List ℕ) → Descends l ls → (n m h : ℕ) → h ≤ l → h ≤ n → h ≤ m → chain n ls h ≡ chain m ls h
unfolding chain
fuel l ls d zero zero h i a b = refl
fuel l ls d zero (suc m) zero i a b = refl
fuel l ls d zero (suc m) (suc p) i a b = absurd (omega arith)
fuel l ls d (suc n) zero zero i a b = refl
fuel l ls d (suc n) zero (suc p) i a b = absurd (omega arith)
fuel l ls d (suc n) (suc m) zero i a b = refl
fuel l ls d (suc n) (suc m) (suc p) i a b =
    ap (λ x. p ∷ x) (let g : get_or ls p 0 ≤ p = d p (omega arith) in fuel l ls d n m (get_or ls p 0) (omega arith) (omega arith) (omega arith))

-- A link that is set descends still.
pub descends_set : (l : ℕ) (ls : List ℕ) (p v : ℕ) → Descends l ls → v ≤ p → Descends l (set ls p v)
descends_set l ls p v d h q i = go (eqb q p) refl (leb (length ls) p) refl
  where
    go : (b : Bool) → eqb q p ≡ b → (c : Bool) → leb (length ls) p ≡ c → get_or (set ls p v) q 0 ≤ q
    go true e true f = rw (set_out ls p v (leb-true _ _ f)) (d q i)
    go true e false f = rw (eqb-true q p e, get_or-set_same ls p v 0 (leb-false _ _ f)) h
    go false e c f = rw (get_or-set_other ls p q v 0 (eqb-false q p e)) (d q i)

-- A link at the head or later is none of the chain.
pub chain_set : (l : ℕ) (ls : List ℕ) (p v : ℕ) → Descends l ls → (n h : ℕ) → h ≤ l → h ≤ p → chain n (set ls p v) h ≡ chain n ls h
unfolding chain
chain_set l ls p v d zero h i a = refl
chain_set l ls p v d (suc n) zero i a = refl
chain_set l ls p v d (suc n) (suc q) i a =
    let e : get_or (set ls p v) q 0 ≡ get_or ls q 0 = get_or-set_other ls p q v 0 (λ x. omega arith) in
    rw e (let g : get_or ls q 0 ≤ q = d q (omega arith) in ap (λ x. q ∷ x) (chain_set l ls p v d n (get_or ls q 0) (omega arith) (omega arith)))

-- The first place of a chain, and the rest.
pub look : (l : ℕ) (ls : List ℕ) (h : ℕ) → Descends l ls → h ≤ l → 0 < h → chain_of ls h ≡ (h - 1) ∷ chain_of ls (get_or ls (h - 1) 0)
unfolding chain_of chain
look l ls h d i z =
    let e : h ≡ suc (h - 1) = omega arith in
    let g : get_or ls (h - 1) 0 ≤ h - 1 = d (h - 1) (omega arith) in
    ap (λ k. chain k ls k) e
    ∙ ap (λ x. (h - 1) ∷ x) (fuel l ls d (h - 1) (get_or ls (h - 1) 0) (get_or ls (h - 1) 0) (omega arith) g (omega arith))

back : (t h : ℕ) → 0 < h → t - suc (h - 1) ≡ t - h
back t h z = omega arith

module _ (t l : ℕ) (ls o : List ℕ) (h : ℕ) (d : Descends l ls) (i : h ≤ l) (z : 0 < h) where
  pub resolved_look : t - h ≤ 32767 → resolved t (chain_of ls h) o ≡ resolved t (chain_of ls (get_or ls (h - 1) 0)) (put_off o (h - 1) (t - h))
  unfolding resolved
  resolved_look n = rw (look l ls h d i z) (simp (back t h z, le-ltb 32767 (t - h) n))

  pub reach_look : t - h ≤ 32767 → reach t (chain_of ls h) ≡ reach t (chain_of ls (get_or ls (h - 1) 0))
  unfolding reach
  reach_look n = rw (look l ls h d i z) (simp (back t h z, le-ltb 32767 (t - h) n))

  pub resolved_far : 32767 < t - h → resolved t (chain_of ls h) o ≡ o
  unfolding resolved
  resolved_far n = rw (look l ls h d i z) (simp (back t h z, lt-ltb 32767 (t - h) n))

  pub reach_far : 32767 < t - h → reach t (chain_of ls h) ≡ Err too_far
  unfolding reach
  reach_far n = rw (look l ls h d i z) (simp (back t h z, lt-ltb 32767 (t - h) n))

pub chain_none : (ls : List ℕ) (h : ℕ) → h ≡ 0 → chain_of ls h ≡ []
unfolding chain_of chain
chain_none ls h e = rw e
