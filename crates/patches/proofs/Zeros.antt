-- Numbers that are set to zero.
use Prim.Native.Nat.{ℕ, zero, suc, ◌<◌, ◌≤◌}
use mathlib.Core.Path.{◌≡◌, refl, sym, ◌∙◌}
use mathlib.Core.List.{List}
use mathlib.Core.Bool.{Bool, true, false}
use native.Mathlib.Omega.{arith}
use borrow.Author.Tests.{eqb-true, eqb-false, ltb-true, ltb-false}
use lib.Dec.{eqb, ltb}
use lib.ListN.{get_or, length, set, length-set}
use lib.Seq.{get_or-set_same, get_or-set_other, ext_get_or}
use Rattle.patches.specs.Same.{SameFrom, zeroed}

pub length_zeroed : (n : ℕ) (w : List ℕ) → length (zeroed n w) ≡ length w
unfolding zeroed
length_zeroed zero w = refl
length_zeroed (suc n) w = length-set (zeroed n w) n 0 ∙ length_zeroed n w

pub zeroed_at : (n : ℕ) (w : List ℕ) (p : ℕ) → n ≤ length w → p < n → get_or (zeroed n w) p 0 ≡ 0
unfolding zeroed
zeroed_at zero w p h i = absurd (omega arith)
zeroed_at (suc n) w p h i = go (eqb p n) refl (λ k. zeroed_at n w p (omega arith) k)
  where
    go : (b : Bool) → eqb p n ≡ b → (p < n → get_or (zeroed n w) p 0 ≡ 0) → get_or (set (zeroed n w) n 0) p 0 ≡ 0
    go true e ih = rw (eqb-true p n e) (get_or-set_same (zeroed n w) n 0 0 (omega (arith, length_zeroed n w)))
    go false e ih =
        let d : p ≡ n → ⊥ = eqb-false p n e in
        get_or-set_other (zeroed n w) n p 0 0 d ∙ ih (omega (arith, d))

pub zeroed_from : (n : ℕ) (w : List ℕ) → SameFrom n w (zeroed n w)
unfolding zeroed
zeroed_from zero w p h = refl
zeroed_from (suc n) w p h = get_or-set_other (zeroed n w) n p 0 0 (λ e. omega arith) ∙ zeroed_from n w p (omega arith)

-- What was written below n is not seen in the zeros.
pub zeroed_same : (n : ℕ) (a b : List ℕ) → length b ≡ length a → n ≤ length a → SameFrom n a b → zeroed n b ≡ zeroed n a
zeroed_same n a b e h f =
    ext_get_or 0 (zeroed n b) (zeroed n a) (length_zeroed n b ∙ e ∙ sym (length_zeroed n a)) (λ p i. go p (ltb p n) refl)
  where
    go : (p : ℕ) (x : Bool) → ltb p n ≡ x → get_or (zeroed n b) p 0 ≡ get_or (zeroed n a) p 0
    go p true z = zeroed_at n b p (omega arith) (ltb-true p n z) ∙ sym (zeroed_at n a p h (ltb-true p n z))
    go p false z = zeroed_from n b p (ltb-false p n z) ∙ f p (ltb-false p n z) ∙ sym (zeroed_from n a p (ltb-false p n z))
