-- Laws of `first` and `any`: a loop over numbers in turn, and that `first` is the lowest number that passes.
use Prim.Native.Nat.{ℕ, zero, suc, ◌+◌, ◌-◌, ◌<◌, ◌≤◌}
use mathlib.Core.Path.{◌≡◌, refl, sym, ◌∙◌, subst}
use mathlib.Core.Bool.{Bool, true, false, cond, true≢false}
use mathlib.Core.Logic.{◌⊎◌, inl, inr, ⊎_elim}
use native.Mathlib.Nat.{eq-or-lt_of_le}
use native.Mathlib.Omega.{arith}
use native.Mathlib.Numerals.{add-one}
use borrow.Author.Tests.{ltb-true, ltb-false}
use lib.Dec.{ltb}
use Rattle.std.specs.Prelude.{Option, Some, None, MatchOption}
use Rattle.std.specs.Option.{unwrap_or}
use Rattle.filter.specs.First.{first, any}

pub suc_of : (i n : ℕ) → i < n → n - i ≡ suc (n - (i + 1))
suc_of i n h = omega arith

pub first_all : (f : ℕ → Bool) (n : ℕ) → first f n 0 ≡ first f (n - 0) 0
first_all f n = let z : n - 0 ≡ n = omega arith in rw z

-- past the last number
pub first_none : (f : ℕ → Bool) (n i : ℕ) → n ≤ i → first f (n - i) i ≡ i
unfolding first
first_none f n i h = let z : n - i ≡ 0 = omega arith in rw z

-- a number that passes
pub first_stop : (f : ℕ → Bool) (n i : ℕ) → i < n → f i ≡ true → first f (n - i) i ≡ i
unfolding first
first_stop f n i h e = rw (suc_of i n h, e)

-- a number that does not
pub first_more : (f : ℕ → Bool) (n i : ℕ) → i < n → f i ≡ false → first f (n - i) i ≡ first f (n - (i + 1)) (i + 1)
unfolding first
first_more f n i h e = rw (suc_of i n h, add-one i, e)

pub any_all : (f : ℕ → Bool) (n from : ℕ) → any f n from ≡ any f (n - 0) (from + 0)
any_all f n from =
    let z : n - 0 ≡ n = omega arith in
    let y : from + 0 ≡ from = omega arith in
    rw (z, y)

-- j numbers were looked at, and there are no more
pub any_none : (f : ℕ → Bool) (n from j : ℕ) → n ≤ j → any f (n - j) (from + j) ≡ false
unfolding any
any_none f n from j h = let z : n - j ≡ 0 = omega arith in rw z

pub any_stop : (f : ℕ → Bool) (n from j : ℕ) → j < n → f (from + j) ≡ true → any f (n - j) (from + j) ≡ true
unfolding any
any_stop f n from j h e = rw (suc_of j n h, e)

pub any_more : (f : ℕ → Bool) (n from j : ℕ) → j < n → f (from + j) ≡ false
    → any f (n - j) (from + j) ≡ any f (n - (j + 1)) (from + (j + 1))
unfolding any
any_more f n from j h e =
    let z : from + (j + 1) ≡ suc (from + j) = omega arith in
    rw (suc_of j n h, z, e)

no_lower : (b : Bool) (i x : ℕ) → suc i ≤ x → i ≤ cond b i x
no_lower true i x h = omega arith
no_lower false i x h = omega arith

no_higher : (b : Bool) (i x m : ℕ) → i ≤ m → x ≤ m → cond b i x ≤ m
no_higher true i x m h k = h
no_higher false i x m h k = k

pub first_from : (f : ℕ → Bool) (n i : ℕ) → i ≤ first f n i
unfolding first
first_from f zero i = omega arith
first_from f (suc n) i = no_lower (f i) i (first f n (suc i)) (first_from f n (suc i))

pub first_within : (f : ℕ → Bool) (n i : ℕ) → first f n i ≤ i + n
unfolding first
first_within f zero i = omega arith
first_within f (suc n) i =
    let h : first f n (suc i) ≤ suc i + n = first_within f n (suc i) in
    no_higher (f i) i (first f n (suc i)) (i + suc n) (omega arith) (omega arith)

fails_below : (f : ℕ → Bool) (i j x : ℕ) (b : Bool) → f i ≡ b → i ≤ j → j < cond b i x → (suc i ≤ j → j < x → f j ≡ false) → f j ≡ false
fails_below f i j x true e h k ih = absurd (omega arith)
fails_below f i j x false e h k ih = ⊎_elim (λ (q : i ≡ j). subst (λ (m : ℕ). f m ≡ false) q e) (λ q. ih q k) (eq-or-lt_of_le h)

-- no lower number passes
pub first_lowest : (f : ℕ → Bool) (n i j : ℕ) → i ≤ j → j < first f n i → f j ≡ false
unfolding first
first_lowest f zero i j h k = absurd (omega arith)
first_lowest f (suc n) i j h k = fails_below f i j (first f n (suc i)) (f i) refl h k (first_lowest f n (suc i) j)

passes_here : (f : ℕ → Bool) (i x m : ℕ) (b : Bool) → f i ≡ b → cond b i x < m → (x < m → f x ≡ true) → f (cond b i x) ≡ true
passes_here f i x m true e h ih = e
passes_here f i x m false e h ih = ih h

-- it passes itself, unless none does
pub first_passes : (f : ℕ → Bool) (n i : ℕ) → first f n i < i + n → f (first f n i) ≡ true
unfolding first
first_passes f zero i h = absurd (omega arith)
first_passes f (suc n) i h =
    passes_here f i (first f n (suc i)) (i + suc n) (f i) refl h (λ (k : first f n (suc i) < i + suc n). first_passes f n (suc i) (omega arith))

below_or_not : (a b : ℕ) → (a < b) ⊎ (b ≤ a)
below_or_not a b = go (ltb a b) refl
  where
    go : (t : Bool) → ltb a b ≡ t → (a < b) ⊎ (b ≤ a)
    go true e = inl (ltb-true a b e)
    go false e = inr (ltb-false a b e)

-- the lowest number that passes is the only one that passes and has none below it that does
pub first_is : (f : ℕ → Bool) (n x : ℕ) → x ≤ n → ((j : ℕ) → j < x → f j ≡ false) → (x < n → f x ≡ true) → first f n 0 ≡ x
first_is f n x h below here =
    ⊎_elim
    (λ (k : first f n 0 < x).
    let t : f (first f n 0) ≡ true = first_passes f n 0 (omega arith) in
    let u : f (first f n 0) ≡ false = below (first f n 0) k in
    absurd (true≢false (sym t ∙ u)))
    (λ (k : x ≤ first f n 0).
    ⊎_elim
    (λ (e : x ≡ first f n 0). sym e)
    (λ (l : x < first f n 0).
    let m : first f n 0 ≤ 0 + n = first_within f n 0 in
    let t : f x ≡ true = here (omega arith) in
    let u : f x ≡ false = first_lowest f n 0 x (omega arith) l in
    absurd (true≢false (sym t ∙ u)))
    (eq-or-lt_of_le k))
    (below_or_not (first f n 0) x)

pub first_nothing : (f : ℕ → Bool) (n : ℕ) → ((j : ℕ) → j < n → f j ≡ false) → first f n 0 ≡ n
first_nothing f n none = first_is f n n (omega arith) none (λ k. absurd (omega arith))

-- `find` over the numbers below n, and n where it finds none (`first_from_Range`, std)
pub first_found : (f : ℕ → Bool) (n : ℕ) (r : Option ℕ)
    → MatchOption r ((k : ℕ) → 0 ≤ k → k < n → f k ≡ false) (λ i. (0 ≤ i) × (i < n) × (f i ≡ true) × ((k : ℕ) → 0 ≤ k → k < i → f k ≡ false))
    → unwrap_or r n ≡ first f n 0
first_found f n None h = sym (first_nothing f n (λ j k. h j (omega arith) k))
first_found f n (Some i) h = sym (first_is f n i (omega (arith, h.1)) (λ j k. h.3 j (omega arith) k) (λ k. h.2))
