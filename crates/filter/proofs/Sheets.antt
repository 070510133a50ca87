-- Laws of the sections: their size, and that a count that is cut is refused.
use Prim.Native.Nat.{ℕ, ◌+◌, ◌*◌, ◌<◌}
use mathlib.Core.Path.{◌≡◌, refl, ap}
use mathlib.Core.Bool.{Bool, true, false, cond}
use mathlib.Core.List.{List}
use native.Mathlib.Omega.{arith}
use borrow.Author.Tests.{eqb-true, ne_eqb}
use lib.Dec.{eqb}
use lib.ListN.{length}
use Rattle.std.specs.Prelude.{Some, None}
use Rattle.filter.specs.declared.sheet.Counts.{Counts}
use Rattle.filter.specs.Sheet.{counts, step_count, prim_count, token_count, sections_of}

-- equal counts have equal parts
pub counts_parts : {x y z a b c : ℕ} → counts x y z ≡ counts a b c → (x ≡ a) × (y ≡ b) × (z ≡ c)
counts_parts e = (ap (λ (k : Counts). k.steps) e, ap (λ (k : Counts). k.prims) e, ap (λ (k : Counts). k.tokens) e)

-- the counts that are found are those that are read, and the sheet is as long as they ask
pub record Found (s : List ℕ) (a b c : ℕ) : Type 0 where
  pub steps : step_count s ≡ a
  pub prims : prim_count s ≡ b
  pub tokens : token_count s ≡ c
  pub size : length s ≡ 5 * a + 24 * b + c + 6

pub found : (s : List ℕ) {a b c : ℕ} → sections_of s ≡ Some (counts a b c) → Found s a b c
unfolding sections_of
found s {a} {b} {c} = go (eqb (length s) (5 * step_count s + 24 * prim_count s + token_count s + 6)) refl
  where
    go : (t : Bool) → eqb (length s) (5 * step_count s + 24 * prim_count s + token_count s + 6) ≡ t
        → cond t (Some (counts (step_count s) (prim_count s) (token_count s))) None ≡ Some (counts a b c) → Found s a b c
    go true e f =
        let same : counts (step_count s) (prim_count s) (token_count s) ≡ counts a b c = cc in
        let p = counts_parts same in
        record { steps = p.0; prims = p.1; tokens = p.2; size = omega (arith, eqb-true _ _ e, p.0, p.1, p.2) }
    go false e f = let never : ◌≡◌ {A = ℕ} 0 1 = cc in absurd (omega arith)

-- a sheet whose sections are found is as long as they ask
pub sized : (s : List ℕ) {a b c : ℕ} → sections_of s ≡ Some (counts a b c) → length s ≡ 5 * a + 24 * b + c + 6
sized s f = (found s f).size

-- "or a count is cut": the bytes that are missing read as zeros, and the sheet is refused whatever they are
pub cut : (s : List ℕ) → length s < 5 * step_count s + 24 * prim_count s + 6 → sections_of s ≡ None
unfolding sections_of
cut s h = rw (ne_eqb (length s) (5 * step_count s + 24 * prim_count s + token_count s + 6) (omega arith))
