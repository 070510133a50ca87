-- Laws of the walk over the records.
use Prim.Native.Nat.{ℕ, zero, suc, ◌+◌, ◌-◌, ◌<◌, ◌≤◌}
use mathlib.Core.Path.{◌≡◌, refl, ap, ◌∙◌}
use mathlib.Core.Bool.{Bool, true, false, cond}
use mathlib.Core.List.{List, []}
use native.Mathlib.Omega.{arith}
use borrow.Author.Tests.{lt-ltb, le-ltb}
use lib.ListN.{length}
use lib.Dec.{eqb, ltb, nltb→le}
use Rattle.refusals.specs.Refusal.{Answer}
use Rattle.refusals.specs.Refusal.Answer.{Refused, Given}
use Rattle.savefile.specs.Savefile.{number_at, entry, next_of, stays, after, walk_of, walked_of}
use Rattle.savefile.specs.declared.ByteOrder.{ByteOrder}
use Rattle.savefile.specs.declared.Header.{Header}
use Rattle.savefile.specs.declared.Record.{Record}

-- The tests of a record, case by case.
module _ (order : ByteOrder) (s : List ℕ) (at : ℕ) where
  pub next_short : length s < at + 16 → Refused 42 at ≡ next_of order s at
  unfolding next_of
  next_short h = rw (lt-ltb (length s) (at + 16) h) refl

  module _ (h : at + 16 ≤ length s) (captured : ℕ) (e : captured ≡ number_at order s (at + 8)) where
    pub next_long : 16384 < captured → Refused 43 at ≡ next_of order s at
    unfolding next_of
    next_long q = rw (← e, le-ltb (length s) (at + 16) h, lt-ltb 16384 captured q) refl

    pub next_body : captured ≤ 16384 → length s < at + 16 + captured → Refused 42 at ≡ next_of order s at
    unfolding next_of
    next_body q g = rw (← e, le-ltb (length s) (at + 16) h, le-ltb 16384 captured q, lt-ltb (length s) (at + 16 + captured) g) refl

    pub next_here : captured ≤ 16384 → at + 16 + captured ≤ length s → (original : ℕ) → original ≡ number_at order s (at + 12) → Given (entry captured original) ≡ next_of order s at
    unfolding next_of
    next_here q g original eo = rw (← e, ← eo, le-ltb (length s) (at + 16) h, le-ltb 16384 captured q, le-ltb (length s) (at + 16 + captured) g) refl

  abbrev tested : Bool → Bool → Bool → Answer Record
  tested a b c = cond a (Refused 42 at) (cond b (Refused 43 at) (cond c (Refused 42 at) (Given (entry (number_at order s (at + 8)) (number_at order s (at + 12))))))

  -- A record lies in the file, and its captured length is at most 16,384.
  pub inside : (r : Record) → next_of order s at ≡ Given r → (at + 16 + r.captured ≤ length s) × (r.captured ≤ 16384)
  unfolding next_of
  inside r e = go (ltb (length s) (at + 16)) (ltb 16384 (number_at order s (at + 8))) (ltb (length s) (at + 16 + number_at order s (at + 8))) refl refl e
    where
      go : (a b c : Bool) → ltb 16384 (number_at order s (at + 8)) ≡ b → ltb (length s) (at + 16 + number_at order s (at + 8)) ≡ c
          → tested a b c ≡ Given r → (at + 16 + r.captured ≤ length s) × (r.captured ≤ 16384)
      go true b c x y q = let z : ◌≡◌ {A = ℕ} 0 1 = cc in absurd (omega arith)
      go false true c x y q = let z : ◌≡◌ {A = ℕ} 0 1 = cc in absurd (omega arith)
      go false false true x y q = let z : ◌≡◌ {A = ℕ} 0 1 = cc in absurd (omega arith)
      go false false false x y q =
          let w : entry (number_at order s (at + 8)) (number_at order s (at + 12)) ≡ r = cc in
          let k : number_at order s (at + 8) ≡ r.captured = ap (λ (x : Record). x.captured) w in
          let f : number_at order s (at + 8) ≤ 16384 = nltb→le 16384 (number_at order s (at + 8)) (rw x tt) in
          let g : at + 16 + number_at order s (at + 8) ≤ length s = nltb→le (length s) (at + 16 + number_at order s (at + 8)) (rw y tt) in
          (omega (arith, k, g), omega (arith, k, f))

  -- A fault has a number.
  pub faulty : (number place : ℕ) → next_of order s at ≡ Refused number place → eqb number 0 ≡ false
  unfolding next_of
  faulty number place e = go (ltb (length s) (at + 16)) (ltb 16384 (number_at order s (at + 8))) (ltb (length s) (at + 16 + number_at order s (at + 8))) e
    where
      go : (a b c : Bool) → tested a b c ≡ Refused number place → eqb number 0 ≡ false
      go true b c q = let k : 42 ≡ number = cc in rw (← k) refl
      go false true c q = let k : 43 ≡ number = cc in rw (← k) refl
      go false false true q = let k : 42 ≡ number = cc in rw (← k) refl
      go false false false q = let z : ◌≡◌ {A = ℕ} 0 1 = cc in absurd (omega arith)

  -- One record of the walk, where it may take one more.
  module _ (most : ℕ) (left : 0 < most) (more : at < length s) where
    pub walk_next : (r : Record) → next_of order s at ≡ Given r
        → walk_of most order s at ≡ after (record { from = at + 16; captured = r.captured; original = r.original }) (walk_of (most - 1) order s (at + 16 + r.captured))
    unfolding walk_of
    walk_next r e = let q : most ≡ suc (most - 1) = omega arith in ap (λ (n : ℕ). walk_of n order s at) q ∙ rw (lt-ltb at (length s) more, e) refl

    pub walk_fault : (number place : ℕ) → next_of order s at ≡ Refused number place → walk_of most order s at ≡ record { records = []; next = place; fault = number }
    unfolding walk_of
    walk_fault number place e = let q : most ≡ suc (most - 1) = omega arith in ap (λ (n : ℕ). walk_of n order s at) q ∙ rw (lt-ltb at (length s) more, e) refl

-- At the file's end, or with no record left to take, the walk stays.
pub walk_end : (most : ℕ) (order : ByteOrder) (s : List ℕ) (at : ℕ) → length s ≤ at → walk_of most order s at ≡ stays at
unfolding walk_of
walk_end zero order s at h = refl
walk_end (suc most) order s at h = rw (le-ltb at (length s) h) refl

pub walk_none : (most : ℕ) (order : ByteOrder) (s : List ℕ) (at : ℕ) → most ≤ 0 → walk_of most order s at ≡ stays at
unfolding walk_of
walk_none zero order s at h = refl
walk_none (suc most) order s at h = absurd (omega arith)

-- The opened file by a walk from a later place.
module _ (order : ByteOrder) (header : Header) (s : List ℕ) (at most : ℕ) where
  module _ (more : at < length s) (room : length s ≤ most + at) where
    pub opened_next : (r : Record) → next_of order s at ≡ Given r
        → walked_of (walk_of (most - 1) order s (at + 16 + r.captured)) header ≡ walked_of (walk_of most order s at) header
    unfolding walked_of
    opened_next r e = rw (walk_next order s at most (omega arith) more r e) refl

    pub opened_fault : (number place : ℕ) → next_of order s at ≡ Refused number place → Refused number place ≡ walked_of (walk_of most order s at) header
    unfolding walked_of
    opened_fault number place e = rw (walk_fault order s at most (omega arith) more number place e, faulty order s at number place e) refl

  pub opened_end : length s ≤ at → Given header ≡ walked_of (walk_of most order s at) header
  unfolding walked_of
  opened_end h = rw (walk_end most order s at h) refl
