-- THEOREM: a walk of m + n records is a walk of m and, from where it ended, one of n.
use Prim.Native.Nat.{ℕ, zero, suc, ◌+◌, ◌-◌, ◌<◌, ◌≤◌}
use mathlib.Core.Path.{◌≡◌, refl, ap, ◌∙◌}
use mathlib.Core.Bool.{Bool, true, false, cond}
use mathlib.Core.List.{List, [], ◌∷◌, ◌++◌}
use native.Mathlib.Omega.{arith}
use borrow.Author.Tests.{eqb-true}
use lib.ListN.{length}
use lib.Dec.{eqb, ltb, ltb→lt, nltb→le}
use Rattle.savefile.specs.Savefile.{next_of, Rec, Walk, stays, after, onward, walk_of, file_walk, counted}
use Rattle.refusals.specs.Refusal.{Answer}
use Rattle.refusals.specs.Refusal.Answer.{Refused, Given}
use Rattle.savefile.specs.declared.ByteOrder.{ByteOrder}
use Rattle.savefile.specs.declared.Record.{Record}
use Rattle.savefile.proofs.Walks.{inside, faulty, walk_end}

-- Records first, then a walk.
abbrev pub behind : List Rec → Walk → Walk
behind rs w = record { records = rs ++ w.records; next = w.next; fault = w.fault }

-- What follows a walk without fault.
abbrev pub then : Walk → (ℕ → Walk) → Walk
then w more = cond (eqb w.fault 0) (behind w.records (more w.next)) w

then_after : (r : Rec) (w : Walk) (more : ℕ → Walk) → after r (then w more) ≡ then (after r w) more
then_after r w more = go (eqb w.fault 0)
  where
    go : (t : Bool) → after r (cond t (behind w.records (more w.next)) w) ≡ cond t (behind (r ∷ w.records) (more w.next)) (after r w)
    go true = refl
    go false = refl

module _ (order : ByteOrder) (s : List ℕ) (n : ℕ) where
  pub walk_parts : (m at : ℕ) → walk_of (m + n) order s at ≡ then (walk_of m order s at) (λ to. walk_of n order s to)
  unfolding walk_of
  walk_parts zero at = let z : 0 + n ≡ n = omega arith in rw z refl
  walk_parts (suc m) at =
      let q : suc m + n ≡ suc (m + n) = omega arith in
      ap (λ (k : ℕ). walk_of k order s at) q ∙ go (ltb at (length s)) refl (next_of order s at) refl (λ to. walk_parts m to)
    where
      go : (t : Bool) → ltb at (length s) ≡ t → (x : Answer Record) → next_of order s at ≡ x → ((to : ℕ) → walk_of (m + n) order s to ≡ then (walk_of m order s to) (λ to. walk_of n order s to))
          → cond t (onward x at (λ to. walk_of (m + n) order s to)) (stays at)
          ≡ then (cond t (onward x at (λ to. walk_of m order s to)) (stays at)) (λ to. walk_of n order s to)
      go true e (Given r) f more =
          ap (after (record { from = at + 16; captured = r.captured; original = r.original })) (more (at + 16 + r.captured))
          ∙ then_after (record { from = at + 16; captured = r.captured; original = r.original }) (walk_of m order s (at + 16 + r.captured)) (λ to. walk_of n order s to)
      go true e (Refused number place) f more = rw (faulty order s at number place f) refl
      go false e x f more = rw (walk_end n order s at (nltb→le at (length s) (rw e tt))) refl

-- A walk with a record for each byte that is left goes through to the file's end, or to a fault.
pub through : (order : ByteOrder) (s : List ℕ) (most at : ℕ) → at ≤ length s → length s ≤ most + at → (walk_of most order s at).fault ≡ 0 → (walk_of most order s at).next ≡ length s
unfolding walk_of
through order s zero at low room = λ e. omega arith
through order s (suc most) at low room = go (ltb at (length s)) refl (next_of order s at) refl (λ to l r. through order s most to l r)
  where
    go : (t : Bool) → ltb at (length s) ≡ t → (x : Answer Record) → next_of order s at ≡ x
        → ((to : ℕ) → to ≤ length s → length s ≤ most + to → (walk_of most order s to).fault ≡ 0 → (walk_of most order s to).next ≡ length s)
        → (cond t (onward x at (λ to. walk_of most order s to)) (stays at)).fault ≡ 0 → (cond t (onward x at (λ to. walk_of most order s to)) (stays at)).next ≡ length s
    go true e (Given r) f more h = more (at + 16 + r.captured) (inside order s at r f).0 (omega arith) h
    go true e (Refused number place) f more h = let z : eqb number 0 ≡ false = faulty order s at number place f in let y : true ≡ false = rw h at z in absurd (let w : ◌≡◌ {A = ℕ} 0 1 = cc in omega arith)
    go false e x f more h = let g : length s ≤ at = nltb→le at (length s) (rw e tt) in omega arith

-- Counts of two runs of records.
pub counted_append : (f : Rec → Bool) (rs ts : List Rec) → counted f (rs ++ ts) ≡ counted f rs + counted f ts
unfolding counted
counted_append f [] ts = omega arith
counted_append f (r ∷ rs) ts = let h = counted_append f rs ts in omega (arith, h)

-- THEOREM: a fault that a walk of any length meets from the first record on is the file's.
module _ (order : ByteOrder) (s : List ℕ) (long : 24 ≤ length s) where
  abbrev Same : Walk → Walk → Type 0
  Same v w = (v.fault ≡ w.fault) × (v.next ≡ w.next)

  pub fault_is : (m : ℕ) → eqb (walk_of m order s 24).fault 0 ≡ false → Same (file_walk order s) (walk_of m order s 24)
  unfolding file_walk
  fault_is m bad = go (ltb (length s) m) refl
    where
      -- With more records than bytes the walk has ended before.
      more : (k : ℕ) → m ≡ length s + k → (t : Bool) → eqb (walk_of (length s) order s 24).fault 0 ≡ t → Same (walk_of (length s) order s 24) (walk_of m order s 24)
      more k e true f =
          let n : (walk_of (length s) order s 24).next ≡ length s = through order s (length s) 24 long (omega arith) (eqb-true _ _ f) in
          let p = walk_parts order s k (length s) 24 in
          let z : (walk_of m order s 24).fault ≡ 0 = rw (e, p, f, n, walk_end k order s (length s) (omega arith)) refl in
          let y : true ≡ false = rw z at bad in
          absurd (let x : ◌≡◌ {A = ℕ} 0 1 = cc in omega arith)
      more k e false f = let p = walk_parts order s k (length s) 24 in rw (e, p, f) (refl, refl)

      go : (t : Bool) → ltb (length s) m ≡ t → Same (walk_of (length s) order s 24) (walk_of m order s 24)
      go true e = let h : length s < m = ltb→lt (length s) m (rw e tt) in more (m - length s) (omega arith) (eqb (walk_of (length s) order s 24).fault 0) refl
      go false e =
          let h : m ≤ length s = nltb→le (length s) m (rw e tt) in
          let q : length s ≡ m + (length s - m) = omega arith in
          let p : walk_of (length s) order s 24 ≡ walk_of m order s 24 = ap (λ (n : ℕ). walk_of n order s 24) q ∙ walk_parts order s (length s - m) m 24 ∙ rw bad refl in
          (ap (λ (w : Walk). w.fault) p, ap (λ (w : Walk). w.next) p)
