-- Laws of counting: one record more, the frame of a record, a walk from a place on.
use Prim.Native.Nat.{ℕ, zero, suc, ◌+◌, ◌-◌, ◌/◌, ◌<◌, ◌≤◌}
use mathlib.Core.Path.{◌≡◌, refl}
use mathlib.Core.Bool.{Bool, true, false, cond}
use mathlib.Core.List.{List, [], ◌∷◌}
use native.Mathlib.Omega.{arith}
use borrow.Author.Tests.{lt-ltb, le-ltb, eq-eqb, ne_eqb}
use lib.ListN.{length, get_or, take, drop, length-drop}
use lib.Seq.{length-take-le, get_or-drop}
use lib.Dec.{eqb}
use Rattle.ebpf.specs.Run.{run_of}
use Rattle.savefile.specs.Savefile.{Rec, Walk, stays, after, is_cut, frame_of, counted, next_of, walk_of}
use Rattle.refusals.specs.Refusal.{Answer}
use Rattle.refusals.specs.Refusal.Answer.{Refused, Given}
use Rattle.savefile.specs.declared.ByteOrder.{ByteOrder}
use Rattle.savefile.specs.declared.Record.{Record}
use Rattle.savefile.proofs.Walks.{faulty, walk_next, walk_fault, walk_end, walk_none}
use Rattle.capture.specs.Capture.{Always, rec_at, accepts, is_passed, is_dropped, tallied, added, judged_walk}
use Rattle.capture.specs.declared.Tally.{Tally}
use Rattle.capture.specs.declared.Counted.{Counted}

take_byte : (n : ℕ) (s : List ℕ) (i : ℕ) → ((p : ℕ) → get_or s p 0 < 256) → get_or (take n s) i 0 < 256
take_byte zero s i byte = omega arith
take_byte (suc n) [] i byte = omega arith
take_byte (suc n) (x ∷ s) zero byte = byte 0
take_byte (suc n) (x ∷ s) (suc i) byte = take_byte n s i (λ p. byte (suc p))

-- A part of bytes is bytes.
pub part_byte : (n k : ℕ) (s : List ℕ) → ((p : ℕ) → get_or s p 0 < 256) → (i : ℕ) → get_or (take n (drop k s)) i 0 < 256
part_byte n k s byte i = take_byte n (drop k s) i (λ p. rw (get_or-drop k s p 0) (byte (k + p)))

-- The program exits on a part of the file.
pub exits_on : (P s : List ℕ) → Always P → ((p : ℕ) → get_or s p 0 < 256) → (from n : ℕ) → from + n ≤ length s → n ≤ 16384
    → (run_of P (take n (drop from s)) 0 (length P / 8)).stop ≡ 0
exits_on P s always byte from n room low =
    let e : length (take n (drop from s)) ≡ n = length-take-le n (drop from s) (rw (length-drop from s) (omega arith)) in
    always (take n (drop from s)) (part_byte n from s byte) (omega (arith, e))

none : (n : ℕ) → n + 0 ≡ n
none n = omega arith

-- A record in its class.
module _ (P s : List ℕ) (from : ℕ) (x : Record) (t : Tally) where
  pub one_cut : x.captured < x.original → record { passed = t.passed; dropped = t.dropped; cut = t.cut + 1 } ≡ added P s (rec_at from x) t
  unfolding added is_passed is_dropped is_cut
  one_cut h = rw (lt-ltb x.captured x.original h, none t.passed, none t.dropped) refl

  module _ (h : x.original ≤ x.captured) (n : ℕ) (en : n ≡ x.captured) (r0 : ℕ) (e : r0 ≡ (run_of P (take n (drop from s)) 0 (length P / 8)).r0) where
    told : r0 ≡ (run_of P (take x.captured (drop from s)) 0 (length P / 8)).r0
    told = rw (← en) e

    pub one_passed : r0 ≡ 2 → record { passed = t.passed + 1; dropped = t.dropped; cut = t.cut } ≡ added P s (rec_at from x) t
    unfolding added is_passed is_dropped is_cut accepts frame_of
    one_passed q = rw (le-ltb x.captured x.original h, ← told, eq-eqb r0 2 q, none t.dropped, none t.cut) refl

    pub one_dropped : (r0 ≡ 2 → ⊥) → record { passed = t.passed; dropped = t.dropped + 1; cut = t.cut } ≡ added P s (rec_at from x) t
    unfolding added is_passed is_dropped is_cut accepts frame_of
    one_dropped q = rw (le-ltb x.captured x.original h, ← told, ne_eqb r0 2 q, none t.passed, none t.cut) refl

-- Two counts together.
unfoldable pub plus : Tally → Tally → Tally
plus t u = record { passed = t.passed + u.passed; dropped = t.dropped + u.dropped; cut = t.cut + u.cut }

unfoldable pub total : Tally → ℕ
total t = t.passed + t.dropped + t.cut

abbrev pub nothing : Tally
nothing = record { passed = 0; dropped = 0; cut = 0 }

zero_plus : (t : Tally) → plus nothing t ≡ t
unfolding plus
zero_plus t =
    let a : 0 + t.passed ≡ t.passed = omega arith in
    let b : 0 + t.dropped ≡ t.dropped = omega arith in
    let d : 0 + t.cut ≡ t.cut = omega arith in
    rw (a, b, d) refl

at_most : (b : Bool) → cond b 1 0 ≤ 1
at_most true = omega arith
at_most false = omega arith

-- A record takes sixteen bytes at least, and adds to each count at most one.
pub total_next : (P s : List ℕ) (t : Tally) (r : Rec) (at captured : ℕ) → total t ≤ at → total (added P s r t) ≤ at + 16 + captured
unfolding total added
total_next P s t r at captured h = omega (arith, at_most (is_passed P s r), at_most (is_dropped P s r), at_most (is_cut r))

abbrev pub counts : Tally → ℕ → Counted
counts t next = record { tally = t; next = next }

-- What a walk adds to counts.
unfoldable pub judged_on : Tally → List ℕ → List ℕ → Walk → Answer Counted
judged_on t P s w = cond (eqb w.fault 0) (Given (counts (plus t (tallied P s w.records)) w.next)) (Refused w.fault w.next)

pub judged_first : (P s : List ℕ) (w : Walk) → judged_on nothing P s w ≡ judged_walk P s w
unfolding judged_on judged_walk
judged_first P s w = rw (zero_plus (tallied P s w.records)) refl

module _ (P s : List ℕ) (t : Tally) where
  plus_more : (r : Rec) (rs : List Rec) → plus (added P s r t) (tallied P s rs) ≡ plus t (tallied P s (r ∷ rs))
  unfolding plus added tallied counted
  plus_more r rs =
      let a : t.passed + cond (is_passed P s r) 1 0 + counted (is_passed P s) rs ≡ t.passed + (cond (is_passed P s r) 1 0 + counted (is_passed P s) rs) = omega arith in
      let b : t.dropped + cond (is_dropped P s r) 1 0 + counted (is_dropped P s) rs ≡ t.dropped + (cond (is_dropped P s r) 1 0 + counted (is_dropped P s) rs) = omega arith in
      let d : t.cut + cond (is_cut r) 1 0 + counted is_cut rs ≡ t.cut + (cond (is_cut r) 1 0 + counted is_cut rs) = omega arith in
      rw (a, b, d) refl

  plus_none : plus t (tallied P s []) ≡ t
  unfolding plus tallied counted
  plus_none = rw (none t.passed, none t.dropped, none t.cut) refl

  judged_after : (r : Rec) (w : Walk) → judged_on (added P s r t) P s w ≡ judged_on t P s (after r w)
  unfolding judged_on
  judged_after r w = rw (plus_more r w.records) refl

  judged_stays : (at : ℕ) → Given (counts t at) ≡ judged_on t P s (stays at)
  unfolding judged_on
  judged_stays at = rw plus_none refl

  module _ (order : ByteOrder) (at left : ℕ) where
    -- At the file's end, or with no record left to take.
    pub judged_end : length s ≤ at → Given (counts t at) ≡ judged_on t P s (walk_of left order s at)
    judged_end h = rw (walk_end left order s at h) (judged_stays at)

    pub judged_none : left ≤ 0 → Given (counts t at) ≡ judged_on t P s (walk_of left order s at)
    judged_none h = rw (walk_none left order s at h) (judged_stays at)

    -- One record more, or a fault.
    module _ (some : 0 < left) (more : at < length s) where
      pub judged_next : (x : Record) → next_of order s at ≡ Given x
          → judged_on (added P s (rec_at (at + 16) x) t) P s (walk_of (left - 1) order s (at + 16 + x.captured)) ≡ judged_on t P s (walk_of left order s at)
      judged_next x e = rw (walk_next order s at left some more x e) (judged_after (rec_at (at + 16) x) (walk_of (left - 1) order s (at + 16 + x.captured)))

      pub judged_fault : (number place : ℕ) → next_of order s at ≡ Refused number place → Refused number place ≡ judged_on t P s (walk_of left order s at)
      unfolding judged_on
      judged_fault number place e = rw (walk_fault order s at left some more number place e, faulty order s at number place e) refl
