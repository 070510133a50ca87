-- THEOREM: parts of a capture compose to the whole.
use Prim.Native.Nat.{ℕ, ◌+◌}
use mathlib.Core.Path.{◌≡◌, refl, ap, ◌∙◌}
use mathlib.Core.Bool.{Bool, true, false, cond}
use mathlib.Core.List.{List, ◌++◌}
use native.Mathlib.Omega.{arith}
use lib.ListN.{length}
use lib.Dec.{eqb}
use Rattle.generator.specs.Compile.{outcome_of, answer_of}
use Rattle.savefile.specs.Savefile.{Rec, Walk, is_cut, walk_of, walked_of, header_of, whole_of, opened_of}
use Rattle.refusals.specs.Refusal.{Answer}
use Rattle.refusals.specs.Refusal.Answer.{Refused, Given}
use Rattle.savefile.specs.declared.ByteOrder.{ByteOrder}
use Rattle.savefile.specs.declared.Header.{Header}
use Rattle.savefile.proofs.Parts.{walk_parts, then, behind, counted_append, fault_is}
use Rattle.savefile.proofs.Headers.{header_long, opened_header}
use Rattle.capture.specs.Capture.{program_of, is_passed, is_dropped, tallied, judged_walk, unless_refused, judged_from, judged_in, part_of, captured_of}
use Rattle.capture.specs.declared.Tally.{Tally}
use Rattle.capture.specs.declared.Counted.{Counted}
use Rattle.capture.proofs.Counts.{plus, counts}

-- Counts, and a part behind them.
abbrev pub onto : Tally → Answer Counted → Answer Counted
onto t (Refused number place) = Refused number place
onto t (Given c) = Given (counts (plus t c.tally) c.next)

-- A part, then the part from where it ended.
abbrev pub followed : Answer Counted → (ℕ → Answer Counted) → Answer Counted
followed (Refused number place) more = Refused number place
followed (Given c) more = onto c.tally (more c.next)

module _ (P s : List ℕ) where
  judged_behind : (rs : List Rec) (w : Walk) → judged_walk P s (behind rs w) ≡ onto (tallied P s rs) (judged_walk P s w)
  unfolding judged_walk tallied plus
  judged_behind rs w = go (eqb w.fault 0)
    where
      go : (t : Bool) → cond t (Given (counts (tallied P s (rs ++ w.records)) w.next)) (Refused w.fault w.next)
          ≡ onto (tallied P s rs) (cond t (Given (counts (tallied P s w.records) w.next)) (Refused w.fault w.next))
      go true = rw (counted_append (is_passed P s) rs w.records, counted_append (is_dropped P s) rs w.records, counted_append is_cut rs w.records) refl
      go false = refl

  judged_then : (w : Walk) (more : ℕ → Walk) → judged_walk P s (then w more) ≡ followed (judged_walk P s w) (λ to. judged_walk P s (more to))
  unfolding judged_walk
  judged_then w more = go (eqb w.fault 0) refl
    where
      go : (t : Bool) → eqb w.fault 0 ≡ t → judged_walk P s (cond t (behind w.records (more w.next)) w)
          ≡ followed (cond t (Given (counts (tallied P s w.records) w.next)) (Refused w.fault w.next)) (λ to. judged_walk P s (more to))
      go true e = judged_behind w.records (more w.next)
      go false e = rw e refl

module _ (file sheet : List ℕ) (mode output work : ℕ) where
  -- "parts compose to the whole": m + n records from a place on are m records, and n from where these ended.
  pub parts : (at m n : ℕ) → part_of file sheet mode output work at (m + n) ≡ followed (part_of file sheet mode output work at m) (λ to. part_of file sheet mode output work to n)
  unfolding part_of judged_from
  parts at m n = go (header_of file)
    where
      sheets : (order : ByteOrder) (P : List ℕ) (x : Answer ℕ) → unless_refused x (judged_walk P file (walk_of (m + n) order file at))
          ≡ followed (unless_refused x (judged_walk P file (walk_of m order file at))) (λ to. unless_refused x (judged_walk P file (walk_of n order file to)))
      sheets order P (Refused number place) = refl
      sheets order P (Given l) = ap (judged_walk P file) (walk_parts order file n m at) ∙ judged_then P file (walk_of m order file at) (λ to. walk_of n order file to)

      go : (x : Answer Header) → judged_in x file sheet mode output work at (m + n) ≡ followed (judged_in x file sheet mode output work at m) (λ to. judged_in x file sheet mode output work to n)
      go (Given header) = sheets header.order (program_of (outcome_of sheet header.link mode output work)) (answer_of (outcome_of sheet header.link mode output work))
      go (Refused number place) = refl

  -- The whole of a file that is not refused is its part of as many records as it has bytes, from the first record on.
  pub whole_part : (header : Header) → opened_of file ≡ Given header → captured_of file sheet mode output work ≡ part_of file sheet mode output work 24 (length file)
  unfolding captured_of part_of
  whole_part header e = rw (e, (opened_header file header e).header) refl

  -- What a part from the first record on refuses past the sheet, 42 or 43, is the whole file's refusal.
  pub part_fault : (header : Header) (m : ℕ) → header_of file ≡ Given header → (l : ℕ) → answer_of (outcome_of sheet header.link mode output work) ≡ Given l
      → (number place : ℕ) → part_of file sheet mode output work 24 m ≡ Refused number place → captured_of file sheet mode output work ≡ Refused number place
  unfolding part_of judged_from judged_walk captured_of opened_of walked_of
  part_fault header m h l a number place e = go (eqb (walk_of m header.order file 24).fault 0) refl (rw (h, a) at e)
    where
      go : (t : Bool) → eqb (walk_of m header.order file 24).fault 0 ≡ t
          → cond t (Given (counts (tallied (program_of (outcome_of sheet header.link mode output work)) file (walk_of m header.order file 24).records) (walk_of m header.order file 24).next))
          (Refused (walk_of m header.order file 24).fault (walk_of m header.order file 24).next) ≡ Refused number place
          → judged_in (whole_of (header_of file) file) file sheet mode output work 24 (length file) ≡ Refused number place
      go true f q = let z : ◌≡◌ {A = ℕ} 0 1 = cc in absurd (omega arith)
      go false f q = let s = fault_is header.order file (header_long file header h) m f in rw (h, s.0, s.1, f) q
