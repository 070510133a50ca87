-- THEOREM, A1 by the meaning: a judged frame has passed exactly when the expression holds, and every record walked is in one class.
use Prim.Native.Nat.{ℕ, zero, suc, ◌+◌, ◌/◌, ◌≤◌}
use mathlib.Core.Path.{◌≡◌, refl, sym, ap, ◌∙◌}
use mathlib.Core.Bool.{Bool, true, false, not, cond, ◌&&◌}
use mathlib.Core.List.{List, [], ◌∷◌}
use native.Mathlib.Omega.{arith}
use borrow.Author.Tests.{eqb-true}
use lib.ListN.{length, take, drop, length-drop}
use lib.Seq.{length-take-le}
use lib.Dec.{eqb, ltb}
use Rattle.program.specs.Ends.{Frame}
use Rattle.generator.specs.Compile.{outcome_of, answer_of}
use Rattle.sound.specs.Demand.{Bytes, sheet_holds, SmallSheet}
use Rattle.sound.proofs.Demand3.{passes_exactly}
use Rattle.savefile.specs.Savefile.{Rec, stays, is_cut, frame_of, counted, next_of, onward, walk_of, file_walk, opened_of}
use Rattle.refusals.specs.Refusal.{Answer}
use Rattle.refusals.specs.Refusal.Answer.{Refused, Given}
use Rattle.savefile.specs.declared.ByteOrder.{ByteOrder}
use Rattle.savefile.specs.declared.Header.{Header}
use Rattle.savefile.specs.declared.Record.{Record}
use Rattle.savefile.proofs.Walks.{inside}
use Rattle.savefile.proofs.Parts.{through}
use Rattle.savefile.proofs.Headers.{header_long, opened_header}
use Rattle.capture.specs.Capture.{rec_at, program_of, accepts, is_passed, is_dropped, tallied, judged_walk, unless_refused, judged_from, captured_of, holds_on, fails_on}
use Rattle.capture.specs.declared.Counted.{Counted}
use Rattle.capture.proofs.Counts.{part_byte}
use Rattle.capture.proofs.Captures.{written, sized}

-- "Passed plus dropped plus cut equals the records walked".
pub classes : (P s : List ℕ) (rs : List Rec) → counted (is_passed P s) rs + counted (is_dropped P s) rs + counted is_cut rs ≡ length rs
unfolding counted is_passed is_dropped
classes P s [] = refl
classes P s (r ∷ rs) = let h = classes P s rs in let q = one (is_cut r) (accepts P s r) in omega (arith, h, q)
  where
    one : (a b : Bool) → cond (not a && b) 1 0 + cond (not a && not b) 1 0 + cond a 1 0 ≡ 1
    one true b = refl
    one false true = refl
    one false false = refl

-- Two tests that agree on every record that lies in the file count the same records.
module _ (order : ByteOrder) (s : List ℕ) (f g : Rec → Bool) (same : (r : Rec) → r.from + r.captured ≤ length s → r.captured ≤ 16384 → f r ≡ g r) where
  pub same_count : (most at : ℕ) → counted f (walk_of most order s at).records ≡ counted g (walk_of most order s at).records
  unfolding walk_of counted
  same_count zero at = refl
  same_count (suc most) at = on_test (ltb at (length s)) (next_of order s at) refl (λ to. same_count most to)
    where
      on_test : (t : Bool) (x : Answer Record) → next_of order s at ≡ x → ((to : ℕ) → counted f (walk_of most order s to).records ≡ counted g (walk_of most order s to).records)
          → counted f (cond t (onward x at (λ to. walk_of most order s to)) (stays at)).records ≡ counted g (cond t (onward x at (λ to. walk_of most order s to)) (stays at)).records
      on_test true (Given x) e more =
          let h = inside order s at x e in
          rw (same (rec_at (at + 16) x) h.0 h.1, more (at + 16 + x.captured)) refl
      on_test true (Refused number place) e more = refl
      on_test false x e more = refl

-- A sheet that is accepted; in plain mode every comparison constant is below 2^31.
module _ (sheet : List ℕ) (link mode work l : ℕ) (out : List ℕ) (byte : Bytes sheet) (compiles : answer_of (outcome_of sheet link mode (length out) work) ≡ Given l)
    (plain : mode ≡ 0 → SmallSheet sheet) (file : List ℕ) (bytes : Bytes file) where
  abbrev prog : List ℕ
  prog = program_of (outcome_of sheet link mode (length out) work)

  -- "Demand 3 holds for each judged frame."
  pub accepts_exactly : (r : Rec) → r.from + r.captured ≤ length file → r.captured ≤ 16384 → accepts prog file r ≡ sheet_holds sheet link (frame_of file r)
  unfolding accepts frame_of
  accepts_exactly r room low =
      let q : length prog / 8 ≡ l = omega (arith, sized sheet link mode work l out byte compiles) in
      let k : length (take r.captured (drop r.from file)) ≡ r.captured = length-take-le r.captured (drop r.from file) (rw (length-drop r.from file) (omega arith)) in
      let w : Frame (take r.captured (drop r.from file)) 0 = record { byte = part_byte r.captured r.from file bytes; low = omega (arith, k) } in
      rw (q, ← written sheet link mode work l out byte compiles, (passes_exactly sheet link mode work l out byte compiles w plain).gives)
      (two (sheet_holds sheet link (take r.captured (drop r.from file))))
    where
      two : (b : Bool) → eqb (cond b 2 1) 2 ≡ b
      two true = refl
      two false = refl

  pub passed_exactly : (order : ByteOrder) (most at : ℕ) → counted (is_passed prog file) (walk_of most order file at).records ≡ counted (holds_on sheet link file) (walk_of most order file at).records
  unfolding is_passed holds_on
  passed_exactly order most at = same_count order file (is_passed prog file) (holds_on sheet link file) (λ r room low. rw (accepts_exactly r room low) refl) most at

  pub dropped_exactly : (order : ByteOrder) (most at : ℕ) → counted (is_dropped prog file) (walk_of most order file at).records ≡ counted (fails_on sheet link file) (walk_of most order file at).records
  unfolding is_dropped fails_on
  dropped_exactly order most at = same_count order file (is_dropped prog file) (fails_on sheet link file) (λ r room low. rw (accepts_exactly r room low) refl) most at

-- THEOREM: what the counts of a capture say, "each class defined over the file itself".
pub record Counts (file sheet : List ℕ) (header : Header) (c : Counted) : Type 0 where
  pub passes : c.tally.passed ≡ counted (holds_on sheet header.link file) (file_walk header.order file).records
  pub drops : c.tally.dropped ≡ counted (fails_on sheet header.link file) (file_walk header.order file).records
  pub cuts : c.tally.cut ≡ counted is_cut (file_walk header.order file).records
  pub adds_up : c.tally.passed + c.tally.dropped + c.tally.cut ≡ length (file_walk header.order file).records
  pub to_the_end : c.next ≡ length file

module _ (file sheet : List ℕ) (mode work : ℕ) (out : List ℕ) (bytes : Bytes file) (byte : Bytes sheet) (plain : mode ≡ 0 → SmallSheet sheet)
    (header : Header) (opens : opened_of file ≡ Given header) (c : Counted) where
  abbrev judged : Answer Counted
  judged = judged_walk (program_of (outcome_of sheet header.link mode (length out) work)) file (file_walk header.order file)

  counts_of : (l : ℕ) → answer_of (outcome_of sheet header.link mode (length out) work) ≡ Given l → judged ≡ Given c → Counts file sheet header c
  unfolding judged_walk tallied file_walk
  counts_of l m e =
      let h = opened_header file header opens in
      let P = program_of (outcome_of sheet header.link mode (length out) work) in
      let w = walk_of (length file) header.order file 24 in
      let k : Answer.Given (record { tally = tallied P file w.records; next = w.next }) ≡ Given c = rw h.sound at e in
      let q : record { tally = tallied P file w.records; next = w.next } ≡ c = cc in
      let ep : counted (is_passed P file) w.records ≡ c.tally.passed = ap (λ (x : Counted). x.tally.passed) q in
      let ed : counted (is_dropped P file) w.records ≡ c.tally.dropped = ap (λ (x : Counted). x.tally.dropped) q in
      let ec : counted is_cut w.records ≡ c.tally.cut = ap (λ (x : Counted). x.tally.cut) q in
      let en : w.next ≡ c.next = ap (λ (x : Counted). x.next) q in
      record {
        passes = sym ep ∙ passed_exactly sheet header.link mode work l out byte m plain file bytes header.order (length file) 24;
        drops = sym ed ∙ dropped_exactly sheet header.link mode work l out byte m plain file bytes header.order (length file) 24;
        cuts = sym ec;
        adds_up = omega (arith, ep, ed, ec, classes P file w.records);
        to_the_end = sym en ∙ through header.order file (length file) 24 (header_long file header h.header) (omega arith) (eqb-true _ _ h.sound);
      }

  pub counts_exactly : captured_of file sheet mode (length out) work ≡ Given c → Counts file sheet header c
  unfolding captured_of judged_from file_walk
  counts_exactly e = go (answer_of (outcome_of sheet header.link mode (length out) work)) refl (rw opens at e)
    where
      go : (x : Answer ℕ) → answer_of (outcome_of sheet header.link mode (length out) work) ≡ x → unless_refused x judged ≡ Given c → Counts file sheet header c
      go (Refused number place) m q = let z : ◌≡◌ {A = ℕ} 0 1 = cc in absurd (omega arith)
      go (Given l) m q = counts_of l m q
