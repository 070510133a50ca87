-- From the compiled program and the file to the answer.
use Prim.Native.Nat.{ℕ, ◌*◌, ◌/◌, ◌≤◌}
use mathlib.Core.Path.{◌≡◌, refl}
use mathlib.Core.List.{List, ◌++◌}
use native.Mathlib.Omega.{arith}
use lib.ListN.{length, take, drop}
use lib.Seq.{take-append_seam}
use Rattle.program.specs.Program.{code_of}
use Rattle.program.specs.Ends.{Frame}
use Rattle.generator.specs.Compile.{outcome_of, answer_of, output_after}
use Rattle.sound.specs.Demand.{Bytes}
use Rattle.sound.proofs.Demand3.{always_exits}
use Rattle.sound.proofs.Accepted.{accepted}
use Rattle.savefile.specs.Savefile.{walk_of}
use Rattle.capture.specs.Capture.{Always, program_of, judged_walk, judged_from}
use Rattle.refusals.specs.Refusal.{Answer}
use Rattle.refusals.specs.Refusal.Answer.{Refused, Given}
use Rattle.savefile.specs.declared.Header.{Header}
use Rattle.capture.specs.declared.Counted.{Counted}

front : (n : ℕ) (xs ys : List ℕ) → length xs ≡ n → take n (xs ++ ys) ≡ xs
front n xs ys e = rw (← e) (take-append_seam xs ys)

-- An accepted sheet: the first 8 x L bytes of the output are the program, and it exits on every frame.
module _ (s : List ℕ) (link mode work l : ℕ) (out : List ℕ) (byte : Bytes s) (e : answer_of (outcome_of s link mode (length out) work) ≡ Given l) where
  pub room : 8 * l ≤ length out
  room = (accepted s link mode work l out byte e).room

  pub written : take (8 * l) (output_after (outcome_of s link mode (length out) work) out) ≡ program_of (outcome_of s link mode (length out) work)
  unfolding output_after program_of
  written = let v = accepted s link mode work l out byte e in rw v.outcome_is (front (8 * l) (code_of v.is) (drop (8 * l) out) v.size)

  pub sized : length (program_of (outcome_of s link mode (length out) work)) ≡ 8 * l
  unfolding program_of
  sized = let v = accepted s link mode work l out byte e in rw v.outcome_is v.size

  pub exits_always : Always (program_of (outcome_of s link mode (length out) work))
  exits_always frame byte' low =
      let q : length (program_of (outcome_of s link mode (length out) work)) / 8 ≡ l = omega (arith, sized) in
      let w : Frame frame 0 = record { byte = byte'; low = omega arith } in
      rw (q, ← written) (always_exits s link mode work l out byte e w).1.exits

module _ (header : Header) (file sheet : List ℕ) (mode output work at most : ℕ) where
  pub sheet_refused : (number place : ℕ) → answer_of (outcome_of sheet header.link mode output work) ≡ Refused number place
      → Refused number place ≡ judged_from header file sheet mode output work at most
  unfolding judged_from
  sheet_refused number place m = rw m refl

  pub all_judged : (l : ℕ) → answer_of (outcome_of sheet header.link mode output work) ≡ Given l → (r : Answer Counted)
      → r ≡ judged_walk (program_of (outcome_of sheet header.link mode output work)) file (walk_of most header.order file at) → r ≡ judged_from header file sheet mode output work at most
  unfolding judged_from
  all_judged l m r q = rw m q
