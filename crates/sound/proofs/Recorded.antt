-- THEOREM: the record layer holds the program that `compile` made.
use Prim.Native.Nat.{ℕ, ◌*◌, ◌≤◌}
use mathlib.Core.Path.{◌≡◌, sym, ap, ◌∙◌}
use mathlib.Core.List.{List, [], ◌++◌}
use native.Mathlib.Omega.{arith}
use lib.ListN.{length, drop, take}
use Rattle.ebpf.specs.declared.insn.Insn.{Insn}
use Rattle.program.specs.Program.{code_of, Fits}
use Rattle.program.specs.Ends.{Frame}
use Rattle.program.proofs.Bytes.{code_length}
use Rattle.layers.specs.Records.{filled_run}
use Rattle.layers.proofs.Held.{run_holds}
use Rattle.patches.specs.Listing.CompL.{made_l}
use Rattle.generator.specs.Compile.{outcome_of, answer_of, output_after}
use Rattle.generator.specs.Compile.Outcome.{late}
use Rattle.refusals.specs.Refusal.Answer.{Given}
use Rattle.sound.specs.Demand.{Bytes}
use Rattle.sound.proofs.Accepted.{accepted}
use Rattle.sound.proofs.Checked.{sheet_allowed}
use Rattle.sound.proofs.Sheets.{sheet_fits}

no_frame : Frame [] 0
no_frame = record { byte = λ i. omega arith; low = omega arith }

-- The instructions that `compile` made, and a run of records ys filled from the first 8 x L bytes of its output: the run holds them.
pub record Recorded (s : List ℕ) (link mode work l : ℕ) (out : List ℕ) (ys : List Insn) : Type 0 where
  pub tokens : ℕ
  pub is : List Insn
  pub made : outcome_of s link mode (length out) work ≡ late l tokens (made_l is)
  pub holds : filled_run (take (8 * l) (output_after (outcome_of s link mode (length out) work) out)) ys ≡ is ++ drop l ys

pub records_hold_compiled : (s : List ℕ) (link mode work l : ℕ) (out : List ℕ) → Bytes s → answer_of (outcome_of s link mode (length out) work) ≡ Given l
    → (ys : List Insn) → l ≤ length ys → Recorded s link mode work l out ys
records_hold_compiled s link mode work l out byte compiles ys room =
    let v = accepted s link mode work l out byte compiles in
    let fits : Fits v.is = rw v.by_tree (sheet_fits no_frame mode (sheet_allowed s link v.a v.b v.c byte v.checked v.allowed) v.near) in
    let many : length v.is ≡ l = omega (arith, v.size, code_length v.is) in
    let held : filled_run (code_of v.is) ys ≡ v.is ++ drop (length v.is) ys = run_holds fits ys (omega (arith, many, room)) in
    record {
      tokens = v.c;
      is = v.is;
      made = v.outcome_is;
      holds =
          ap (λ (p : List ℕ). filled_run p ys) (v.written ∙ ap code_of (sym v.by_tree))
          ∙ held ∙ ap (λ (n : ℕ). v.is ++ drop n ys) many;
    }
