-- The run of records holds the program: what is filled from the bytes of a list of instructions is that list.
use Prim.Native.Nat.{ℕ, zero, suc, ◌+◌, ◌*◌, ◌/◌, ◌<◌, ◌≤◌}
use mathlib.Core.Path.{◌≡◌, refl, sym, ap, ◌∙◌}
use mathlib.Core.List.{List, [], ◌∷◌, ◌++◌}
use native.Mathlib.Omega.{arith}
use native.Mathlib.Nat.{le_refl}
use borrow.Author.Tests.{le-leb}
use lib.ListN.{length, get_or, take, drop}
use lib.Seq.{take-suc, take-length}
use Rattle.ebpf.specs.Insn.{insn_at, fetch_at, exit_insn}
use Rattle.ebpf.specs.declared.insn.Insn.{Insn}
use Rattle.program.specs.Program.{code_of, Fits}
use Rattle.program.proofs.Bytes.{code_length, insn_read}
use Rattle.layers.specs.Records.{plan_of, count_of, record_of, records_of, filled_to, filled_run}
use Rattle.std.specs.Prelude.{Ok}
use Rattle.layers.proofs.Runs.{plan_records}

record_read : (p : List ℕ) (k : ℕ) → k * 8 + 8 ≤ length p → record_of p k ≡ insn_at p (k * 8)
unfolding record_of fetch_at
record_read p k h = simp (le-leb (k * 8 + 8) (length p) h)

module _ {is : List Insn} (fits : Fits is) where
  record_is : (k : ℕ) → k < length is → record_of (code_of is) k ≡ get_or is k exit_insn
  record_is k h =
      let place : k * 8 ≡ 8 * k = omega arith in
      record_read (code_of is) k (omega (arith, code_length is)) ∙ ap (insn_at (code_of is)) place ∙ insn_read fits k h

  first_records : (n : ℕ) → n ≤ length is → records_of (code_of is) n ≡ take n is
  unfolding records_of
  first_records zero h = refl
  first_records (suc n) h =
      let h' : n < length is = omega arith in
      ap (λ (l : List Insn). l ++ (record_of (code_of is) n ∷ [])) (first_records n (omega arith))
      ∙ ap (λ (i : Insn). take n is ++ (i ∷ [])) (record_is n h')
      ∙ sym (take-suc is n exit_insn h')

  -- THEOREM: the records of a program's bytes are its instructions.
  pub records_hold : records_of (code_of is) (length is) ≡ is
  records_hold = first_records (length is) (le_refl (length is)) ∙ take-length is

  -- THEOREM: a run with room for them holds the instructions after it is filled, and then what it held before.
  pub run_holds : (ys : List Insn) → length is ≤ length ys → filled_run (code_of is) ys ≡ is ++ drop (length is) ys
  unfolding filled_run filled_to count_of
  run_holds ys h =
      let many : length (code_of is) / 8 ≡ length is = omega (arith, code_length is) in
      let planned : Ok (length is) ≡ plan_of (length (code_of is)) (length ys) =
      rw (← many) (plan_records (length (code_of is)) (length ys) (omega (arith, code_length is)) (omega (arith, code_length is))) in
      rw (← planned) (ap (λ (l : List Insn). l ++ drop (length is) ys) records_hold)
