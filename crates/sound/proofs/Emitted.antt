-- A piece of code behind instructions: the answers of `emit_expr` for And, Or and Not, and the two exits of `compile`.
use Prim.Native.Nat.{ℕ, ◌+◌}
use mathlib.Core.Path.{◌≡◌, refl, sym, ap, ◌∙◌}
use mathlib.Core.List.{List, [], ◌∷◌, ◌++◌, append_assoc, append-nil}
use native.Mathlib.Omega.{arith}
use lib.ListN.{length, length-append}
use Rattle.ebpf.specs.declared.insn.Insn.{Insn}
use Rattle.std.specs.Prelude.{Ok, Err}
use Rattle.patches.specs.Chain.{too_far, Patched}
use Rattle.patches.specs.Chain.{reach}
use Rattle.patches.specs.Code.{Slot, successes, failures}
use Rattle.patches.specs.Code.Slot.{success, failure}
use Rattle.patches.specs.Operators.{ja}
use Rattle.patches.specs.Whole as whole
use Rattle.patches.specs.Listing.{resolved_l, listed, ResL, and_done_l, or_done_l}
use Rattle.patches.specs.Listing.ResL.{ok_l}
use Rattle.pieces.specs.Fragments.{past, settled, one_of}
use Rattle.sound.specs.Filled.{filled}
use Rattle.sound.specs.Trees.{landed, swapped, both_of, none_of, epilogue}
use Rattle.sound.specs.Fitting.{SuccessNear, FailureNear}
use Rattle.pieces.proofs.Leading.{settled_length, past_is}
use Rattle.sound.proofs.Trees.{past_landed}
use Rattle.sound.proofs.ProgramLength.{length_landed, length_swapped}
use Rattle.sound.proofs.PatchLists.{insns, listed_insns, insns_append, length_insns, insns_swapped, insns_filled}
use Rattle.sound.proofs.PatchLists.{successes_append, failures_append, successes_before, failures_before, successes_swapped, failures_swapped}
use Rattle.sound.proofs.PatchLists.{successes_settled, failures_settled, successes_landed, failures_landed, near_landed}
use Rattle.sound.proofs.PatchLists.{successes_done, failures_done, successes_near, failures_near, successes_set, failures_set}

-- The piece xs behind the instructions `is`: all instructions, the next place, and the places of the open jumps.
abbrev pub joined : List Insn → List Slot → List Insn
joined is xs = is ++ insns xs

abbrev pub end : List Insn → List Slot → ℕ
end is xs = length (joined is xs)

abbrev pub on_success : List Insn → List Slot → List ℕ
on_success is xs = successes (length is) xs []

abbrev pub on_failure : List Insn → List Slot → List ℕ
on_failure is xs = failures (length is) xs []

-- The answer of `emit_expr` for it, n the number of the next primitive.
abbrev pub emitted : List Slot → ℕ → List Insn → ResL
emitted xs n is = ok_l (joined is xs) n (on_success is xs) (on_failure is xs)

pub same_answer : {is is' : List Insn} {n : ℕ} {sp sp' fp fp' : List ℕ} → is ≡ is' → sp ≡ sp' → fp ≡ fp' → ok_l is n sp fp ≡ ok_l is' n sp' fp'
same_answer e s f = cc

-- The lists of And, Or and Not, by those of their operands.
module _ (p : ℕ) (xs : List Slot) where
  and_successes : (ys : List Slot) → successes p (both_of xs ys) [] ≡ successes (p + length xs) ys []
  unfolding both_of
  and_successes ys = rw (successes_append p (landed 0 xs) ys [], length_landed 0 xs, successes_landed 0 p xs [])

  and_failures : (ys : List Slot) → failures p (both_of xs ys) [] ≡ failures (p + length xs) ys [] ++ failures p xs []
  unfolding both_of
  and_failures ys =
      rw (failures_append p (landed 0 xs) ys [], length_landed 0 xs, failures_landed 0 p xs []) (failures_before (p + length xs) ys (failures p xs []))

  or_successes : (ys : List Slot) → successes p (one_of xs ys) [] ≡ successes (p + length xs + 1) ys [] ++ ((p + length xs) ∷ successes p xs [])
  unfolding one_of successes
  or_successes ys =
      rw (successes_append p (settled 1 xs) (success ja ∷ ys) [], settled_length 1 xs, successes_settled 1 p xs [])
      (successes_before (p + length xs + 1) ys ((p + length xs) ∷ successes p xs []))

  or_failures : (ys : List Slot) → failures p (one_of xs ys) [] ≡ failures (p + length xs + 1) ys []
  unfolding one_of failures
  or_failures ys = rw (failures_append p (settled 1 xs) (success ja ∷ ys) [], settled_length 1 xs, failures_settled 1 p xs [])

  not_successes : successes p (none_of xs) [] ≡ []
  unfolding none_of successes
  not_successes =
      rw (successes_append p (swapped (settled 1 xs)) (failure ja ∷ []) [], successes_swapped p (settled 1 xs) []) (failures_settled 1 p xs [])

  not_failures : failures p (none_of xs) [] ≡ (p + length xs) ∷ successes p xs []
  unfolding none_of failures
  not_failures =
      rw (
        failures_append p (swapped (settled 1 xs)) (failure ja ∷ []) [],
        length_swapped (settled 1 xs),
        settled_length 1 xs,
        failures_swapped p (settled 1 xs) [],
        successes_settled 1 p xs [],
      )

-- Two pieces, one after the other.
both_joined : (is : List Insn) (xs ys : List Slot) → joined is xs ++ insns ys ≡ joined is (xs ++ ys)
both_joined is xs ys = append_assoc is (insns xs) (insns ys) ∙ ap (λ (js : List Insn). is ++ js) (sym (insns_append xs ys))

far_done : ◌≡◌ {A = Patched} (Err too_far) (Ok tt) → ⊥
far_done e = let z : ◌≡◌ {A = ℕ} 0 1 = cc e in absurd (omega arith)

module _ (is : List Insn) (xs : List Slot) where
  -- The next place, in three ways; then that behind the left operand of And, and of Or.
  end_is : end is xs ≡ length is + length xs
  end_is = omega (arith, length-append is (insns xs), length_insns xs)

  end_past : end is xs ≡ length is + past xs 0
  end_past = omega (arith, end_is, past_is xs 0)

  further_past : (k : ℕ) → end is xs + k ≡ length is + past xs k
  further_past k = omega (arith, end_is, past_is xs k)

  landed_end : end is (landed 0 xs) ≡ length is + length xs
  landed_end = omega (arith, length-append is (insns (landed 0 xs)), length_insns (landed 0 xs), length_landed 0 xs)

  settled_end : length (joined is (settled 1 xs) ++ (ja ∷ [])) ≡ length is + length xs + 1
  settled_end =
      omega (arith, length-append (joined is (settled 1 xs)) (ja ∷ []), length-append is (insns (settled 1 xs)), length_insns (settled 1 xs), settled_length 1 xs)

  -- And: the successes of the left operand lead to the right one.
  pub and_resolved : SuccessNear 0 xs → resolved_l (end is xs) (on_success is xs) (joined is xs) ≡ joined is (landed 0 xs)
  unfolding resolved_l
  and_resolved s =
      ap (λ (js : List Insn). resolved_l (end is xs) (on_success is xs) (is ++ js)) (sym (append-nil (insns xs)))
      ∙ successes_set (end is xs) 0 (length is) xs [] is [] refl end_past s
      ∙ ap (λ (js : List Insn). is ++ js) (append-nil (insns (landed 0 xs)))

  pub and_emitted : (ys : List Slot) (n : ℕ) → and_done_l (on_failure is xs) (emitted ys n (joined is (landed 0 xs))) ≡ emitted (both_of xs ys) n is
  unfolding both_of
  and_emitted ys n =
      same_answer (both_joined is (landed 0 xs) ys)
      (ap (λ (q : ℕ). successes q ys []) landed_end ∙ sym (and_successes (length is) xs ys))
      (ap (λ (q : ℕ). failures q ys [] ++ on_failure is xs) landed_end ∙ sym (and_failures (length is) xs ys))

  -- Or and Not: the failures lead past a JA.
  pub ja_resolved : FailureNear 1 xs → resolved_l (end is xs + 1) (on_failure is xs) (joined is xs ++ (ja ∷ [])) ≡ joined is (settled 1 xs) ++ (ja ∷ [])
  unfolding resolved_l
  ja_resolved f =
      ap (resolved_l (end is xs + 1) (on_failure is xs)) (append_assoc is (insns xs) (ja ∷ []))
      ∙ failures_set (end is xs + 1) 1 (length is) xs [] is (ja ∷ []) refl (further_past 1) f
      ∙ sym (append_assoc is (insns (settled 1 xs)) (ja ∷ []))

  pub or_emitted : (ys : List Slot) (n : ℕ)
      → or_done_l (end is xs ∷ on_success is xs) (emitted ys n (joined is (settled 1 xs) ++ (ja ∷ []))) ≡ emitted (one_of xs ys) n is
  unfolding one_of insns
  or_emitted ys n =
      same_answer (append_assoc (joined is (settled 1 xs)) (ja ∷ []) (insns ys) ∙ both_joined is (settled 1 xs) (success ja ∷ ys))
      (rw (settled_end, end_is) (sym (or_successes (length is) xs ys)))
      (ap (λ (q : ℕ). failures q ys []) settled_end ∙ sym (or_failures (length is) xs ys))

  pub not_emitted : (n : ℕ) → ok_l (joined is (settled 1 xs) ++ (ja ∷ [])) n [] (end is xs ∷ on_success is xs) ≡ emitted (none_of xs) n is
  unfolding none_of insns
  not_emitted n =
      same_answer
      (ap (λ (js : List Insn). (is ++ js) ++ (ja ∷ [])) (sym (insns_swapped (settled 1 xs))) ∙ both_joined is (swapped (settled 1 xs)) (failure ja ∷ []))
      (sym (not_successes (length is) xs))
      (ap (λ (q : ℕ). q ∷ on_success is xs) end_is ∙ sym (not_failures (length is) xs))

  -- The two exits: successes lead to the first, failures to the second.
  pub exits_resolved : SuccessNear 0 xs → FailureNear 2 xs
      → resolved_l (end is xs + 2) (on_failure is xs) (resolved_l (end is xs) (on_success is xs) (listed whole.epilogue (joined is xs))) ≡ is ++ (filled 0 2 xs ++ epilogue)
  unfolding resolved_l insns whole.epilogue epilogue
  exits_resolved s f =
      let to_drop : end is xs + 2 ≡ length is + past (landed 0 xs) 2 = further_past 2 ∙ ap (λ (q : ℕ). length is + q) (sym (past_landed 0 xs 2)) in
      ap (λ (js : List Insn). resolved_l (end is xs + 2) (on_failure is xs) (resolved_l (end is xs) (on_success is xs) js))
      (listed_insns whole.epilogue (joined is xs) ∙ append_assoc is (insns xs) epilogue)
      ∙ ap (resolved_l (end is xs + 2) (on_failure is xs)) (successes_set (end is xs) 0 (length is) xs [] is epilogue refl end_past s)
      ∙ ap (λ (ps : List ℕ). resolved_l (end is xs + 2) ps (is ++ (insns (landed 0 xs) ++ epilogue))) (sym (failures_landed 0 (length is) xs []))
      ∙ failures_set (end is xs + 2) 2 (length is) (landed 0 xs) [] is epilogue refl to_drop (near_landed 0 2 xs f)
      ∙ ap (λ (js : List Insn). is ++ (js ++ epilogue)) (insns_filled 0 2 xs)

  -- Refusal 10 comes where a jump is too far, and only there.
  pub success_near : reach (end is xs) (on_success is xs) ≡ Ok tt → SuccessNear 0 xs
  success_near e = (successes_near (end is xs) 0 (length is) xs [] end_past e).0

  pub failure_near : (k : ℕ) → reach (end is xs + k) (on_failure is xs) ≡ Ok tt → FailureNear k xs
  failure_near k e = (failures_near (end is xs + k) k (length is) xs [] (further_past k) e).0

  pub success_far : reach (end is xs) (on_success is xs) ≡ Err too_far → SuccessNear 0 xs → ⊥
  unfolding reach
  success_far e s = far_done (sym e ∙ successes_done (end is xs) 0 (length is) xs [] end_past s)

  pub failure_far : (k : ℕ) → reach (end is xs + k) (on_failure is xs) ≡ Err too_far → FailureNear k xs → ⊥
  unfolding reach
  failure_far k e f = far_done (sym e ∙ failures_done (end is xs + k) k (length is) xs [] (further_past k) f)
