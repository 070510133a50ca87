-- The patch lists of a piece of code: how they look in pieces put together, which of them `resolve_all` takes, and the instructions after it.
use Prim.Native.Nat.{ℕ, suc, ◌+◌, ◌-◌, ◌^◌, ◌<◌}
use mathlib.Core.Path.{◌≡◌, refl, sym, ap, ◌∙◌}
use mathlib.Core.Bool.{Bool, true, false, cond}
use mathlib.Core.List.{List, [], ◌∷◌, ◌++◌, append_assoc, append-nil}
use native.Mathlib.Omega.{arith}
use native.Mathlib.Nat.{add-zero}
use borrow.Author.Tests.{le-ltb, ltb-false}
use lib.Dec.{ltb}
use lib.ListN.{length}
use Rattle.ebpf.specs.declared.insn.Insn.{Insn}
use Rattle.std.specs.Prelude.{Ok, Err}
use Rattle.patches.specs.Chain.{reach}
use Rattle.patches.specs.Code.{Slot, insn, successes, failures, with_off}
use Rattle.patches.specs.Code.Slot.{fixed, success, failure}
use Rattle.patches.specs.Listing.{set_off, resolved_l, listed}
use Rattle.patches.proofs.Bytes.{length_snoc}
use Rattle.pieces.specs.Fragments.{past, settled}
use Rattle.sound.specs.Filled.{filled}
use Rattle.sound.specs.Trees.{landed, swapped}
use Rattle.sound.specs.Fitting.{SuccessNear, FailureNear}
use Rattle.sound.proofs.Trees.{past_landed}

-- The instructions of a run of slots, whatever is open.
unfoldable pub insns : List Slot → List Insn
insns [] = []
insns (x ∷ xs) = insn x ∷ insns xs

pub listed_insns : (xs : List Slot) (is : List Insn) → listed xs is ≡ is ++ insns xs
unfolding listed insns
listed_insns [] is = sym (append-nil is)
listed_insns (x ∷ xs) is = listed_insns xs (is ++ (insn x ∷ [])) ∙ append_assoc is (insn x ∷ []) (insns xs)

pub insns_append : (xs ys : List Slot) → insns (xs ++ ys) ≡ insns xs ++ insns ys
unfolding insns
insns_append [] ys = refl
insns_append (x ∷ xs) ys = ap (λ (is : List Insn). insn x ∷ is) (insns_append xs ys)

pub length_insns : (xs : List Slot) → length (insns xs) ≡ length xs
unfolding insns
length_insns [] = refl
length_insns (x ∷ xs) = ap suc (length_insns xs)

pub insns_swapped : (xs : List Slot) → insns (swapped xs) ≡ insns xs
unfolding insns swapped
insns_swapped [] = refl
insns_swapped (fixed i ∷ xs) = ap (λ (is : List Insn). i ∷ is) (insns_swapped xs)
insns_swapped (success i ∷ xs) = ap (λ (is : List Insn). i ∷ is) (insns_swapped xs)
insns_swapped (failure i ∷ xs) = ap (λ (is : List Insn). i ∷ is) (insns_swapped xs)

-- Nothing is open any more.
pub insns_filled : (a b : ℕ) (xs : List Slot) → insns (settled b (landed a xs)) ≡ filled a b xs
unfolding insns settled landed filled
insns_filled a b [] = refl
insns_filled a b (fixed i ∷ xs) = rw (insns_filled a b xs)
insns_filled a b (success i ∷ xs) = rw (insns_filled a b xs)
insns_filled a b (failure i ∷ xs) = rw (insns_filled a b xs, past_landed a xs b)

further : (p n : ℕ) → p + 1 + n ≡ p + suc n
further p n = omega arith

-- The lists of two pieces, one after the other.
pub successes_append : (p : ℕ) (xs ys : List Slot) (ps : List ℕ) → successes p (xs ++ ys) ps ≡ successes (p + length xs) ys (successes p xs ps)
unfolding successes
successes_append p [] ys ps = rw (add-zero p)
successes_append p (fixed i ∷ xs) ys ps = rw (successes_append (p + 1) xs ys ps, further p (length xs))
successes_append p (success i ∷ xs) ys ps = rw (successes_append (p + 1) xs ys (p ∷ ps), further p (length xs))
successes_append p (failure i ∷ xs) ys ps = rw (successes_append (p + 1) xs ys ps, further p (length xs))

pub failures_append : (p : ℕ) (xs ys : List Slot) (ps : List ℕ) → failures p (xs ++ ys) ps ≡ failures (p + length xs) ys (failures p xs ps)
unfolding failures
failures_append p [] ys ps = rw (add-zero p)
failures_append p (fixed i ∷ xs) ys ps = rw (failures_append (p + 1) xs ys ps, further p (length xs))
failures_append p (success i ∷ xs) ys ps = rw (failures_append (p + 1) xs ys ps, further p (length xs))
failures_append p (failure i ∷ xs) ys ps = rw (failures_append (p + 1) xs ys (p ∷ ps), further p (length xs))

-- The places that were there before stand behind.
pub successes_before : (p : ℕ) (xs : List Slot) (ps : List ℕ) → successes p xs ps ≡ successes p xs [] ++ ps
unfolding successes
successes_before p [] ps = refl
successes_before p (fixed i ∷ xs) ps = successes_before (p + 1) xs ps
successes_before p (success i ∷ xs) ps =
    successes_before (p + 1) xs (p ∷ ps)
    ∙ sym (append_assoc (successes (p + 1) xs []) (p ∷ []) ps)
    ∙ ap (λ (qs : List ℕ). qs ++ ps) (sym (successes_before (p + 1) xs (p ∷ [])))
successes_before p (failure i ∷ xs) ps = successes_before (p + 1) xs ps

-- NOT turns the lists.
pub successes_swapped : (p : ℕ) (xs : List Slot) (ps : List ℕ) → successes p (swapped xs) ps ≡ failures p xs ps
unfolding successes failures swapped
successes_swapped p [] ps = refl
successes_swapped p (fixed i ∷ xs) ps = successes_swapped (p + 1) xs ps
successes_swapped p (success i ∷ xs) ps = successes_swapped (p + 1) xs ps
successes_swapped p (failure i ∷ xs) ps = successes_swapped (p + 1) xs (p ∷ ps)

pub failures_swapped : (p : ℕ) (xs : List Slot) (ps : List ℕ) → failures p (swapped xs) ps ≡ successes p xs ps
unfolding successes failures swapped
failures_swapped p [] ps = refl
failures_swapped p (fixed i ∷ xs) ps = failures_swapped (p + 1) xs ps
failures_swapped p (success i ∷ xs) ps = failures_swapped (p + 1) xs (p ∷ ps)
failures_swapped p (failure i ∷ xs) ps = failures_swapped (p + 1) xs ps

pub failures_before : (p : ℕ) (xs : List Slot) (ps : List ℕ) → failures p xs ps ≡ failures p xs [] ++ ps
failures_before p xs ps =
    sym (successes_swapped p xs ps) ∙ successes_before p (swapped xs) ps ∙ ap (λ (qs : List ℕ). qs ++ ps) (successes_swapped p xs [])

-- What is led on leaves its list; the other list stays.
pub successes_settled : (k p : ℕ) (xs : List Slot) (ps : List ℕ) → successes p (settled k xs) ps ≡ successes p xs ps
unfolding successes settled
successes_settled k p [] ps = refl
successes_settled k p (fixed i ∷ xs) ps = successes_settled k (p + 1) xs ps
successes_settled k p (success i ∷ xs) ps = successes_settled k (p + 1) xs (p ∷ ps)
successes_settled k p (failure i ∷ xs) ps = successes_settled k (p + 1) xs ps

pub failures_settled : (k p : ℕ) (xs : List Slot) (ps : List ℕ) → failures p (settled k xs) ps ≡ ps
unfolding failures settled
failures_settled k p [] ps = refl
failures_settled k p (fixed i ∷ xs) ps = failures_settled k (p + 1) xs ps
failures_settled k p (success i ∷ xs) ps = failures_settled k (p + 1) xs ps
failures_settled k p (failure i ∷ xs) ps = failures_settled k (p + 1) xs ps

pub successes_landed : (k p : ℕ) (xs : List Slot) (ps : List ℕ) → successes p (landed k xs) ps ≡ ps
unfolding successes landed
successes_landed k p [] ps = refl
successes_landed k p (fixed i ∷ xs) ps = successes_landed k (p + 1) xs ps
successes_landed k p (success i ∷ xs) ps = successes_landed k (p + 1) xs ps
successes_landed k p (failure i ∷ xs) ps = successes_landed k (p + 1) xs ps

pub failures_landed : (k p : ℕ) (xs : List Slot) (ps : List ℕ) → failures p (landed k xs) ps ≡ failures p xs ps
unfolding failures landed
failures_landed k p [] ps = refl
failures_landed k p (fixed i ∷ xs) ps = failures_landed k (p + 1) xs ps
failures_landed k p (success i ∷ xs) ps = failures_landed k (p + 1) xs ps
failures_landed k p (failure i ∷ xs) ps = failures_landed k (p + 1) xs (p ∷ ps)

-- Successes that are led on bring no failure nearer or farther.
pub near_landed : (a b : ℕ) (xs : List Slot) → FailureNear b xs → FailureNear b (landed a xs)
unfolding landed
near_landed a b [] n = tt
near_landed a b (fixed i ∷ xs) n = near_landed a b xs n
near_landed a b (success i ∷ xs) n = near_landed a b xs n
near_landed a b (failure i ∷ xs) n = let e = past_landed a xs b in let l = n.0 in (omega arith, near_landed a b xs n.1)

-- The distance of the instruction behind `is`.
set_at : (is rest : List Insn) (i : Insn) (d : ℕ) → set_off (is ++ (i ∷ rest)) (length is) d ≡ is ++ (with_off d i ∷ rest)
unfolding set_off with_off
set_at [] rest i d = refl
set_at (j ∷ is) rest i d = ap (λ (js : List Insn). j ∷ js) (set_at is rest i d)

-- The jump at place p leads d instructions past itself.
module _ (target p d : ℕ) (ps : List ℕ) (leads : target ≡ suc p + d) where
  one_done : d < 2 ^ 15 → reach target (p ∷ ps) ≡ reach target ps
  unfolding reach
  one_done l = let e : target - suc p ≡ d = omega arith in rw (e, le-ltb 32767 d (omega arith))

  one_near : reach target (p ∷ ps) ≡ Ok tt → (d < 2 ^ 15) × (reach target ps ≡ Ok tt)
  unfolding reach
  one_near h = go (ltb 32767 (target - suc p)) refl h
    where
      go : (far : Bool) → ltb 32767 (target - suc p) ≡ far → cond far (Err _) (reach target ps) ≡ (Ok _) → (d < 2 ^ 15) × (reach target ps ≡ (Ok _))
      go true e h = let z : ◌≡◌ {A = ℕ} 0 1 = cc h in absurd (omega arith)
      go false e h = let l = ltb-false 32767 (target - suc p) e in (omega arith, h)

  one_set : (is rest : List Insn) (i : Insn) → length is ≡ p → d < 2 ^ 15
      → resolved_l target (p ∷ ps) (is ++ (i ∷ rest)) ≡ resolved_l target ps (is ++ (with_off d i ∷ rest))
  unfolding resolved_l
  one_set is rest i at l =
      let e : target - suc p ≡ d = omega arith in
      rw (e, le-ltb 32767 d (omega arith))
      (ap (resolved_l target ps) (ap (λ (q : ℕ). set_off (is ++ (i ∷ rest)) q d) (sym at) ∙ set_at is rest i d))

one_more : {p : ℕ} (is : List Insn) (i : Insn) → length is ≡ p → length (is ++ (i ∷ [])) ≡ p + 1
one_more is i at = length_snoc is i ∙ ap (λ (q : ℕ). q + 1) at

-- The first instruction is counted among those before.
next : (target : ℕ) (ps qs : List ℕ) (is xs ys : List Insn) (i : Insn)
    → resolved_l target ps ((is ++ (i ∷ [])) ++ xs) ≡ resolved_l target qs ((is ++ (i ∷ [])) ++ ys)
    → resolved_l target ps (is ++ (i ∷ xs)) ≡ resolved_l target qs (is ++ (i ∷ ys))
next target ps qs is xs ys i h =
    ap (resolved_l target ps) (sym (append_assoc is (i ∷ []) xs)) ∙ h ∙ ap (resolved_l target qs) (append_assoc is (i ∷ []) ys)

-- `resolve_all` of a piece that begins at place p, its jumps led d instructions past its end.
module _ (target d : ℕ) where
  -- It is not refused where they are near;
  pub successes_done : (p : ℕ) (xs : List Slot) (ps : List ℕ) → target ≡ p + past xs d → SuccessNear d xs
      → reach target (successes p xs ps) ≡ reach target ps
  unfolding successes past
  successes_done p [] ps e n = refl
  successes_done p (fixed i ∷ xs) ps e n = successes_done (p + 1) xs ps (omega arith) n
  successes_done p (success i ∷ xs) ps e n =
      successes_done (p + 1) xs (p ∷ ps) (omega arith) n.1 ∙ one_done target p (past xs d) ps (omega arith) n.0
  successes_done p (failure i ∷ xs) ps e n = successes_done (p + 1) xs ps (omega arith) n

  pub failures_done : (p : ℕ) (xs : List Slot) (ps : List ℕ) → target ≡ p + past xs d → FailureNear d xs
      → reach target (failures p xs ps) ≡ reach target ps
  unfolding failures past
  failures_done p [] ps e n = refl
  failures_done p (fixed i ∷ xs) ps e n = failures_done (p + 1) xs ps (omega arith) n
  failures_done p (success i ∷ xs) ps e n = failures_done (p + 1) xs ps (omega arith) n
  failures_done p (failure i ∷ xs) ps e n =
      failures_done (p + 1) xs (p ∷ ps) (omega arith) n.1 ∙ one_done target p (past xs d) ps (omega arith) n.0

  -- and nowhere else;
  pub successes_near : (p : ℕ) (xs : List Slot) (ps : List ℕ) → target ≡ p + past xs d → reach target (successes p xs ps) ≡ Ok tt
      → SuccessNear d xs × (reach target ps ≡ Ok tt)
  unfolding successes past
  successes_near p [] ps e h = (tt, h)
  successes_near p (fixed i ∷ xs) ps e h = successes_near (p + 1) xs ps (omega arith) h
  successes_near p (success i ∷ xs) ps e h =
      let later = successes_near (p + 1) xs (p ∷ ps) (omega arith) h in
      let this = one_near target p (past xs d) ps (omega arith) later.1 in
      ((this.0, later.0), this.1)
  successes_near p (failure i ∷ xs) ps e h = successes_near (p + 1) xs ps (omega arith) h

  pub failures_near : (p : ℕ) (xs : List Slot) (ps : List ℕ) → target ≡ p + past xs d → reach target (failures p xs ps) ≡ Ok tt
      → FailureNear d xs × (reach target ps ≡ Ok tt)
  unfolding failures past
  failures_near p [] ps e h = (tt, h)
  failures_near p (fixed i ∷ xs) ps e h = failures_near (p + 1) xs ps (omega arith) h
  failures_near p (success i ∷ xs) ps e h = failures_near (p + 1) xs ps (omega arith) h
  failures_near p (failure i ∷ xs) ps e h =
      let later = failures_near (p + 1) xs (p ∷ ps) (omega arith) h in
      let this = one_near target p (past xs d) ps (omega arith) later.1 in
      ((this.0, later.0), this.1)

  -- and the piece is then the one whose jumps are led there.
  pub successes_set : (p : ℕ) (xs : List Slot) (ps : List ℕ) (is rest : List Insn) → length is ≡ p → target ≡ p + past xs d → SuccessNear d xs
      → resolved_l target (successes p xs ps) (is ++ (insns xs ++ rest)) ≡ resolved_l target ps (is ++ (insns (landed d xs) ++ rest))
  unfolding successes past insns landed
  successes_set p [] ps is rest at e n = refl
  successes_set p (fixed i ∷ xs) ps is rest at e n =
      next target _ _ is _ _ i (successes_set (p + 1) xs ps (is ++ (i ∷ [])) rest (one_more is i at) (omega arith) n)
  successes_set p (success i ∷ xs) ps is rest at e n =
      next target _ _ is _ _ i (successes_set (p + 1) xs (p ∷ ps) (is ++ (i ∷ [])) rest (one_more is i at) (omega arith) n.1)
      ∙ one_set target p (past xs d) ps (omega arith) is _ i at n.0
  successes_set p (failure i ∷ xs) ps is rest at e n =
      next target _ _ is _ _ i (successes_set (p + 1) xs ps (is ++ (i ∷ [])) rest (one_more is i at) (omega arith) n)

  pub failures_set : (p : ℕ) (xs : List Slot) (ps : List ℕ) (is rest : List Insn) → length is ≡ p → target ≡ p + past xs d → FailureNear d xs
      → resolved_l target (failures p xs ps) (is ++ (insns xs ++ rest)) ≡ resolved_l target ps (is ++ (insns (settled d xs) ++ rest))
  unfolding failures past insns settled
  failures_set p [] ps is rest at e n = refl
  failures_set p (fixed i ∷ xs) ps is rest at e n =
      next target _ _ is _ _ i (failures_set (p + 1) xs ps (is ++ (i ∷ [])) rest (one_more is i at) (omega arith) n)
  failures_set p (success i ∷ xs) ps is rest at e n =
      next target _ _ is _ _ i (failures_set (p + 1) xs ps (is ++ (i ∷ [])) rest (one_more is i at) (omega arith) n)
  failures_set p (failure i ∷ xs) ps is rest at e n =
      next target _ _ is _ _ i (failures_set (p + 1) xs (p ∷ ps) (is ++ (i ∷ [])) rest (one_more is i at) (omega arith) n.1)
      ∙ one_set target p (past xs d) ps (omega arith) is _ i at n.0
