-- Laws of a run that is filled: each case of its definitions by the fact that leads there, and what is found in it. Assumes nothing.
use Prim.Native.Nat.{ℕ, zero, suc, zero-le, ◌+◌, ◌-◌, ◌*◌, ◌/◌, ◌%◌, ◌<◌, ◌≤◌}
use Rattle.std.specs.Prelude.{Some, Result, Ok, Err, slice_get}
use Rattle.std.proofs.lemmas.Option.{slice_get-get_or, slice_get_past}
use Rattle.std.proofs.Math.Decide.{dec_le}
use Rattle.std.proofs.Math.Nat.{lt_of_not-le}
use mathlib.Core.Path.{◌≡◌, refl, sym, ap, subst, ◌∙◌}
use mathlib.Core.Logic.{◌⊎◌, inl, inr}
use mathlib.Core.Bool.{Bool, true, false, cond}
use mathlib.Core.List.{List, [], ◌∷◌, ◌++◌}
use native.Mathlib.Omega.{arith}
use native.Mathlib.Numerals.{add-one}
use native.Mathlib.Nat.{add-sub_of_le, eq-or-lt_of_le, le_of_suc-le-suc, le_refl, lt_of_lt_of_le}
use lib.Dec.{eqb, leb}
use lib.ListN.{length, get_or, set, drop, replicate, length-append, length-drop}
use lib.Seq.{drop-cons, set-append_seam, append_snoc, get_or-append_seam, get_or-append-add, get_or-drop}
use borrow.Author.Tests.{leb-true, eq-eqb, le-leb}
use Rattle.ebpf.specs.Insn.{fetch_at}
use Rattle.ebpf.specs.declared.insn.Insn.{Insn}
use Rattle.layers.specs.Records.{no_insn, plan_of, count_of, record_of, records_of, filled_to, filled_run, found_at, empty_run}
use Rattle.layers.specs.declared.records.NotFilled.{NotFilled}
use Rattle.layers.specs.declared.records.NotFilled.TheVariants.{NotWhole, TooFew}

module _ (n m : ℕ) where
  pub plan_records : n % 8 ≡ 0 → n / 8 ≤ m → Ok (n / 8) ≡ plan_of n m
  unfolding plan_of
  plan_records whole enough = simp (eq-eqb (n % 8) 0 whole, le-leb (n / 8) m enough)

  -- the records that are filled are in the run and in the bytes
  pub count_fits : (count_of (plan_of n m) ≤ m) × (count_of (plan_of n m) ≤ n / 8)
  unfolding plan_of count_of
  count_fits = whole (eqb (n % 8) 0)
    where
      enough : (t : Bool) → leb (n / 8) m ≡ t → (count_of (cond {A = Result ℕ NotFilled} t (Ok (n / 8)) (Err TooFew)) ≤ m) × (count_of (cond {A = Result ℕ NotFilled} t (Ok (n / 8)) (Err TooFew)) ≤ n / 8)
      enough true e = (leb-true (n / 8) m e, le_refl (n / 8))
      enough false e = (zero-le, zero-le)

      whole : (t : Bool) → (count_of (cond {A = Result ℕ NotFilled} t (cond (leb (n / 8) m) (Ok (n / 8)) (Err TooFew)) (Err NotWhole)) ≤ m) × (count_of (cond {A = Result ℕ NotFilled} t (cond (leb (n / 8) m) (Ok (n / 8)) (Err TooFew)) (Err NotWhole)) ≤ n / 8)
      whole true = enough (leb (n / 8) m) refl
      whole false = (zero-le, zero-le)

module _ (p : List ℕ) (k : ℕ) where
  -- where the eight bytes are there, the record is what is fetched
  pub record_fetched : k < length p / 8 → Some (record_of p k) ≡ fetch_at p (k * 8)
  unfolding record_of fetch_at
  record_fetched h = simp (le-leb (k * 8 + 8) (length p) (omega (arith, h)))

pub length_records : (p : List ℕ) (n : ℕ) → length (records_of p n) ≡ n
unfolding records_of
length_records p zero = refl
length_records p (suc n) = length-append (records_of p n) (record_of p n ∷ []) ∙ ap (λ (k : ℕ). k + 1) (length_records p n) ∙ add-one n

module _ (p : List ℕ) (ys : List Insn) where
  pub length_filled : (k : ℕ) → k ≤ length ys → length (filled_to p ys k) ≡ length ys
  unfolding filled_to
  length_filled k h =
      length-append (records_of p k) (drop k ys) ∙ ap (λ (n : ℕ). n + length (drop k ys)) (length_records p k) ∙ ap (λ (n : ℕ). k + n) (length-drop k ys) ∙ add-sub_of_le h

  -- one record more
  pub filled_next : (k : ℕ) → k < length ys → set (filled_to p ys k) k (record_of p k) ≡ filled_to p ys (k + 1)
  unfolding filled_to records_of
  filled_next k h =
      ap (λ (l : List Insn). set (records_of p k ++ l) k (record_of p k)) (drop-cons ys k no_insn h)
      ∙ ap (λ (i : ℕ). set (records_of p k ++ (get_or ys k no_insn ∷ drop (suc k) ys)) i (record_of p k)) (sym (length_records p k))
      ∙ set-append_seam (records_of p k) (get_or ys k no_insn) (drop (suc k) ys) (record_of p k)
      ∙ sym (append_snoc (records_of p k) (record_of p k) (drop (suc k) ys))
      ∙ ap (λ (n : ℕ). filled_to p ys n) (sym (add-one k))

  -- the first n records of the run, and those past them
  records_at : (n k : ℕ) (l : List Insn) → k < n → get_or (records_of p n ++ l) k no_insn ≡ record_of p k
  unfolding records_of
  records_at zero k l h = absurd (omega (arith, h))
  records_at (suc n) k l h =
      ap (λ (zs : List Insn). get_or zs k no_insn) (append_snoc (records_of p n) (record_of p n) l)
      ∙ at_seam (λ less. records_at n k (record_of p n ∷ l) less) (eq-or-lt_of_le (le_of_suc-le-suc h))
    where
      at_seam : (k < n → get_or (records_of p n ++ (record_of p n ∷ l)) k no_insn ≡ record_of p k) → (k ≡ n) ⊎ (k < n) → get_or (records_of p n ++ (record_of p n ∷ l)) k no_insn ≡ record_of p k
      at_seam before (inl e) =
          ap (λ (j : ℕ). get_or (records_of p n ++ (record_of p n ∷ l)) j no_insn) (e ∙ sym (length_records p n))
          ∙ get_or-append_seam (records_of p n) (record_of p n) l no_insn ∙ ap (record_of p) (sym e)
      at_seam before (inr less) = before less

  filled_at : (n k : ℕ) → k < n → get_or (filled_to p ys n) k no_insn ≡ record_of p k
  unfolding filled_to
  filled_at n k h = records_at n k (drop n ys) h

  left_at : (n k : ℕ) → n ≤ k → get_or (filled_to p ys n) k no_insn ≡ get_or ys k no_insn
  unfolding filled_to
  left_at n k h =
      ap (λ (j : ℕ). get_or (records_of p n ++ drop n ys) j no_insn) (sym (add-sub_of_le h) ∙ ap (λ (j : ℕ). j + (k - n)) (sym (length_records p n)))
      ∙ get_or-append-add (records_of p n) (drop n ys) (k - n) no_insn ∙ get_or-drop n ys (k - n) no_insn ∙ ap (λ (j : ℕ). get_or ys j no_insn) (add-sub_of_le h)

  -- a run is as long after it is filled as before
  pub length_run : length (filled_run p ys) ≡ length ys
  unfolding filled_run
  length_run = length_filled (count_of (plan_of (length p) (length ys))) (count_fits (length p) (length ys)).0

  -- a run that is refused, or filled with no record, is left as it was
  pub run_left : count_of (plan_of (length p) (length ys)) ≡ 0 → filled_run p ys ≡ ys
  unfolding filled_run filled_to records_of
  run_left none = ap (filled_to p ys) none

  -- a record that is filled is the instruction that is fetched at its eight bytes
  pub found_filled : (k : ℕ) → k < count_of (plan_of (length p) (length ys)) → found_at (filled_run p ys) k ≡ fetch_at p (k * 8)
  unfolding found_at filled_run
  found_filled k h =
      let n : ℕ = count_of (plan_of (length p) (length ys)) in
      let fits : k < length (filled_to p ys n) = subst (λ (m : ℕ). k < m) (sym length_run) (lt_of_lt_of_le h (count_fits (length p) (length ys)).0) in
      slice_get-get_or (filled_to p ys n) k no_insn fits ∙ ap Some (filled_at n k h)
      ∙ record_fetched p k (lt_of_lt_of_le h (count_fits (length p) (length ys)).1)

  -- any other record of the run is left as it was
  pub found_left : (k : ℕ) → count_of (plan_of (length p) (length ys)) ≤ k → found_at (filled_run p ys) k ≡ found_at ys k
  unfolding found_at filled_run
  found_left k h = place (dec_le (length ys) k)
    where
      n : ℕ
      n = count_of (plan_of (length p) (length ys))

      place : Dec (length ys ≤ k) → slice_get (filled_to p ys n) k ≡ slice_get ys k
      place (yes past) = slice_get_past (filled_to p ys n) k (rw length_run past) ∙ sym (slice_get_past ys k past)
      place (no not) = let inside : k < length ys = lt_of_not-le not in slice_get-get_or (filled_to p ys n) k no_insn (rw length_run inside) ∙ ap Some (left_at n k h) ∙ sym (slice_get-get_or ys k no_insn inside)

pub length_empty : length empty_run ≡ 16
unfolding empty_run
length_empty = refl

pub empty_is : replicate 16 no_insn ≡ empty_run
unfolding empty_run
empty_is = refl
