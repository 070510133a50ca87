-- The end of a program: the two exits, then the open jumps.
use Rattle.std.proofs.Common.{◌≡◌, ℕ, ◌+◌, ◌*◌, ◌^◌, ◌<◌, ◌≤◌, List, Result, Ok, Err, refl, sym, ap, ◌∙◌, subst, arith}
use Rattle.patches.specs.declared.Patches.{Patches}
use Rattle.refusals.specs.declared.Refusal.{Refusal}
use Rattle.refusals.specs.declared.Reason.TheVariants.{FarJump}
use Rattle.patches.specs.Chain.{too_far, chain_of, reach, resolved}
use Rattle.patches.specs.Code.{Emission, with_out, push1, block, outs}
use Rattle.patches.specs.Operators.{turn_of}
use Rattle.patches.specs.Rel.{Some}
use Rattle.patches.specs.Same.{SameFrom, Kept}
use Rattle.patches.specs.Whole.{epilogue, ended}
use Rattle.patches.proofs.Blocks.{out_block}
use Rattle.patches.proofs.Bytes.{length_resolved}
use Rattle.patches.proofs.Reading.{heads_lt, turn}
use Rattle.patches.proofs.Places.{AllLt}
use Rattle.patches.proofs.Unchanged.{from_trans, from_outs, from_resolved, block_kept, kept_trans}
use Rattle.pieces.specs.Fragments.{Fits}
use Rattle.generator.specs.Compile.{TryOk}

pub exits_fit : (l : ℕ) (st : Patches) → st.pos + 4 ≤ l → l < 2 ^ 32 → Fits epilogue st
unfolding epilogue
exits_fit l st h k = record { room = omega arith }

-- The exits change no number of work.
exits_work : (y : Emission) → (block epilogue y).work ≡ y.work
unfolding block push1 epilogue
exits_work y = refl

-- The clauses of `end`.
abbrev pub Ended : ℕ → Emission → Result (Unit {0}) Refusal → Emission → Type 0
Ended l y r z =
    record {
      try_ok : TryOk (ended y.out y.patches.pos (chain_of y.work y.patches.success.head) (chain_of y.work y.patches.failure.head)) r z.out;
      kept : Kept y z;
      same_from : SameFrom (8 * l) y.out z.out;
      work_unchanged : z.work ≡ y.work;
    }

module _ (l : ℕ) (y : Emission) (s : Some l y.work 0 y.patches) (room : y.patches.pos + 4 ≤ l) (y1 : Emission) (e : y1 ≡ block epilogue y) where
  abbrev pos : ℕ
  pos = y.patches.pos

  pub work_is : y1.work ≡ y.work
  work_is = ap (λ (v : Emission). v.work) e ∙ exits_work y

  out_is : y1.out ≡ outs epilogue pos y.out
  out_is = ap (λ (v : Emission). v.out) e ∙ out_block epilogue y

  pub exits_kept : Kept y y1
  exits_kept = subst (λ (v : Emission). Kept y v) (sym e) (block_kept epilogue y)

  same_exits : SameFrom (8 * l) y.out y1.out
  unfolding epilogue
  same_exits = rw out_is (from_outs l epilogue pos y.out (omega arith))

  failures_lt : AllLt l (chain_of y.work y.patches.failure.head)
  unfolding turn_of
  failures_lt = heads_lt (turn s.rel)

  -- The first list is resolved.
  abbrev first : List ℕ
  first = resolved pos (chain_of y1.work y.patches.success.head) y1.out

  same_first : SameFrom (8 * l) y.out first
  same_first = from_trans (8 * l) y.out y1.out first same_exits (rw work_is (from_resolved l pos (chain_of y.work y.patches.success.head) y1.out (heads_lt s.rel)))

  kept_first : Kept y (with_out first y1)
  kept_first =
      kept_trans exits_kept (record { setting = refl; out_len = length_resolved pos (chain_of y1.work y.patches.success.head) y1.out; work_len = refl })

  pub first_far : Err too_far ≡ reach pos (chain_of y1.work y.patches.success.head) → (z : Emission) → z ≡ with_out first y1 → Ended l y (Err (record { reason = FarJump; place = 0 })) z
  unfolding ended
  first_far h z ez = subst (λ (v : Emission). Ended l y (Err (record { reason = FarJump; place = 0 })) v) (sym ez) (record {
    try_ok = rw (← (rw work_is at h)) refl;
    kept = kept_first;
    same_from = same_first;
    work_unchanged = work_is;
  })

  -- And the second.
  module _ (near : Ok tt ≡ reach pos (chain_of y1.work y.patches.success.head)) where
    abbrev second : List ℕ
    second = resolved (pos + 2) (chain_of y1.work y.patches.failure.head) first

    same_second : SameFrom (8 * l) y.out second
    same_second = from_trans (8 * l) y.out first second same_first (rw work_is (from_resolved l (pos + 2) (chain_of y.work y.patches.failure.head) (resolved pos (chain_of y.work y.patches.success.head) y1.out) failures_lt))

    kept_second : Kept y (with_out second y1)
    kept_second =
        kept_trans kept_first (record { setting = refl; out_len = length_resolved (pos + 2) (chain_of y1.work y.patches.failure.head) first; work_len = refl })

    pub second_far : Err too_far ≡ reach (pos + 2) (chain_of y1.work y.patches.failure.head) → (z : Emission) → z ≡ with_out second y1
        → Ended l y (Err (record { reason = FarJump; place = 0 })) z
    unfolding ended
    second_far h z ez = subst (λ (v : Emission). Ended l y (Err (record { reason = FarJump; place = 0 })) v) (sym ez) (record {
      try_ok = rw (← (rw work_is at near), ← (rw work_is at h)) refl;
      kept = kept_second;
      same_from = same_second;
      work_unchanged = work_is;
    })

    pub all_near : Ok tt ≡ reach (pos + 2) (chain_of y1.work y.patches.failure.head) → (z : Emission) → z ≡ with_out second y1 → Ended l y (Ok tt) z
    unfolding ended
    all_near h z ez = subst (λ (v : Emission). Ended l y (Ok tt) v) (sym ez) (record {
      try_ok = rw (← (rw work_is at near), ← (rw work_is at h)) (refl, rw (← out_is, ← work_is) refl);
      kept = kept_second;
      same_from = same_second;
      work_unchanged = work_is;
    })
