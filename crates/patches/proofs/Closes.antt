-- One operator whose operand is done: each way of `close` is a step of `close_op`, in every reading.
use Rattle.std.proofs.Common.{◌≡◌, ℕ, suc, ◌+◌, ◌*◌, ◌<◌, List, [], ◌∷◌, ◌++◌, length, Result, Ok, Err, refl, sym, ap, ◌∙◌, subst, arith, ne_eqb, eqb, Bool, true, false, cond}
use borrow.Author.Tests.{eqb-true, eqb-false}
use Rattle.patches.specs.declared.Pending.{Pending}
use Rattle.patches.specs.declared.Pending.TheVariants.{AndRight, OrRight, NotDone, AndDone, OrDone}
use Rattle.patches.specs.declared.TooFar.{TooFar}
use Rattle.patches.specs.declared.Closed.{Closed}
use Rattle.patches.specs.declared.Closed.TheVariants.{Up, Stay}
use Rattle.patches.specs.declared.Patches.{Patches}
use Rattle.patches.specs.Chain.{Patched, chain_of, reach, resolved}
use Rattle.patches.specs.Lists.{pushed_links, saved_at}
use Rattle.patches.specs.Operators.{right_state, right_work, right_of, over_of, pending_of, turn_of, lands, led_on, closed_as, land_of, left_of}
use Rattle.patches.specs.Code.{put_insn, Emission, with_patches, push1}
use Rattle.patches.specs.Code.Slot.{success}
use Rattle.patches.specs.Rel.{AND_RIGHT, OR_RIGHT, AND_DONE, OR_DONE, Frame, Rel, SomeTop, due}
use Rattle.patches.specs.Rel.Frame.{frame}
use Rattle.patches.specs.Finish.{close_op, near, StepOk, CloseOk}
use Rattle.patches.specs.Operators.{ja}
use Rattle.patches.specs.Finish.Step.{up, stay}
use Rattle.patches.specs.Same.{SameFrom, Kept}
use Rattle.patches.proofs.Bytes.{length_resolved}
use Rattle.patches.proofs.Places.{AllLt}
use Rattle.patches.proofs.Reading.{right, stay as stays, leave, turn, tail_lt, heads_lt, rel_success}
use Rattle.patches.proofs.Unchanged.{from_trans, from_save, from_join, from_insn, from_resolved, from_set, kept_trans, length_join, length_save, push_kept}

-- What `close_op` says of each operator.
module _ (op : ℕ) (ps : List ℕ) (pos : ℕ) (o sp fp : List ℕ) where
  step_and_done : op ≡ AND_DONE → close_op op ps pos o sp fp ≡ up o pos sp (fp ++ ps)
  unfolding close_op
  step_and_done e = rw e

  step_or_done : op ≡ OR_DONE → close_op op ps pos o sp fp ≡ up o pos (sp ++ ps) fp
  unfolding close_op
  step_or_done e = rw e

  step_and_right : op ≡ AND_RIGHT → close_op op ps pos o sp fp ≡ near (reach pos sp) (stay (resolved pos sp o) pos AND_DONE fp)
  unfolding close_op
  step_and_right e = rw e

  step_or_right : op ≡ OR_RIGHT → close_op op ps pos o sp fp ≡ near (reach (pos + 1) fp) (stay (resolved (pos + 1) fp (put_insn o pos ja)) (pos + 1) OR_DONE (pos ∷ sp))
  unfolding close_op
  step_or_right e = rw e

  step_not_done : (op ≡ AND_DONE → ⊥) → (op ≡ OR_DONE → ⊥) → (op ≡ AND_RIGHT → ⊥) → (op ≡ OR_RIGHT → ⊥)
      → close_op op ps pos o sp fp ≡ near (reach (pos + 1) fp) (up (resolved (pos + 1) fp (put_insn o pos ja)) (pos + 1) [] (pos ∷ sp))
  unfolding close_op
  step_not_done a b c d = rw (ne_eqb op AND_DONE a, ne_eqb op OR_DONE b, ne_eqb op AND_RIGHT c, ne_eqb op OR_RIGHT d)

due_one : (op : ℕ) → (op ≡ AND_DONE → ⊥) → (op ≡ OR_DONE → ⊥) → (op ≡ AND_RIGHT → ⊥) → due op ≡ 1
unfolding due
due_one op a b c = rw (ne_eqb op AND_DONE a, ne_eqb op OR_DONE b, ne_eqb op AND_RIGHT c)

-- What a number stands for.
abbrev Which : ℕ → Pending → Type 0
Which op AndRight = op ≡ AND_RIGHT
Which op OrRight = op ≡ OR_RIGHT
Which op AndDone = op ≡ AND_DONE
Which op OrDone = op ≡ OR_DONE
Which op NotDone = (op ≡ AND_RIGHT → ⊥) × (op ≡ OR_RIGHT → ⊥) × (op ≡ AND_DONE → ⊥) × (op ≡ OR_DONE → ⊥)

pub which : (op : ℕ) (p : Pending) → p ≡ pending_of op → Which op p
which op p e = subst (λ (q : Pending). Which op q) (sym e) (go (eqb op AND_RIGHT) refl (eqb op OR_RIGHT) refl (eqb op AND_DONE) refl (eqb op OR_DONE) refl)
  where
    go : (a : Bool) → eqb op AND_RIGHT ≡ a → (b : Bool) → eqb op OR_RIGHT ≡ b → (c : Bool) → eqb op AND_DONE ≡ c → (d : Bool) → eqb op OR_DONE ≡ d
        → Which op (cond a AndRight (cond b OrRight (cond c AndDone (cond d OrDone NotDone))))
    go true h b i c j d k = eqb-true _ _ h
    go false h true i c j d k = eqb-true _ _ i
    go false h false i true j d k = eqb-true _ _ j
    go false h false i false j true k = eqb-true _ _ k
    go false h false i false j false k = (eqb-false _ _ h, eqb-false _ _ i, eqb-false _ _ j, eqb-false _ _ k)

-- The successes land, and the operator waits for its other operand or is done.
module _ (l n : ℕ) (y z : Emission) (op lo lo' : ℕ) (ps : List ℕ) (fs : List Frame) (sp fp : List ℕ)
    (r : Rel l y.work (suc n) y.patches (frame op lo' ps ∷ fs) sp fp lo) (a : Result Closed TooFar) where
  abbrev pos : ℕ
  pos = y.patches.pos

  places : chain_of y.work y.patches.success.head ≡ sp
  places = r.success_list.places

  left_ok : (new : ℕ) → a ≡ closed_as Stay (lands y) → z ≡ left_of (lands y) (l + 3 * n) new y
      → StepOk l n lo' fs (near (reach pos sp) (stay (resolved pos sp y.out) pos new fp)) a z
  unfolding left_of
  left_ok new ea ez = go (reach pos sp) (rw places at ea) (rw places at ez)
    where
      go : (p : Patched) → a ≡ closed_as Stay p → z ≡ left_of p (l + 3 * n) new y → StepOk l n lo' fs (near p (stay (resolved pos sp y.out) pos new fp)) a z
      go (Err _) ea ez = ea
      go (Ok _) ea ez = (
        ap (λ (e : Emission). e.out) ez ∙ ap (λ (q : List ℕ). resolved pos q y.out) places,
        record {
          is = ea;
          at = ap (λ (e : Emission). e.patches.pos) ez;
          rel = subst (λ (e : Emission). Rel l e.work (suc n) e.patches (frame new lo' fp ∷ fs) [] [] pos) (sym ez) (stays new r);
        },
      )

  land_ok : a ≡ closed_as Up (lands y) → z ≡ land_of (lands y) y → StepOk l n lo' fs (near (reach pos sp) (up (resolved pos sp y.out) pos [] fp)) a z
  unfolding land_of
  land_ok ea ez = go (reach pos sp) (rw places at ea) (rw places at ez)
    where
      go : (p : Patched) → a ≡ closed_as Up p → z ≡ land_of p y → StepOk l n lo' fs (near p (up (resolved pos sp y.out) pos [] fp)) a z
      go (Err _) ea ez = ea
      go (Ok _) ea ez = (
        ap (λ (e : Emission). e.out) ez ∙ ap (λ (q : List ℕ). resolved pos q y.out) places,
        record {
          is = ea;
          at = ap (λ (e : Emission). e.patches.pos) ez;
          rel = subst (λ (e : Emission). Rel l e.work n e.patches fs [] fp lo') (sym ez) (leave r);
        },
      )

-- What stays.
abbrev Unchanged : ℕ → ℕ → Emission → Emission → Type 0
Unchanged l b y z = record { kept : Kept y z; same_from : SameFrom (8 * l) y.out z.out; same_from_2 : SameFrom (b + 3) y.work z.work }

module _ (l n : ℕ) (y : Emission) (h : AllLt l (chain_of y.work y.patches.success.head)) where
  from_led : SameFrom (8 * l) y.out (led_on y).out
  from_led = from_resolved l y.patches.pos (chain_of y.work y.patches.success.head) y.out h

  led_kept : Kept y (led_on y)
  led_kept = record { setting = refl; out_len = length_resolved y.patches.pos (chain_of y.work y.patches.success.head) y.out; work_len = refl }

  from_left : (new : ℕ) (p : Patched) → Unchanged l (l + 3 * n) y (left_of p (l + 3 * n) new y)
  unfolding left_of
  from_left new (Err _) = record { kept = led_kept; same_from = from_led; same_from_2 = λ q i. refl }
  from_left new (Ok _) = record {
    kept = record { setting = refl; out_len = led_kept.out_len; work_len = length_save y.work (l + 3 * n) new y.patches.failure };
    same_from = from_led;
    same_from_2 = from_save (l + 3 * n + 3) y.work (l + 3 * n) new y.patches.failure (omega arith);
  }

  from_land : (p : Patched) → Unchanged l (l + 3 * n) y (land_of p y)
  unfolding land_of
  from_land (Err _) = record { kept = led_kept; same_from = from_led; same_from_2 = λ q i. refl }
  from_land (Ok _) = record { kept = record { setting = refl; out_len = led_kept.out_len; work_len = refl }; same_from = from_led; same_from_2 = λ q i. refl }

-- The clauses of `close`.
abbrev pub Closes : ℕ → ℕ → ℕ → Emission → Result Closed TooFar → Emission → Type 0
Closes l n op y a z =
    record { close_ok : CloseOk l n op y a z; kept : Kept y z; same_from : SameFrom (8 * l) y.out z.out; same_from_2 : SameFrom (l + 3 * n + 3) y.work z.work }

module _ (l n op : ℕ) (y : Emission) (t : SomeTop l y.work n op y.patches) where
  abbrev b : ℕ
  b = l + 3 * n

  abbrev st : Patches
  st = y.patches

  pub close_and_done : op ≡ AND_DONE → (z : Emission) → z ≡ right_of b y → Closes l n op y (Ok Up) z
  unfolding right_state right_work
  close_and_done e z ez = rw ez (record {
    close_ok = λ lo lo' ps fs sp fp r h. rw (step_and_done op ps st.pos y.out sp fp e)
        (refl, record { is = refl; at = refl; rel = right l y.work n st op lo lo' ps fs sp fp r });
    kept = record { setting = refl; out_len = refl; work_len = length_join y.work st.failure (saved_at y.work b) };
    same_from = λ p h. refl;
    same_from_2 = from_join (b + 3) y.work st.failure (saved_at y.work b) (λ i. omega (arith, tail_lt t.rel i));
  })

  -- An Or's right operand is an And's with successes and failures turned.
  abbrev turned : Emission
  turned = right_of b (with_patches (turn_of st) y)

  pub close_or_done : op ≡ OR_DONE → (z : Emission) → z ≡ with_patches (turn_of turned.patches) turned → Closes l n op y (Ok Up) z
  unfolding right_state right_work turn_of
  close_or_done e z ez = rw ez (record {
    close_ok = λ lo lo' ps fs sp fp r h. rw (step_or_done op ps st.pos y.out sp fp e)
        (refl, record { is = refl; at = refl; rel = turn (right l y.work n (turn_of st) op lo lo' ps fs fp sp (turn r)) });
    kept = record { setting = refl; out_len = refl; work_len = length_join y.work st.success (saved_at y.work b) };
    same_from = λ p h. refl;
    same_from_2 = from_join (b + 3) y.work st.success (saved_at y.work b) (λ i. omega (arith, tail_lt (turn t.rel) i));
  })

  pub close_and_right : op ≡ AND_RIGHT → (a : Result Closed TooFar) (z : Emission) → a ≡ closed_as Stay (lands y) → z ≡ left_of (lands y) b AND_DONE y
      → Closes l n op y a z
  close_and_right e a z ea ez =
      let u = from_left l n y (heads_lt t.rel) AND_DONE (lands y) in
      record {
        close_ok = λ lo lo' ps fs sp fp r h. rw (step_and_right op ps st.pos y.out sp fp e) (left_ok l n y z op lo lo' ps fs sp fp r a AND_DONE ea ez);
        kept = rw ez u.kept;
        same_from = rw ez u.same_from;
        same_from_2 = rw ez u.same_from_2;
      }

  pub ja_in : (op ≡ AND_DONE → ⊥) → (op ≡ OR_DONE → ⊥) → (op ≡ AND_RIGHT → ⊥) → st.pos < l
  ja_in n4 n5 n1 = omega (arith, t.budget, due_one op n4 n5 n1)

  -- Or and Not write their jump, then the failures land.
  module _ (n4 : op ≡ AND_DONE → ⊥) (n5 : op ≡ OR_DONE → ⊥) (n1 : op ≡ AND_RIGHT → ⊥) where
    abbrev jumped : Emission
    jumped = over_of y

    in_l : st.pos < l
    in_l = ja_in n4 n5 n1

    -- The reading with the jump.
    rel_ja : (lo lo' : ℕ) (ps : List ℕ) (fs : List Frame) (sp fp : List ℕ) → Rel l y.work (suc n) st (frame op lo' ps ∷ fs) sp fp lo
        → Rel l jumped.work (suc n) jumped.patches (frame op lo' ps ∷ fs) fp (st.pos ∷ sp) lo
    unfolding turn_of push1
    rel_ja lo lo' ps fs sp fp r = turn (rel_success r in_l)

    rel_some : Rel l jumped.work (suc n) jumped.patches (frame op t.lo' t.ps ∷ t.fs) t.fp (st.pos ∷ t.sp) t.lo
    rel_some = rel_ja t.lo t.lo' t.ps t.fs t.sp t.fp t.rel

    jumped_is : (jumped.patches.pos ≡ st.pos + 1) × (jumped.out ≡ put_insn y.out st.pos ja)
    unfolding push1 turn_of
    jumped_is = (refl, refl)

    -- What `left` and `land` leave, the jump leaves.
    jump_from : (z : Emission) → Unchanged l b jumped z → Unchanged l b y z
    unfolding push1 pushed_links
    jump_from z u = record {
      kept = kept_trans (record { setting = (push_kept (success ja) y).setting; out_len = (push_kept (success ja) y).out_len; work_len = (push_kept (success ja) y).work_len }) u.kept;
      same_from = from_trans (8 * l) y.out jumped.out z.out (from_insn l y.out st.pos ja in_l) u.same_from;
      same_from_2 = from_trans (b + 3) y.work jumped.work z.work (from_set (b + 3) y.work st.pos st.success.head (omega (arith, in_l))) u.same_from_2;
    }

    close_or_right : op ≡ OR_RIGHT → (a : Result Closed TooFar) (z : Emission) → a ≡ closed_as Stay (lands jumped) → z ≡ left_of (lands jumped) b OR_DONE jumped
        → Closes l n op y a z
    close_or_right e a z ea ez =
        let u = jump_from z (rw ez (from_left l n jumped (heads_lt rel_some) OR_DONE (lands jumped))) in
        record {
          close_ok = λ lo lo' ps fs sp fp r h. rw (step_or_right op ps st.pos y.out sp fp e, ← jumped_is.0, ← jumped_is.1)
              (left_ok l n jumped z op lo lo' ps fs fp (st.pos ∷ sp) (rel_ja lo lo' ps fs sp fp r) a OR_DONE ea ez);
          kept = u.kept;
          same_from = u.same_from;
          same_from_2 = u.same_from_2;
        }

    close_not_done : (op ≡ OR_RIGHT → ⊥) → (a : Result Closed TooFar) (z : Emission) → a ≡ closed_as Up (lands jumped) → z ≡ land_of (lands jumped) jumped
        → Closes l n op y a z
    close_not_done n2 a z ea ez =
        let u = jump_from z (rw ez (from_land l n jumped (heads_lt rel_some) (lands jumped))) in
        record {
          close_ok = λ lo lo' ps fs sp fp r h. rw (step_not_done op ps st.pos y.out sp fp n4 n5 n1 n2, ← jumped_is.0, ← jumped_is.1)
              (land_ok l n jumped z op lo lo' ps fs fp (st.pos ∷ sp) (rel_ja lo lo' ps fs sp fp r) a ea ez);
          kept = u.kept;
          same_from = u.same_from;
          same_from_2 = u.same_from_2;
        }

    -- The same where the jump is written and turned.
    module _ (x : Emission) (ex : x ≡ over_of y) where
      pub close_or_right_over : op ≡ OR_RIGHT → (a : Result Closed TooFar) (z : Emission) → a ≡ closed_as Stay (lands x) → z ≡ left_of (lands x) b OR_DONE x → Closes l n op y a z
      close_or_right_over e a z =
          subst (λ (v : Emission). a ≡ closed_as Stay (lands v) → z ≡ left_of (lands v) b OR_DONE v → Closes l n op y a z) (sym ex) (close_or_right e a z)

      pub close_not_done_over : (op ≡ OR_RIGHT → ⊥) → (a : Result Closed TooFar) (z : Emission) → a ≡ closed_as Up (lands x) → z ≡ land_of (lands x) x → Closes l n op y a z
      close_not_done_over e a z =
          subst (λ (v : Emission). a ≡ closed_as Up (lands v) → z ≡ land_of (lands v) v → Closes l n op y a z) (sym ex) (close_not_done e a z)

      pub over_rel : Rel l x.work (suc n) x.patches (frame op t.lo' t.ps ∷ t.fs) t.fp (st.pos ∷ t.sp) t.lo
      over_rel = subst (λ (v : Emission). Rel l v.work (suc n) v.patches (frame op t.lo' t.ps ∷ t.fs) t.fp (st.pos ∷ t.sp) t.lo) (sym ex) rel_some

      pub over_len : length x.out ≡ length y.out
      over_len = ap (λ (v : Emission). length v.out) ex ∙ (push_kept (success ja) y).out_len
