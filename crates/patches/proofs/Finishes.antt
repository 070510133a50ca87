-- The operators that an operand ends: what they cost, and one turn of `finish`.
use Prim.Native.Nat.{ℕ, suc, ◌+◌, ◌-◌, ◌*◌, ◌<◌, ◌≤◌}
use mathlib.Core.Path.{◌≡◌, refl, sym, ap, ◌∙◌, subst}
use mathlib.Core.List.{List, [], ◌∷◌, ◌++◌}
use mathlib.Core.Bool.{Bool, true, false, cond}
use native.Mathlib.Omega.{arith}
use lib.Dec.{eqb}
use lib.ListN.{length, get_or}
use Rattle.patches.specs.declared.Patches.{Patches}
use Rattle.std.specs.Prelude.{Result, Ok, Err}
use Rattle.refusals.specs.declared.Reason.TheVariants.{FarJump}
use Rattle.patches.specs.declared.TooFar.{TooFar}
use Rattle.patches.specs.declared.Closed.{Closed}
use Rattle.patches.specs.declared.Closed.TheVariants.{Up, Stay}
use Rattle.patches.specs.Chain.{Patched, reach, resolved}
use Rattle.patches.specs.Code.{Emission, put_insn}
use Rattle.patches.specs.Rel.{AND_RIGHT, OR_RIGHT, AND_DONE, OR_DONE, Frame, Stack, Rel, SomeTop, due, owed}
use Rattle.patches.specs.Rel.Frame.{frame}
use Rattle.patches.specs.Rel.Stack.{bottom as floor, over}
use Rattle.patches.specs.Finish.{Step, close_op, near, StepOk, CloseOk, Ending, on_step, finish_ops, EndingOk}
use Rattle.patches.specs.Operators.{ja}
use Rattle.patches.specs.Finish.Step.{far, up, stay}
use Rattle.patches.specs.Finish.Ending.{refuse, wait, whole}
use Rattle.patches.proofs.Reading.{top_op}

-- The next place, with the jumps that are due yet: an operator spends no more than was due.
abbrev spends : Step → ℕ
spends far = 0
spends (up o p sp fp) = p
spends (stay o p op ps) = p + due op

near_spends : (p : Patched) (s : Step) (m : ℕ) → spends s ≤ m → spends (near p s) ≤ m
near_spends (Err _) s m h = omega arith
near_spends (Ok _) s m h = h

step_spends : (op : ℕ) (ps : List ℕ) (pos : ℕ) (o sp fp : List ℕ) → spends (close_op op ps pos o sp fp) ≤ pos + due op
unfolding close_op due
step_spends op ps pos o sp fp = go (eqb op AND_DONE) (eqb op OR_DONE) (eqb op AND_RIGHT) (eqb op OR_RIGHT)
  where
    go : (a b c d : Bool) → spends (cond a (up o pos sp (fp ++ ps)) (cond b (up o pos (sp ++ ps) fp)
        (cond c (near (reach pos sp) (stay (resolved pos sp o) pos AND_DONE fp))
        (cond d (near (reach (pos + 1) fp) (stay (resolved (pos + 1) fp (put_insn o pos ja)) (pos + 1) OR_DONE (pos ∷ sp)))
        (near (reach (pos + 1) fp) (up (resolved (pos + 1) fp (put_insn o pos ja)) (pos + 1) [] (pos ∷ sp))))))) ≤ pos + cond a 0 (cond b 0 (cond c 0 1))
    go true b c d = omega arith
    go false true c d = omega arith
    go false false true d = near_spends (reach pos sp) (stay (resolved pos sp o) pos AND_DONE fp) (pos + 0) (omega arith)
    go false false false true = near_spends (reach (pos + 1) fp) (stay (resolved (pos + 1) fp (put_insn o pos ja)) (pos + 1) OR_DONE (pos ∷ sp)) (pos + 1) (omega arith)
    go false false false false = near_spends (reach (pos + 1) fp) (up (resolved (pos + 1) fp (put_insn o pos ja)) (pos + 1) [] (pos ∷ sp)) (pos + 1) (omega arith)

abbrev pub spends_end : Ending → ℕ
spends_end (refuse c i) = 0
spends_end (wait o p fs) = p + owed fs
spends_end (whole o p sp fp) = p

pub spent : (fs : List Frame) (pos : ℕ) (o sp fp : List ℕ) → spends_end (finish_ops fs pos o sp fp) ≤ pos + owed fs
unfolding finish_ops owed
spent [] pos o sp fp = omega arith
spent (frame op lo ps ∷ fs) pos o sp fp = go (close_op op ps pos o sp fp) (step_spends op ps pos o sp fp) (λ p o sp fp. spent fs p o sp fp)
  where
    go : (s : Step) → spends s ≤ pos + due op → ((p : ℕ) (o sp fp : List ℕ) → spends_end (finish_ops fs p o sp fp) ≤ p + owed fs)
        → spends_end (on_step s (λ o' pos' sp' fp'. finish_ops fs pos' o' sp' fp') (λ o' pos' op' ps'. wait o' pos' (frame op' lo ps' ∷ fs))) ≤ pos + (due op + owed fs)
    go far h ih = omega arith
    go (up o p sp fp) h ih = omega (arith, ih p o sp fp)
    go (stay o p op' ps') h ih = omega arith

-- How many operators wait then: no more than before.
abbrev pub waits_end : Ending → ℕ
waits_end (refuse c i) = 0
waits_end (wait o p fs) = length fs
waits_end (whole o p sp fp) = 0

pub fewer : (fs : List Frame) (pos : ℕ) (o sp fp : List ℕ) → waits_end (finish_ops fs pos o sp fp) ≤ length fs
unfolding finish_ops
fewer [] pos o sp fp = omega arith
fewer (frame op lo ps ∷ fs) pos o sp fp = go (close_op op ps pos o sp fp) (λ p o sp fp. fewer fs p o sp fp)
  where
    go : (s : Step) → ((p : ℕ) (o sp fp : List ℕ) → waits_end (finish_ops fs p o sp fp) ≤ length fs)
        → waits_end (on_step s (λ o' pos' sp' fp'. finish_ops fs pos' o' sp' fp') (λ o' pos' op' ps'. wait o' pos' (frame op' lo ps' ∷ fs))) ≤ suc (length fs)
    go far ih = omega arith
    go (up o p sp fp) ih = omega (arith, ih p o sp fp)
    go (stay o p op' ps') ih = omega arith

-- The last operator that waits, as `finish` reads it.
pub record Top (l : ℕ) (w : List ℕ) (n : ℕ) (st : Patches) (fs : List Frame) (sp fp : List ℕ) (lo : ℕ) : Type 0 where
  pub lo' : ℕ
  pub ps : List ℕ
  pub rest : List Frame
  pub is : fs ≡ frame (get_or w (l + 3 * (n - 1)) 0) lo' ps ∷ rest
  pub rel : Rel l w (suc (n - 1)) st (frame (get_or w (l + 3 * (n - 1)) 0) lo' ps ∷ rest) sp fp lo
  pub budget : st.pos + (due (get_or w (l + 3 * (n - 1)) 0) + owed rest) ≤ l

pub top : (l : ℕ) (w : List ℕ) (n : ℕ) (st : Patches) (fs : List Frame) (sp fp : List ℕ) (lo : ℕ) → 0 < n → Rel l w n st fs sp fp lo → st.pos + owed fs ≤ l
    → Top l w n st fs sp fp lo
unfolding owed
top l w n st fs sp fp lo z r b =
    let e : n ≡ suc (n - 1) = omega arith in
    let r1 : Rel l w (suc (n - 1)) st fs sp fp lo = subst (λ (k : ℕ). Rel l w k st fs sp fp lo) e r in
    let t = top_op l w (n - 1) lo fs r1.stack in
    let is : fs ≡ frame (get_or w (l + 3 * (n - 1)) 0) t.1 t.2 ∷ t.3 = t.4 ∙ ap (λ x. frame x t.1 t.2 ∷ t.3) (sym t.5) in
    record {
      lo' = t.1;
      ps = t.2;
      rest = t.3;
      is = is;
      rel = subst (λ (x : List Frame). Rel l w (suc (n - 1)) st x sp fp lo) is r1;
      budget = subst (λ (x : List Frame). st.pos + owed x ≤ l) is b;
    }

pub top_some : (l : ℕ) (w : List ℕ) (n : ℕ) (st : Patches) (fs : List Frame) (sp fp : List ℕ) (lo : ℕ) → Top l w n st fs sp fp lo
    → SomeTop l w (n - 1) (get_or w (l + 3 * (n - 1)) 0) st
top_some l w n st fs sp fp lo t = record { fs = t.rest; sp = sp; fp = fp; ps = t.ps; lo = lo; lo' = t.lo'; rel = t.rel; budget = omega (arith, t.budget) }

-- A reading of the numbers as they are now that ends as the first one does.
pub record Now (l : ℕ) (end : Ending) (y : Emission) (n : ℕ) : Type 0 where
  pub fs : List Frame
  pub sp : List ℕ
  pub fp : List ℕ
  pub lo : ℕ
  pub rel : Rel l y.work n y.patches fs sp fp lo
  pub budget : y.patches.pos + owed fs ≤ l
  pub same : end ≡ finish_ops fs y.patches.pos y.out sp fp

module _ (l : ℕ) (end : Ending) (y : Emission) (n : ℕ) (z : 0 < n) (v : Now l end y n) (y' : Emission) (r : Result Closed TooFar)
    (k : CloseOk l (n - 1) (get_or y.work (l + 3 * (n - 1)) 0) y r y') where
  abbrev op : ℕ
  op = get_or y.work (l + 3 * (n - 1)) 0

  abbrev pos : ℕ
  pos = y.patches.pos

  t : Top l y.work n y.patches v.fs v.sp v.fp v.lo
  t = top l y.work n y.patches v.fs v.sp v.fp v.lo z v.rel v.budget

  abbrev s : Step
  s = close_op op t.ps pos y.out v.sp v.fp

  ok : StepOk l (n - 1) t.lo' t.rest s r y'
  ok = k v.lo t.lo' t.ps t.rest v.sp v.fp t.rel (omega (arith, t.budget))

  abbrev goes : Step → Ending
  goes s = on_step s (λ o' pos' sp' fp'. finish_ops t.rest pos' o' sp' fp') (λ o' pos' op' ps'. wait o' pos' (frame op' t.lo' ps' ∷ t.rest))

  end_is : end ≡ goes s
  unfolding finish_ops
  end_is = v.same ∙ ap (λ x. finish_ops x pos y.out v.sp v.fp) t.is

  pub next_up : r ≡ Ok Up → Now l end y' (n - 1)
  next_up e = go s ok end_is (step_spends op t.ps pos y.out v.sp v.fp)
    where
      go : (s : Step) → StepOk l (n - 1) t.lo' t.rest s r y' → end ≡ goes s → spends s ≤ pos + due op → Now l end y' (n - 1)
      go far u f h = let q : ◌≡◌ {A = ℕ} 0 1 = cc in absurd (omega arith)
      go (stay o1 p1 op1 ps1) (u, w) f h = let g = w.is in let q : ◌≡◌ {A = ℕ} 0 1 = cc in absurd (omega arith)
      go (up o1 p1 sp1 fp1) (u, w) f h = record {
        fs = t.rest;
        sp = sp1;
        fp = fp1;
        lo = t.lo';
        rel = w.rel;
        budget = omega (arith, w.at, t.budget);
        same = f ∙ ap (λ (q : ℕ). finish_ops t.rest q o1 sp1 fp1) (sym w.at) ∙ ap (λ (q : List ℕ). finish_ops t.rest y'.patches.pos q sp1 fp1) (sym u);
      }

  pub next_stay : r ≡ Ok Stay → EndingOk l end (Ok n) y'
  next_stay e = go s ok end_is
    where
      go : (s : Step) → StepOk l (n - 1) t.lo' t.rest s r y' → end ≡ goes s → EndingOk l end (Ok n) y'
      go far u f = let q : ◌≡◌ {A = ℕ} 0 1 = cc in absurd (omega arith)
      go (up o1 p1 sp1 fp1) (u, w) f = let g = w.is in let q : ◌≡◌ {A = ℕ} 0 1 = cc in absurd (omega arith)
      go (stay o1 p1 op1 ps1) (u, w) f =
          let en : suc (n - 1) ≡ n = omega arith in
          rw f (
            u,
            record {
              n = n;
              some = z;
              is = refl;
              at = w.at;
              rel = subst (λ (k : ℕ). Rel l y'.work k y'.patches (frame op1 t.lo' ps1 ∷ t.rest) [] [] p1) en w.rel;
            },
          )

  pub next_far : (x : TooFar) → r ≡ Err x → EndingOk l end (Err (record { reason = FarJump; place = 0 })) y'
  next_far x e = go s ok end_is
    where
      go : (s : Step) → StepOk l (n - 1) t.lo' t.rest s r y' → end ≡ goes s → EndingOk l end (Err (record { reason = FarJump; place = 0 })) y'
      go far u f = rw f refl
      go (up o1 p1 sp1 fp1) (u, w) f = let g = w.is in let q : ◌≡◌ {A = ℕ} 0 1 = cc in absurd (omega arith)
      go (stay o1 p1 op1 ps1) (u, w) f = let g = w.is in let q : ◌≡◌ {A = ℕ} 0 1 = cc in absurd (omega arith)

pub bottom : (l : ℕ) (end : Ending) (y : Emission) (n : ℕ) → n ≡ 0 → Now l end y n → EndingOk l end (Ok 0) y
unfolding finish_ops
bottom l end y n z v = go n v.fs z v.rel v.rel.stack v.same
  where
    go : (n : ℕ) (fs : List Frame) → n ≡ 0 → Rel l y.work n y.patches fs v.sp v.fp v.lo → Stack l y.work n fs v.lo → end ≡ finish_ops fs y.patches.pos y.out v.sp v.fp → EndingOk l end (Ok 0) y
    go n fs z r floor e = rw e (refl, record { lo = v.lo; is = refl; at = refl; rel = r })
    go n fs z r (over g e k s) f = absurd (omega (arith, z))
