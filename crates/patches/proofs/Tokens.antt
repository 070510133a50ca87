-- A primitive, a token: what the walk over the tokens needs to go on.
use Prim.Native.Nat.{ℕ, ◌+◌, ◌*◌, ◌<◌, ◌≤◌}
use mathlib.Core.Path.{◌≡◌, refl, sym, ap, ◌∙◌, subst}
use mathlib.Core.List.{List, [], ◌∷◌}
use native.Mathlib.Omega.{arith}
use native.Mathlib.Numerals.{add-one}
use borrow.Author.Tests.{ne_eqb}
use lib.ListN.{length, get_or, drop, drop_of_length-le}
use lib.Seq.{drop-cons}
use Rattle.std.specs.Prelude.{Result, Ok, Err}
use Rattle.refusals.specs.declared.Refusal.{Refusal}
use Rattle.refusals.specs.Refusal.{number_of, told}
use Rattle.refusals.specs.Refusal.Answer.{Refused, Given}
use Rattle.patches.specs.Code.{Slot, Emission, block, outs, successes, failures}
use Rattle.patches.specs.Rel.{Frame, Rel, Some, SomeLeaf, owed, due}
use Rattle.patches.specs.Rel.Frame.{frame}
use Rattle.patches.specs.Same.{SameFrom}
use Rattle.patches.specs.Finish.{Ending, finish_ops, EndingOk, FinishOk}
use Rattle.patches.specs.Finish.Ending.{refuse, wait, whole}
use Rattle.patches.specs.Machine.{Tpl, size_of, emit_leaf, LeafOk, go_on, run, cost}
use Rattle.patches.specs.Machine.Tpl.{code, refused}
use Rattle.patches.proofs.Blocks.{rel_block, out_block, pos_block}
use Rattle.patches.proofs.Finishes.{spends_end, waits_end, spent, fewer}
use Rattle.patches.proofs.Unchanged.{from_outs, from_block}

-- A primitive is written: the operators that wait then end as `emit_leaf` says.
record Leafed (l n k : ℕ) (xs : List Slot) (fs : List Frame) (y y1 : Emission) : Type 0 where
  sp : List ℕ
  fp : List ℕ
  rel : Rel l y1.work n y1.patches fs sp fp y.patches.pos
  budget : y1.patches.pos + owed fs ≤ l
  same : emit_leaf (code xs) k fs y.patches.pos y.out ≡ finish_ops fs y1.patches.pos y1.out sp fp

module _ (l n k : ℕ) (xs : List Slot) (y y1 : Emission) (e : y1 ≡ block xs y) where
  leafed : (fs : List Frame) → Rel l y.work n y.patches fs [] [] y.patches.pos → y.patches.pos + length xs + owed fs ≤ l → Leafed l n k xs fs y y1
  unfolding emit_leaf
  leafed fs rel b =
      let pos = y.patches.pos in
      let sp = successes pos xs [] in
      let fp = failures pos xs [] in
      subst (λ (v : Emission). Leafed l n k xs fs y v) (sym e) (record {
        sp = sp;
        fp = fp;
        rel = rel_block l n fs pos xs y [] [] (omega arith) rel;
        budget = omega (arith, pos_block xs y);
        same =
            ap (λ (v : ℕ). finish_ops fs v (outs xs pos y.out) sp fp) (sym (pos_block xs y))
            ∙ ap (λ (v : List ℕ). finish_ops fs (block xs y).patches.pos v sp fp) (sym (out_block xs y));
      })

  -- What `finish` asks.
  pub leaf_some : SomeLeaf l y.work n y.patches (length xs) → Some l y1.work n y1.patches
  leaf_some s =
      let v = leafed s.fs s.rel s.budget in
      record { fs = s.fs; sp = v.sp; fp = v.fp; lo = y.patches.pos; rel = v.rel; budget = v.budget }

  -- What stays.
  pub leaf_from : SomeLeaf l y.work n y.patches (length xs) → SameFrom (8 * l) y.out y1.out × SameFrom l y.work y1.work
  leaf_from s =
      let h : y.patches.pos + length xs ≤ l = omega (arith, s.budget) in
      (rw (e, out_block xs y) (from_outs l xs y.patches.pos y.out h), rw e (from_block l xs y h))

  -- The primitive, then `finish`.
  pub leaf_code : (t : Tpl) → t ≡ code xs → (r : Result ℕ Refusal) (y2 : Emission) → FinishOk l n y1 r y2 → LeafOk l n k t y r y2
  leaf_code t q r y2 a fs rel b =
      let size : size_of t ≡ length xs = ap size_of q in
      let v = leafed fs rel (omega arith) in
      subst (λ (f : Ending). EndingOk l f r y2) (sym (ap (λ u. emit_leaf u k fs y.patches.pos y.out) q ∙ v.same)) (a fs v.sp v.fp y.patches.pos v.rel v.budget)

-- A primitive that is refused.
pub leaf_refused : (l n k c : ℕ) (t : Tpl) → t ≡ refused c → (x : Refusal) → number_of x.reason ≡ c → x.place ≡ k → (y y1 : Emission) → LeafOk l n k t y (Err x) y1
unfolding emit_leaf
leaf_refused l n k c t q x en ep y y1 fs rel b = rw q cc

-- No more instructions than the primitive has and than are due.
pub leaf_spends : (t : Tpl) (k : ℕ) (fs : List Frame) (pos : ℕ) (o : List ℕ) → spends_end (emit_leaf t k fs pos o) ≤ pos + size_of t + owed fs
unfolding emit_leaf
leaf_spends (refused c) k fs pos o = omega arith
leaf_spends (code xs) k fs pos o = spent fs (pos + length xs) (outs xs pos o) (successes pos xs []) (failures pos xs [])

-- No more operators wait than before.
pub leaf_fewer : (t : Tpl) (k : ℕ) (fs : List Frame) (pos : ℕ) (o : List ℕ) → waits_end (emit_leaf t k fs pos o) ≤ length fs
unfolding emit_leaf
leaf_fewer (refused c) k fs pos o = omega arith
leaf_fewer (code xs) k fs pos o = fewer fs (pos + length xs) (outs xs pos o) (successes pos xs []) (failures pos xs [])

-- What an answer tells: operators wait,
pub record Goes (l : ℕ) (f : Ending) (n : ℕ) (y : Emission) : Type 0 where
  pub fs : List Frame
  pub is : f ≡ wait y.out y.patches.pos fs
  pub rel : Rel l y.work n y.patches fs [] [] y.patches.pos

pub ending_waits : (l : ℕ) (f : Ending) (r : Result ℕ Refusal) (y : Emission) (n : ℕ) → EndingOk l f r y → r ≡ Ok n → 0 < n → Goes l f n y
ending_waits l (refuse c i) r y n k e z = let t : told r ≡ Given n = ap told e in let q : ◌≡◌ {A = ℕ} 0 1 = cc in absurd (omega arith)
ending_waits l (whole o' pos sp fp) r y n (k, v) e z = let g = v.is in let q : n ≡ 0 = cc in absurd (omega arith)
ending_waits l (wait o' pos fs) r y n (k, v) e z =
    let g = v.is in
    let en : n ≡ v.n = cc in
    record {
      fs = fs;
      is = ap (λ q. wait q pos fs) (sym k) ∙ ap (λ q. wait y.out q fs) (sym v.at);
      rel = subst (λ (q : ℕ). Rel l y.work n y.patches fs [] [] q) (sym v.at) (rw en v.rel);
    }

-- none is left,
pub record Over (l : ℕ) (f : Ending) (y : Emission) : Type 0 where
  pub sp : List ℕ
  pub fp : List ℕ
  pub lo : ℕ
  pub is : f ≡ whole y.out y.patches.pos sp fp
  pub rel : Rel l y.work 0 y.patches [] sp fp lo

pub ending_whole : (l : ℕ) (f : Ending) (r : Result ℕ Refusal) (y : Emission) → EndingOk l f r y → r ≡ Ok 0 → Over l f y
ending_whole l (refuse c i) r y k e = let t : told r ≡ Given 0 = ap told e in let z : ◌≡◌ {A = ℕ} 0 1 = cc in absurd (omega arith)
ending_whole l (wait o' pos fs) r y (k, v) e = let g = v.is in let z : v.n ≡ 0 = cc in absurd (omega (arith, v.some))
ending_whole l (whole o' pos sp fp) r y (k, v) e = record {
  sp = sp;
  fp = fp;
  lo = v.lo;
  is = ap (λ q. whole q pos sp fp) (sym k) ∙ ap (λ q. whole y.out q sp fp) (sym v.at);
  rel = v.rel;
}

-- or a refusal.
pub ending_refused : (l : ℕ) (f : Ending) (r : Result ℕ Refusal) (y : Emission) (x : Refusal) → EndingOk l f r y → r ≡ Err x → f ≡ refuse (number_of x.reason) x.place
ending_refused l (refuse d j) r y x k e =
    let t : told r ≡ Refused (number_of x.reason) x.place = ap told e in
    let a : d ≡ number_of x.reason = cc in
    let b : j ≡ x.place = cc in
    rw (a, b) refl
ending_refused l (wait o' pos fs) r y x (k, v) e = let g = v.is in let z : ◌≡◌ {A = ℕ} 0 1 = cc in absurd (omega arith)
ending_refused l (whole o' pos sp fp) r y x (k, v) e = let g = v.is in let z : ◌≡◌ {A = ℕ} 0 1 = cc in absurd (omega arith)

-- Token i, an operator or a primitive.
module _ (tpl : ℕ → Tpl) (ts : List ℕ) (i k : ℕ) (h : i < length ts) where
  pub run_op : (pos : ℕ) (o : List ℕ) (fs : List Frame) → (get_or ts i 0 ≡ 0 → ⊥)
      → run tpl (drop i ts) k pos o fs ≡ run tpl (drop (i + 1) ts) k pos o (frame (get_or ts i 0) pos [] ∷ fs)
  unfolding run
  run_op pos o fs e = rw (add-one i, drop-cons ts i 0 h, ne_eqb _ _ e)

  pub run_leaf : (pos : ℕ) (o : List ℕ) (fs : List Frame) → get_or ts i 0 ≡ 0
      → run tpl (drop i ts) k pos o fs ≡ go_on (emit_leaf (tpl k) k fs pos o) (λ o' pos' fs'. run tpl (drop (i + 1) ts) (k + 1) pos' o' fs')
  unfolding run
  run_leaf pos o fs e = rw (drop-cons ts i 0 h, e) (simp (add-one i, add-one k))

  pub cost_op : (get_or ts i 0 ≡ 0 → ⊥) → cost tpl (drop i ts) k ≡ due (get_or ts i 0) + cost tpl (drop (i + 1) ts) k
  unfolding cost
  cost_op e = rw (add-one i, drop-cons ts i 0 h, ne_eqb _ _ e)

  pub cost_leaf : get_or ts i 0 ≡ 0 → cost tpl (drop i ts) k ≡ size_of (tpl k) + cost tpl (drop (i + 1) ts) (k + 1)
  unfolding cost
  cost_leaf e = rw (drop-cons ts i 0 h, e) (simp (add-one i, add-one k))

pub run_end : (tpl : ℕ → Tpl) (ts : List ℕ) (i k pos : ℕ) (o : List ℕ) (fs : List Frame) → length ts ≤ i → run tpl (drop i ts) k pos o fs ≡ refuse 4 0
unfolding run
run_end tpl ts i k pos o fs h = rw (drop_of_length-le ts h)
