-- What `work` stands for after a write: a list, the operators that wait, a whole reading.
use Prim.Native.Nat.{ℕ, zero, suc, ◌+◌, ◌-◌, ◌*◌, ◌<◌, ◌≤◌}
use mathlib.Core.Path.{◌≡◌, refl, sym, ap, ◌∙◌, subst}
use mathlib.Core.Logic.{◌⊎◌, inl, inr}
use mathlib.Core.List.{List, [], ◌∷◌, ◌++◌, append-nil}
use mathlib.Core.Bool.{Bool, true, false, cond}
use native.Mathlib.Omega.{arith}
use borrow.Author.Tests.{eqb-true, eqb-false}
use lib.Dec.{eqb}
use lib.ListN.{get_or, length, set, length-set}
use lib.Seq.{get_or-set_same, get_or-set_other}
use Rattle.patches.specs.declared.Patches.{Patches}
use Rattle.patches.specs.declared.PatchList.{PatchList}
use Rattle.patches.specs.Chain.{Descends, chain, chain_of}
use Rattle.patches.specs.Lists.{empty, last_or, save_at, saved_at, joined, joined_links, pushed, pushed_links}
use Rattle.patches.specs.Operators.{right_work, right_state, blank, landed, turn_of}
use Rattle.patches.specs.Rel.{Out, AllGe, Apart, Holds, Frame, Stack, Rel}
use Rattle.patches.specs.Rel.AllGe.{ge_nil, ge_cons}
use Rattle.patches.specs.Rel.Apart.{apart_nil, apart_cons}
use Rattle.patches.specs.Rel.Frame.{frame}
use Rattle.patches.specs.Rel.Stack.{bottom, over}
use Rattle.patches.proofs.Chains.{descends_set, chain_set, chain_none, look}
use Rattle.patches.proofs.Lists.{push_chain, join_chain, chain_other}
use Rattle.patches.proofs.Places.{AllLt, all_append, all_weaken, last_append, lt_weaken, out_lt, apart_lt, apart_append, last_ge, last_out, last_lt, apart_none, apart_sym}
use Rattle.patches.proofs.Places.AllLt.{lt_nil, lt_cons}

-- No patches stand for no places.
pub holds_none : {ls : List ℕ} {lo hi : ℕ} → Holds ls empty lo hi []
holds_none {ls} = record { places = chain_none ls 0 refl; below = omega arith; above = ge_nil; ends = λ z. absurd (omega arith) }

-- A write past the list leaves it.
holds_set : {ls : List ℕ} {x : PatchList} {lo hi : ℕ} {ps : List ℕ} (l q v : ℕ) → Holds ls x lo hi ps → Descends l ls → hi ≤ l → hi ≤ q
    → Holds (set ls q v) x lo hi ps
unfolding chain_of
holds_set {ls} {x} l q v k d i a = record {
  places = chain_set l ls q v d x.head x.head (omega (arith, k.below)) (omega (arith, k.below)) ∙ k.places;
  below = k.below;
  above = k.above;
  ends = k.ends;
}

-- So does a write at a place that is none of it.
holds_other : {ls : List ℕ} {x : PatchList} {lo hi : ℕ} {ps : List ℕ} (q v : ℕ) → Holds ls x lo hi ps → Out q ps → Holds (set ls q v) x lo hi ps
unfolding chain_of
holds_other {ls} {x} q v k o = record {
  places = chain_other ls q v x.head x.head (subst (Out q) (sym k.places) o) ∙ k.places;
  below = k.below;
  above = k.above;
  ends = k.ends;
}

holds_wider : {ls : List ℕ} {x : PatchList} {lo hi : ℕ} {ps : List ℕ} (lo' hi' : ℕ) → Holds ls x lo hi ps → lo' ≤ lo → hi ≤ hi' → Holds ls x lo' hi' ps
holds_wider lo' hi' k a b = record { places = k.places; below = omega (arith, k.below); above = all_weaken a k.above; ends = k.ends }

-- A list with a head has a first place.
first : (l : ℕ) (ls : List ℕ) (h : ℕ) → Descends l ls → h ≤ l → 0 < h → (p : ℕ) × (ps : List ℕ) × (chain_of ls h ≡ p ∷ ps)
first l ls h d i z = (h - 1, chain_of ls (get_or ls (h - 1) 0), look l ls h d i z)

-- Two lists one after the other: the later one's tail is linked to the earlier one's head.
holds_join : {ls : List ℕ} {x y : PatchList} {lo mid hi : ℕ} {ps qs : List ℕ} (l : ℕ) → Holds ls x mid hi ps → Holds ls y lo mid qs
    → Descends l ls → hi ≤ l → l ≤ length ls → lo ≤ mid → mid ≤ hi → 0 < x.head → 0 < y.head
    → Holds (set ls x.tail y.head) (record { head = x.head; tail = y.tail }) lo hi (ps ++ qs)
unfolding last_or
holds_join {ls} {x} {y} {mid = mid} {ps = ps} l k m d i r a b z z' =
    let s = first l ls x.head d (omega (arith, k.below)) z in
    let s' = first l ls y.head d (omega (arith, m.below)) z' in
    let e : x.tail ≡ last_or 0 (chain_of ls x.head) = k.ends z ∙ ap (last_or 0) (sym k.places) in
    let g : mid ≤ last_or 0 (chain_of ls x.head) = last_ge s.2 (subst (AllGe mid) (sym k.places) k.above) in
    record {
      places = rw e (join_chain l ls x.head y.head d (omega (arith, k.below)) z (omega (arith, k.below)) (omega (arith, m.below)) ∙ rw (k.places, m.places));
      below = k.below;
      above = all_append (all_weaken a k.above) m.above;
      ends = λ w. m.ends z' ∙ rw (sym m.places ∙ s'.2) (sym (last_append ps s'.1 0 s'.0));
    }

-- The places of a list lie below its head.
chain_lt : (l : ℕ) (ls : List ℕ) → Descends l ls → (n h : ℕ) → h ≤ l → AllLt h (chain n ls h)
unfolding chain
chain_lt l ls d zero h i = lt_nil
chain_lt l ls d (suc n) zero i = lt_nil
chain_lt l ls d (suc n) (suc p) i =
    let g : get_or ls p 0 ≤ suc p = omega (arith, d p (omega arith)) in
    let b : p < suc p = omega arith in
    lt_cons b (lt_weaken g (chain_lt l ls d n (get_or ls p 0) (omega (arith, d p (omega arith)))))

holds_lt : {ls : List ℕ} {x : PatchList} {lo hi : ℕ} {ps : List ℕ} (l : ℕ) → Holds ls x lo hi ps → Descends l ls → hi ≤ l → AllLt x.head ps
unfolding chain_of
holds_lt {ls} {x} l k d i = subst (AllLt x.head) k.places (chain_lt l ls d x.head x.head (omega (arith, k.below)))

holds_nil : {ls : List ℕ} {x : PatchList} {lo hi : ℕ} {ps : List ℕ} → Holds ls x lo hi ps → x.head ≡ 0 → ps ≡ []
holds_nil {ls} {x} k z = sym k.places ∙ chain_none ls x.head z

positive : (h : ℕ) → (h ≡ 0 → ⊥) → 0 < h
positive h n = omega (arith, n)

-- Place q is written: it is a link from hi on, or behind the operators that wait.
abbrev Past : (l n hi q : ℕ) → Type 0
Past l n hi q = ((hi ≤ q) × (q < l)) ⊎ (l + 3 * n ≤ q)

past_ne : (l n hi q k : ℕ) → Past l (suc n) hi q → k < 3 → l + 3 * n + k ≡ q → ⊥
past_ne l n hi q k (inl p) h e = omega arith
past_ne l n hi q k (inr p) h e = omega arith

past_hi : (l n hi q : ℕ) → hi ≤ l → Past l n hi q → hi ≤ q
past_hi l n hi q i (inl p) = p.0
past_hi l n hi q i (inr p) = omega arith

past_down : (l n lo hi q : ℕ) → lo ≤ hi → Past l (suc n) hi q → Past l n lo q
past_down l n lo hi q h (inl p) = inl (omega arith, p.1)
past_down l n lo hi q h (inr p) = inr (omega arith)

saved_set : (w : List ℕ) (b q v : ℕ) → (b + 1 ≡ q → ⊥) → (b + 2 ≡ q → ⊥) → saved_at (set w q v) b ≡ saved_at w b
unfolding saved_at
saved_set w b q v h k = rw (get_or-set_other w q (b + 1) v 0 h, get_or-set_other w q (b + 2) v 0 k)

-- Such a write leaves them as they wait.
stack_set : (l : ℕ) (w : List ℕ) (q v : ℕ) → Descends l w → {n hi : ℕ} {fs : List Frame} → hi ≤ l → Past l n hi q → Stack l w n fs hi → Stack l (set w q v) n fs hi
stack_set l w q v d i p bottom = bottom
stack_set l w q v d {hi = hi} i p (over {n = n} {op = op} {lo = lo} {ps = ps} {fs = fs} g e k s) =
    let b = l + 3 * n in
    let z : b + 0 ≡ b = omega arith in
    let e0 : get_or (set w q v) b 0 ≡ get_or w b 0 = get_or-set_other w q b v 0 (λ x. past_ne l n hi q 0 p (omega arith) (z ∙ x)) in
    let same : saved_at (set w q v) b ≡ saved_at w b = saved_set w b q v (past_ne l n hi q 1 p (omega arith)) (past_ne l n hi q 2 p (omega arith)) in
    let k1 : Holds (set w q v) (saved_at w b) lo hi ps = holds_set l q v k d i (past_hi l (suc n) hi q i p) in
    let k2 : Holds (set w q v) (saved_at (set w q v) b) lo hi ps = rw same k1 in
    over g (e0 ∙ e) k2 (stack_set l w q v d (omega arith) (past_down l n lo hi q g p) s)

pub stack_len : (l : ℕ) (w : List ℕ) {n hi : ℕ} {fs : List Frame} → Stack l w n fs hi → length fs ≡ n
stack_len l w bottom = refl
stack_len l w (over g e k s) = ap suc (stack_len l w s)

-- What the last operator waits for.
pub top_op : (l : ℕ) (w : List ℕ) (n hi : ℕ) (fs : List Frame) → Stack l w (suc n) fs hi
    → (op lo : ℕ) × (ps : List ℕ) × (rest : List Frame) × (fs ≡ frame op lo ps ∷ rest) × (get_or w (l + 3 * n) 0 ≡ op)
top_op l w n hi fs (over {op = op} {lo = lo} {ps = ps} {fs = rest} g e k s) = (op, lo, ps, rest, refl, e)

-- Successes and failures change places.
pub turn : {l : ℕ} {w : List ℕ} {n : ℕ} {st : Patches} {fs : List Frame} {sp fp : List ℕ} {lo : ℕ} → Rel l w n st fs sp fp lo → Rel l w n (turn_of st) fs fp sp lo
unfolding turn_of
turn r = record {
  descends = r.descends;
  room = r.room;
  pos_in = r.pos_in;
  lo_in = r.lo_in;
  success_list = r.failure_list;
  failure_list = r.success_list;
  apart = apart_sym _ _ r.apart;
  stack = r.stack;
}

-- An And whose two operands are done, x being the list that it keeps: the three ways of `join`.
module _ (l : ℕ) (w : List ℕ) (n : ℕ) (st : Patches) (op lo lo' : ℕ) (ps : List ℕ) (fs : List Frame) (sp fp : List ℕ) (x : PatchList)
    (r : Rel l w (suc n) st (frame op lo' ps ∷ fs) sp fp lo) (g : lo' ≤ lo) (k : Holds w x lo' lo ps) (s : Stack l w n fs lo') where
  abbrev with : PatchList → Patches
  with f = record { pos = st.pos; success = st.success; failure = f }

  room_n : l + 3 * n ≤ length w
  room_n = omega (arith, r.room)

  apart_both : Apart sp (fp ++ ps)
  apart_both = apart_append r.apart (apart_lt r.success_list.above (lt_weaken k.below (holds_lt l k r.descends (omega (arith, r.lo_in, r.pos_in)))))

  successes_stay : Holds w st.success lo' st.pos sp
  successes_stay = holds_wider lo' st.pos r.success_list g (omega arith)

  only_kept : st.failure.head ≡ 0 → Rel l w n (with x) fs sp (fp ++ ps) lo'
  only_kept z = record {
    descends = r.descends;
    room = room_n;
    pos_in = r.pos_in;
    lo_in = omega (arith, r.lo_in);
    success_list = successes_stay;
    failure_list = rw (holds_nil r.failure_list z) (holds_wider lo' st.pos k (omega arith) r.lo_in);
    apart = apart_both;
    stack = s;
  }

  none_kept : x.head ≡ 0 → Rel l w n (with st.failure) fs sp (fp ++ ps) lo'
  none_kept z = record {
    descends = r.descends;
    room = room_n;
    pos_in = r.pos_in;
    lo_in = omega (arith, r.lo_in);
    success_list = successes_stay;
    failure_list = rw (holds_nil k z, append-nil) (holds_wider lo' st.pos r.failure_list g (omega arith));
    apart = apart_both;
    stack = s;
  }

  both : 0 < st.failure.head → 0 < x.head
      → Rel l (set w st.failure.tail x.head) n (with (record { head = st.failure.head; tail = x.tail })) fs sp (fp ++ ps) lo'
  both z z' =
      let f = r.failure_list in
      let t = st.failure.tail in
      let at = first l w st.failure.head r.descends (omega (arith, f.below, r.pos_in)) z in
      let e : fp ≡ at.0 ∷ at.1 = sym f.places ∙ at.2 in
      let t-is : t ≡ last_or 0 fp = f.ends z in
      let t-ge : lo ≤ last_or 0 fp = last_ge e f.above in
      let t-lt : last_or 0 fp < st.failure.head = last_lt e (holds_lt l f r.descends r.pos_in) in
      let t-out : Out t sp = subst (λ (q : ℕ). Out q sp) (sym t-is) (last_out e r.apart) in
      record {
        descends = descends_set l w t x.head r.descends (omega (arith, k.below));
        room = simp length-set room_n;
        pos_in = r.pos_in;
        lo_in = omega (arith, r.lo_in);
        success_list = holds_other t x.head successes_stay t-out;
        failure_list = holds_join l f k r.descends r.pos_in (omega (arith, r.room)) g r.lo_in z z';
        apart = apart_both;
        stack = stack_set l w t x.head r.descends (omega (arith, r.lo_in, r.pos_in)) (inl (omega arith, omega (arith, f.below, r.pos_in))) s;
      }

pub right : (l : ℕ) (w : List ℕ) (n : ℕ) (st : Patches) (op lo lo' : ℕ) (ps : List ℕ) (fs : List Frame) (sp fp : List ℕ)
    → Rel l w (suc n) st (frame op lo' ps ∷ fs) sp fp lo
    → Rel l (right_work w (l + 3 * n) st) n (right_state w (l + 3 * n) st) fs sp (fp ++ ps) lo'
unfolding right_work right_state joined joined_links
right l w n st op lo lo' ps fs sp fp r = top r.stack
  where
    top : Stack l w (suc n) (frame op lo' ps ∷ fs) lo → Rel l (right_work w (l + 3 * n) st) n (right_state w (l + 3 * n) st) fs sp (fp ++ ps) lo'
    top (over g e k s) = go (eqb st.failure.head 0) refl (eqb (saved_at w (l + 3 * n)).head 0) refl
      where
        go : (b : Bool) → eqb st.failure.head 0 ≡ b → (c : Bool) → eqb (saved_at w (l + 3 * n)).head 0 ≡ c
            → Rel l (joined_links w st.failure (saved_at w (l + 3 * n))) n (right_state w (l + 3 * n) st) fs sp (fp ++ ps) lo'
        go true a c b = rw a (only_kept l w n st op lo lo' ps fs sp fp (saved_at w (l + 3 * n)) r g k s (eqb-true _ _ a))
        go false a true b = rw (a, b) (none_kept l w n st op lo lo' ps fs sp fp (saved_at w (l + 3 * n)) r g k s (eqb-true _ _ b))
        go false a false b =
            rw (a, b) (both l w n st op lo lo' ps fs sp fp (saved_at w (l + 3 * n)) r g k s (positive _ (eqb-false _ _ a)) (positive _ (eqb-false _ _ b)))

-- The tail of the failures is a link.
pub tail_lt : {l : ℕ} {w : List ℕ} {n : ℕ} {st : Patches} {fs : List Frame} {sp fp : List ℕ} {lo : ℕ} → Rel l w n st fs sp fp lo
    → (st.failure.head ≡ 0 → ⊥) → st.failure.tail < l
tail_lt {l} {w} {st = st} {fp = fp} r z =
    let f = r.failure_list in
    let y : 0 < st.failure.head = positive st.failure.head z in
    let at = first l w st.failure.head r.descends (omega (arith, f.below, r.pos_in)) y in
    let e : fp ≡ at.0 ∷ at.1 = sym f.places ∙ at.2 in
    let t-lt : last_or 0 fp < st.failure.head = last_lt e (holds_lt l f r.descends r.pos_in) in
    omega (arith, f.ends y, f.below, r.pos_in)

-- So are the places of the successes.
pub heads_lt : {l : ℕ} {w : List ℕ} {n : ℕ} {st : Patches} {fs : List Frame} {sp fp : List ℕ} {lo : ℕ} → Rel l w n st fs sp fp lo
    → AllLt l (chain_of w st.success.head)
heads_lt {l} r =
    subst (AllLt l) (sym r.success_list.places)
    (lt_weaken (omega (arith, r.success_list.below, r.pos_in)) (holds_lt l r.success_list r.descends r.pos_in))

descends_out : (l : ℕ) (w : List ℕ) (q v : ℕ) → Descends l w → l ≤ q → Descends l (set w q v)
descends_out l w q v d i p h = rw (get_or-set_other w q p v 0 (λ e. omega arith)) (d p h)

saved_save : (w : List ℕ) (b op : ℕ) (x : PatchList) → b + 3 ≤ length w → saved_at (save_at w b op x) b ≡ x
unfolding saved_at save_at
saved_save w b op x h =
    let w1 = set w b op in
    let w2 = set w1 (b + 1) x.head in
    let e1 : length w1 ≡ length w = length-set w b op in
    let e2 : length w2 ≡ length w = length-set w1 (b + 1) x.head ∙ e1 in
    let head-is : get_or (set w2 (b + 2) x.tail) (b + 1) 0 ≡ x.head =
    get_or-set_other w2 (b + 2) (b + 1) x.tail 0 (λ q. omega arith) ∙ get_or-set_same w1 (b + 1) x.head 0 (omega arith) in
    let tail-is : get_or (set w2 (b + 2) x.tail) (b + 2) 0 ≡ x.tail = get_or-set_same w2 (b + 2) x.tail 0 (omega arith) in
    rw (head-is, tail-is) refl

-- Operator n is written anew; a list of links stays.
module _ (l : ℕ) (w : List ℕ) (n op : ℕ) (x : PatchList) (d : Descends l w) (r : l + 3 * suc n ≤ length w) where
  abbrev b : ℕ
  b = l + 3 * n

  abbrev w1 : List ℕ
  w1 = set w b op

  abbrev w2 : List ℕ
  w2 = set w1 (b + 1) x.head

  d1 : Descends l w1
  d1 = descends_out l w b op d (omega arith)

  d2 : Descends l w2
  d2 = descends_out l w1 (b + 1) x.head d1 (omega arith)

  save_descends : Descends l (save_at w b op x)
  unfolding save_at
  save_descends = descends_out l w2 (b + 2) x.tail d2 (omega arith)

  save_length : length (save_at w b op x) ≡ length w
  unfolding save_at
  save_length = length-set w2 (b + 2) x.tail ∙ length-set w1 (b + 1) x.head ∙ length-set w b op

  save_op : get_or (save_at w b op x) b 0 ≡ op
  unfolding save_at
  save_op =
      get_or-set_other w2 (b + 2) b x.tail 0 (λ q. omega arith)
      ∙ get_or-set_other w1 (b + 1) b x.head 0 (λ q. omega arith)
      ∙ get_or-set_same w b op 0 (omega arith)

  save_holds : {y : PatchList} {lo hi : ℕ} {ps : List ℕ} → Holds w y lo hi ps → hi ≤ l → Holds (save_at w b op x) y lo hi ps
  unfolding save_at
  save_holds k i =
      holds_set l (b + 2) x.tail (holds_set l (b + 1) x.head (holds_set l b op k d i (omega arith)) d1 i (omega arith)) d2 i (omega arith)

  save_stack : {lo : ℕ} {fs : List Frame} → Stack l w n fs lo → lo ≤ l → Stack l (save_at w b op x) n fs lo
  unfolding save_at
  save_stack s i =
      stack_set l w2 (b + 2) x.tail d2 i (inr (omega arith))
      (stack_set l w1 (b + 1) x.head d1 i (inr (omega arith)) (stack_set l w b op d i (inr (omega arith)) s))

  save_frame : {lo hi : ℕ} {ps : List ℕ} {fs : List Frame} → Holds w x lo hi ps → Stack l w n fs lo → lo ≤ hi → hi ≤ l
      → Stack l (save_at w b op x) (suc n) (frame op lo ps ∷ fs) hi
  save_frame {lo} {hi} {ps} {fs} k s g i = over g save_op kept (save_stack s (omega arith))
    where
      kept : Holds (save_at w b op x) (saved_at (save_at w b op x) b) lo hi ps
      kept = rw (saved_save w b op x (omega arith)) (save_holds k i)

-- An operator waits as `new` for its other operand, and keeps the failures.
pub stay : {l : ℕ} {w : List ℕ} {n : ℕ} {st : Patches} {op lo lo' : ℕ} {ps : List ℕ} {fs : List Frame} {sp fp : List ℕ} (new : ℕ)
    → Rel l w (suc n) st (frame op lo' ps ∷ fs) sp fp lo
    → Rel l (save_at w (l + 3 * n) new st.failure) (suc n) (blank st) (frame new lo' fp ∷ fs) [] [] st.pos
stay {l} {w} {n} {st} {op} {lo} {lo'} {ps} {fs} {sp} {fp} new r = top r.stack
  where
    top : Stack l w (suc n) (frame op lo' ps ∷ fs) lo
        → Rel l (save_at w (l + 3 * n) new st.failure) (suc n) (blank st) (frame new lo' fp ∷ fs) [] [] st.pos
    top (over h e k s) = record {
      descends = save_descends l w n new st.failure r.descends r.room;
      room = omega (arith, save_length l w n new st.failure r.descends r.room, r.room);
      pos_in = r.pos_in;
      lo_in = omega arith;
      success_list = holds_none;
      failure_list = holds_none;
      apart = apart_nil;
      stack =
          save_frame l w n new st.failure r.descends r.room
          (holds_wider lo' st.pos r.failure_list h (omega arith)) s (omega (arith, r.lo_in)) r.pos_in;
    }

-- An operator of one operand is done, its successes went on here.
pub leave : {l : ℕ} {w : List ℕ} {n : ℕ} {st : Patches} {op lo lo' : ℕ} {ps : List ℕ} {fs : List Frame} {sp fp : List ℕ}
    → Rel l w (suc n) st (frame op lo' ps ∷ fs) sp fp lo → Rel l w n (landed st) fs [] fp lo'
leave {l} {w} {n} {st} {op} {lo} {lo'} {ps} {fs} {sp} {fp} r = top r.stack
  where
    top : Stack l w (suc n) (frame op lo' ps ∷ fs) lo → Rel l w n (landed st) fs [] fp lo'
    top (over h e k s) = record {
      descends = r.descends;
      room = omega (arith, r.room);
      pos_in = r.pos_in;
      lo_in = omega (arith, r.lo_in);
      success_list = holds_none;
      failure_list = holds_wider lo' st.pos r.failure_list h (omega arith);
      apart = apart_none fp;
      stack = s;
    }

-- Nothing is written, no operator waits.
pub rel_start : (l : ℕ) (w : List ℕ) (pos : ℕ) → Descends l w → l ≤ length w → pos ≤ l
    → Rel l w 0 (record { pos = pos; success = empty; failure = empty }) [] [] [] pos
rel_start l w pos d h k = record {
  descends = d;
  room = omega arith;
  pos_in = k;
  lo_in = omega arith;
  success_list = holds_none;
  failure_list = holds_none;
  apart = apart_nil;
  stack = bottom;
}

-- An operator more begins to wait.
pub rel_push : {l : ℕ} {w : List ℕ} {n : ℕ} {st : Patches} {fs : List Frame} (op : ℕ) → Rel l w n st fs [] [] st.pos → l + 3 * suc n ≤ length w
    → Rel l (save_at w (l + 3 * n) op empty) (suc n) st (frame op st.pos [] ∷ fs) [] [] st.pos
rel_push {l} {w} {n} {st} op r h = record {
  descends = save_descends l w n op empty r.descends h;
  room = omega (arith, save_length l w n op empty r.descends h);
  pos_in = r.pos_in;
  lo_in = omega arith;
  success_list = save_holds l w n op empty r.descends h r.success_list r.pos_in;
  failure_list = save_holds l w n op empty r.descends h r.failure_list r.pos_in;
  apart = apart_nil;
  stack = save_frame l w n op empty r.descends h holds_none r.stack (omega arith) r.pos_in;
}

-- One instruction more: whole,
pub rel_fixed : {l : ℕ} {w : List ℕ} {n : ℕ} {st : Patches} {fs : List Frame} {sp fp : List ℕ} {lo : ℕ} → Rel l w n st fs sp fp lo → st.pos < l
    → Rel l w n (record { pos = st.pos + 1; success = st.success; failure = st.failure }) fs sp fp lo
rel_fixed {st = st} {lo = lo} r h = record {
  descends = r.descends;
  room = r.room;
  pos_in = omega arith;
  lo_in = omega (arith, r.lo_in);
  success_list = holds_wider lo (st.pos + 1) r.success_list (omega arith) (omega arith);
  failure_list = holds_wider lo (st.pos + 1) r.failure_list (omega arith) (omega arith);
  apart = r.apart;
  stack = r.stack;
}

-- The tail of a list with one patch more before it.
pushed_ends : {ls : List ℕ} {x : PatchList} {lo hi : ℕ} {ps : List ℕ} (l p : ℕ) → Holds ls x lo hi ps → Descends l ls → hi ≤ l
    → cond (eqb x.head 0) p x.tail ≡ last_or 0 (p ∷ ps)
unfolding last_or
pushed_ends {ls} {x} {ps = ps} l p k d i = go (eqb x.head 0) refl
  where
    go : (b : Bool) → eqb x.head 0 ≡ b → cond (eqb x.head 0) p x.tail ≡ last_or p ps
    go true e = rw (e, holds_nil k (eqb-true _ _ e))
    go false e =
        let z : 0 < x.head = positive x.head (eqb-false _ _ e) in
        let at = first l ls x.head d (omega (arith, k.below)) z in
        let q : ps ≡ at.0 ∷ at.1 = sym k.places ∙ at.2 in
        rw e (k.ends z ∙ rw q refl)

-- open on failure,
pub rel_failure : {l : ℕ} {w : List ℕ} {n : ℕ} {st : Patches} {fs : List Frame} {sp fp : List ℕ} {lo : ℕ} → Rel l w n st fs sp fp lo → st.pos < l
    → Rel l (pushed_links w st.failure st.pos) n (record { pos = st.pos + 1; success = st.success; failure = pushed st.failure st.pos }) fs sp (st.pos ∷ fp) lo
unfolding pushed pushed_links
rel_failure {l} {w} {st = st} {sp = sp} {lo = lo} r h = record {
  descends = descends_set l w st.pos st.failure.head r.descends r.failure_list.below;
  room = simp length-set r.room;
  pos_in = omega arith;
  lo_in = omega (arith, r.lo_in);
  success_list = holds_wider lo (st.pos + 1) (holds_set l st.pos st.failure.head r.success_list r.descends r.pos_in (omega arith)) (omega arith) (omega arith);
  failure_list = record {
    places = push_chain l w st.failure.head st.pos r.descends h r.failure_list.below (omega (arith, r.room)) ∙ ap (λ x. st.pos ∷ x) r.failure_list.places;
    below = omega arith;
    above = ge_cons r.lo_in r.failure_list.above;
    ends = λ z. pushed_ends l st.pos r.failure_list r.descends r.pos_in;
  };
  apart = apart_cons no_success r.apart;
  stack = stack_set l w st.pos st.failure.head r.descends (omega (arith, r.lo_in, r.pos_in)) (inl (r.lo_in, h)) r.stack;
}
  where
    no_success : Out st.pos sp
    no_success = out_lt (lt_weaken r.success_list.below (holds_lt l r.success_list r.descends r.pos_in))

-- open on success.
pub rel_success : {l : ℕ} {w : List ℕ} {n : ℕ} {st : Patches} {fs : List Frame} {sp fp : List ℕ} {lo : ℕ} → Rel l w n st fs sp fp lo → st.pos < l
    → Rel l (pushed_links w st.success st.pos) n (record { pos = st.pos + 1; success = pushed st.success st.pos; failure = st.failure }) fs (st.pos ∷ sp) fp lo
unfolding turn_of
rel_success r h = turn (rel_failure (turn r) h)
