-- Lists of places: below, above, apart, and their last.
use Prim.Native.Nat.{ℕ, ◌<◌, ◌≤◌}
use mathlib.Core.Path.{◌≡◌, refl, sym, subst}
use mathlib.Core.List.{List, [], ◌∷◌, ◌++◌}
use native.Mathlib.Omega.{arith}
use Rattle.patches.specs.Lists.{last_or}
use Rattle.patches.specs.Rel.{Out, AllGe, Apart}
use Rattle.patches.specs.Rel.Out.{out_nil, out_cons}
use Rattle.patches.specs.Rel.AllGe.{ge_nil, ge_cons}
use Rattle.patches.specs.Rel.Apart.{apart_nil, apart_cons}

pub all_append : {lo : ℕ} {ps qs : List ℕ} → AllGe lo ps → AllGe lo qs → AllGe lo (ps ++ qs)
all_append ge_nil b = b
all_append (ge_cons h a) b = ge_cons h (all_append a b)

pub all_weaken : {lo mid : ℕ} {ps : List ℕ} → lo ≤ mid → AllGe mid ps → AllGe lo ps
all_weaken l ge_nil = ge_nil
all_weaken {lo} {mid} l (ge_cons {p = p} h a) = let g : lo ≤ p = omega arith in ge_cons g (all_weaken l a)

pub all_last : {lo : ℕ} {ps : List ℕ} (d : ℕ) → lo ≤ d → AllGe lo ps → lo ≤ last_or d ps
unfolding last_or
all_last d l ge_nil = l
all_last d l (ge_cons {p = p} h a) = all_last p h a

pub apart_last : {sp ps : List ℕ} (d : ℕ) → Out d sp → Apart sp ps → Out (last_or d ps) sp
unfolding last_or
apart_last d o apart_nil = o
apart_last d o (apart_cons {q = q} h a) = apart_last q h a

pub last_append : (ps qs : List ℕ) (d q : ℕ) → last_or d (ps ++ (q ∷ qs)) ≡ last_or q qs
unfolding last_or
last_append [] qs d q = refl
last_append (p ∷ ps) qs d q = last_append ps qs p q

-- All places are below hi.
pub data AllLt (hi : ℕ) : List ℕ → Type 0 where
  lt_nil : AllLt hi []
  lt_cons : {p : ℕ} {ps : List ℕ} → p < hi → AllLt hi ps → AllLt hi (p ∷ ps)

pub lt_weaken : {lo hi : ℕ} {ps : List ℕ} → lo ≤ hi → AllLt lo ps → AllLt hi ps
lt_weaken l lt_nil = lt_nil
lt_weaken {lo} {hi} l (lt_cons {p = p} h a) = let g : p < hi = omega arith in lt_cons g (lt_weaken l a)

pub out_ge : {lo q : ℕ} {sp : List ℕ} → q < lo → AllGe lo sp → Out q sp
out_ge l ge_nil = out_nil
out_ge {lo} {q} l (ge_cons {p = p} h a) = let n : p ≡ q → ⊥ = λ e. omega arith in out_cons n (out_ge l a)

pub out_lt : {hi : ℕ} {sp : List ℕ} → AllLt hi sp → Out hi sp
out_lt lt_nil = out_nil
out_lt {hi} (lt_cons {p = p} h a) = let n : p ≡ hi → ⊥ = λ e. omega arith in out_cons n (out_lt a)

pub apart_lt : {lo : ℕ} {sp ps : List ℕ} → AllGe lo sp → AllLt lo ps → Apart sp ps
apart_lt a lt_nil = apart_nil
apart_lt a (lt_cons h b) = apart_cons (out_ge h a) (apart_lt a b)

pub apart_append : {sp ps qs : List ℕ} → Apart sp ps → Apart sp qs → Apart sp (ps ++ qs)
apart_append apart_nil b = b
apart_append (apart_cons h a) b = apart_cons h (apart_append a b)

pub last_ge : {lo : ℕ} {p : ℕ} {ps qs : List ℕ} → qs ≡ p ∷ ps → AllGe lo qs → lo ≤ last_or 0 qs
unfolding last_or
last_ge {lo} {p} {ps} {qs} e a = go (subst (AllGe lo) e a)
  where
    go : AllGe lo (p ∷ ps) → lo ≤ last_or 0 qs
    go (ge_cons h b) = rw e (all_last p h b)

pub last_out : {sp : List ℕ} {p : ℕ} {ps qs : List ℕ} → qs ≡ p ∷ ps → Apart sp qs → Out (last_or 0 qs) sp
unfolding last_or
last_out {sp} {p} {ps} {qs} e a = go (subst (Apart sp) e a)
  where
    go : Apart sp (p ∷ ps) → Out (last_or 0 qs) sp
    go (apart_cons h b) = rw e (apart_last p h b)

lt_last : {hi : ℕ} {ps : List ℕ} (d : ℕ) → d < hi → AllLt hi ps → last_or d ps < hi
unfolding last_or
lt_last d l lt_nil = l
lt_last d l (lt_cons {p = p} h a) = lt_last p h a

pub last_lt : {hi : ℕ} {p : ℕ} {ps qs : List ℕ} → qs ≡ p ∷ ps → AllLt hi qs → last_or 0 qs < hi
unfolding last_or
last_lt {hi} {p} {ps} {qs} e a = go (subst (AllLt hi) e a)
  where
    go : AllLt hi (p ∷ ps) → last_or 0 qs < hi
    go (lt_cons h b) = rw e (lt_last p h b)

out_from : {p : ℕ} {sp fp : List ℕ} → Apart (p ∷ sp) fp → Out p fp
out_from apart_nil = out_nil
out_from {p} (apart_cons {q = q} (out_cons n o) a) = let m : q ≡ p → ⊥ = λ e. n (sym e) in out_cons m (out_from a)

pub apart_none : (fp : List ℕ) → Apart [] fp
apart_none [] = apart_nil
apart_none (q ∷ fp) = apart_cons out_nil (apart_none fp)

apart_tail : {p : ℕ} {sp fp : List ℕ} → Apart (p ∷ sp) fp → Apart sp fp
apart_tail apart_nil = apart_nil
apart_tail (apart_cons (out_cons n o) a) = apart_cons o (apart_tail a)

pub apart_sym : (sp fp : List ℕ) → Apart sp fp → Apart fp sp
apart_sym [] fp a = apart_nil
apart_sym (p ∷ sp) fp a = apart_cons (out_from a) (apart_sym sp fp (apart_tail a))
