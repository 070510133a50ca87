-- Bytes that begin with instructions: an instruction more, a distance set, a run more.
use Prim.Native.Nat.{ℕ, zero, suc, ◌+◌, ◌-◌, ◌*◌, ◌≤◌}
use mathlib.Core.Path.{◌≡◌, refl, sym, ap, ◌∙◌, subst}
use mathlib.Core.List.{List, [], ◌∷◌, ◌++◌, append_assoc, append-nil}
use mathlib.Core.Bool.{Bool, true, false, cond}
use native.Mathlib.Omega.{arith}
use borrow.Author.Tests.{le-leb}
use lib.Dec.{leb, ltb}
use lib.ListN.{length, take, drop, length-set, length-append}
use lib.Seq.{sets, sets-eq, length-sets, take_at}
use Rattle.ebpf.specs.Insn.{stored_at, to_le_bytes}
use Rattle.ebpf.specs.declared.insn.Insn.{Insn}
use Rattle.patches.specs.Chain.{resolved, put_off}
use Rattle.patches.specs.Code.{Slot, insn, outs, put_insn}
use Rattle.program.specs.Program.{code_of}
use Rattle.program.proofs.Bytes.{code_length}
use Rattle.patches.specs.Listing.{set_off, resolved_l, listed, Begins}

-- One instruction further on.
eight : (n k : ℕ) → 8 * suc n + k ≡ suc (suc (suc (suc (suc (suc (suc (suc (8 * n + k))))))))
eight n k = omega arith

-- An instruction more.
code_snoc : (is : List Insn) (i : Insn) → code_of (is ++ (i ∷ [])) ≡ code_of is ++ to_le_bytes i
unfolding code_of
code_snoc [] i = append-nil (to_le_bytes i)
code_snoc (j ∷ is) i = ap (λ x. to_le_bytes j ++ x) (code_snoc is i) ∙ sym (append_assoc (to_le_bytes j) (code_of is) (to_le_bytes i))

put_is : (i : Insn) (is : List Insn) (o : List ℕ) → 8 * length is + 8 ≤ length o → take (8 * length is) o ≡ code_of is
    → put_insn o (length is) i ≡ code_of (is ++ (i ∷ [])) ++ drop (8 * length is + 8) o
unfolding put_insn stored_at to_le_bytes
put_is i is o h e =
    rw (le-leb (8 * length is + 8) (length o) h)
    (sets-eq (to_le_bytes i) o (8 * length is) h
    ∙ ap (λ x. (x ++ to_le_bytes i) ++ drop (8 * length is + 8) o) e
    ∙ ap (λ x. x ++ drop (8 * length is + 8) o) (sym (code_snoc is i)))

pub put_begins : (i : Insn) (is : List Insn) (o : List ℕ) → 8 * length is + 8 ≤ length o → Begins o is → Begins (put_insn o (length is) i) (is ++ (i ∷ []))
put_begins i is o h b = record { rest = drop (8 * length is + 8) o; eq = put_is i is o h (ap (take (8 * length is)) b.eq ∙ take_at (code_of is) b.rest (8 * length is) (code_length is)) }

begin_cons : (j : Insn) (o : List ℕ) (is : List Insn) → Begins o is → Begins (code_of (j ∷ []) ++ o) (j ∷ is)
unfolding code_of to_le_bytes
begin_cons j o is b = record { rest = b.rest; eq = ap (λ x. code_of (j ∷ []) ++ x) b.eq }

-- A distance is set.
off_cons : (j : Insn) (n d : ℕ) (x : List ℕ) → put_off (code_of (j ∷ []) ++ x) (suc n) d ≡ code_of (j ∷ []) ++ put_off x n d
unfolding put_off code_of to_le_bytes
off_cons j n d x = rw (eight n 2, eight n 3) refl

off_code : (p d : ℕ) (is : List Insn) (r : List ℕ) → Begins (put_off (code_of is ++ r) p d) (set_off is p d)
unfolding code_of to_le_bytes set_off put_off
off_code p d [] r = record { rest = put_off r p d; eq = refl }
off_code zero d (i ∷ is) r = record { rest = r; eq = refl }
off_code (suc p) d (j ∷ is) r =
    subst (λ (o : List ℕ). Begins o (j ∷ set_off is p d)) (sym (off_cons j p d (code_of is ++ r))) (begin_cons j (put_off (code_of is ++ r) p d) (set_off is p d) (off_code p d is r))

off_begins : (p d : ℕ) (is : List Insn) (o : List ℕ) → Begins o is → Begins (put_off o p d) (set_off is p d)
off_begins p d is o b = subst (λ (x : List ℕ). Begins (put_off x p d) (set_off is p d)) (sym b.eq) (off_code p d is b.rest)

pub resolved_begins : (t : ℕ) (ps : List ℕ) (is : List Insn) (o : List ℕ) → Begins o is → Begins (resolved t ps o) (resolved_l t ps is)
unfolding resolved resolved_l
resolved_begins t [] is o b = b
resolved_begins t (p ∷ ps) is o b = go (ltb 32767 (t - suc p)) (resolved_begins t ps (set_off is p (t - suc p)) (put_off o p (t - suc p)) (off_begins p (t - suc p) is o b))
  where
    go : (x : Bool) → Begins (resolved t ps (put_off o p (t - suc p))) (resolved_l t ps (set_off is p (t - suc p)))
        → Begins (cond x o (resolved t ps (put_off o p (t - suc p)))) (cond x is (resolved_l t ps (set_off is p (t - suc p))))
    go true e = b
    go false e = e

pub length_put : (o : List ℕ) (p : ℕ) (i : Insn) → length (put_insn o p i) ≡ length o
unfolding put_insn stored_at
length_put o p i = go (leb (8 * p + 8) (length o))
  where
    go : (x : Bool) → length (cond x (sets o (8 * p) (to_le_bytes i)) o) ≡ length o
    go true = length-sets o (8 * p) (to_le_bytes i)
    go false = refl

-- How many instructions and bytes there are then.
length_set_off : (is : List Insn) (p d : ℕ) → length (set_off is p d) ≡ length is
unfolding set_off
length_set_off [] p d = refl
length_set_off (i ∷ is) zero d = refl
length_set_off (i ∷ is) (suc p) d = ap suc (length_set_off is p d)

pub length_resolved_l : (t : ℕ) (ps : List ℕ) (is : List Insn) → length (resolved_l t ps is) ≡ length is
unfolding resolved_l
length_resolved_l t [] is = refl
length_resolved_l t (p ∷ ps) is = go (ltb 32767 (t - suc p)) (length_resolved_l t ps (set_off is p (t - suc p)) ∙ length_set_off is p (t - suc p))
  where
    go : (x : Bool) → length (resolved_l t ps (set_off is p (t - suc p))) ≡ length is → length (cond x is (resolved_l t ps (set_off is p (t - suc p)))) ≡ length is
    go true e = refl
    go false e = e

length_off : (o : List ℕ) (p d : ℕ) → length (put_off o p d) ≡ length o
unfolding put_off
length_off o p d = simp length-set

pub length_resolved : (t : ℕ) (ps o : List ℕ) → length (resolved t ps o) ≡ length o
unfolding resolved
length_resolved t [] o = refl
length_resolved t (p ∷ ps) o = go (ltb 32767 (t - suc p)) (length_resolved t ps (put_off o p (t - suc p)) ∙ length_off o p (t - suc p))
  where
    go : (x : Bool) → length (resolved t ps (put_off o p (t - suc p))) ≡ length o → length (cond x o (resolved t ps (put_off o p (t - suc p)))) ≡ length o
    go true e = refl
    go false e = e

pub length_snoc : (is : List Insn) (i : Insn) → length (is ++ (i ∷ [])) ≡ length is + 1
length_snoc is i = length-append is (i ∷ [])

pub length_listed : (xs : List Slot) (is : List Insn) → length (listed xs is) ≡ length is + length xs
unfolding listed
length_listed [] is = omega arith
length_listed (x ∷ xs) is = let e = length_listed xs (is ++ (insn x ∷ [])) in omega (arith, e, length_snoc is (insn x))

pub length_outs : (xs : List Slot) (p : ℕ) (o : List ℕ) → length (outs xs p o) ≡ length o
unfolding outs
length_outs [] p o = refl
length_outs (x ∷ xs) p o = length_outs xs (p + 1) (put_insn o p (insn x)) ∙ length_put o p (insn x)

pub outs_begins : (xs : List Slot) (is : List Insn) (o : List ℕ) → 8 * (length is + length xs) ≤ length o → Begins o is → Begins (outs xs (length is) o) (listed xs is)
unfolding outs listed
outs_begins [] is o h b = b
outs_begins (x ∷ xs) is o h b =
    let e = length_snoc is (insn x) in
    let g = put_begins (insn x) is o (omega arith) b in
    subst (λ (n : ℕ). Begins (outs xs n (put_insn o (length is) (insn x))) (listed xs (is ++ (insn x ∷ [])))) e
    (outs_begins xs (is ++ (insn x ∷ [])) (put_insn o (length is) (insn x)) (omega (arith, e, length_put o (length is) (insn x))) g)
