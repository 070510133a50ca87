-- And and Or are associative, as `emit_expr` closes them: the jumps that are set at an operand's end, and those that are kept, do not depend on the brackets.
use Prim.Native.Nat.{ℕ, ◌+◌}
use mathlib.Core.Path.{◌≡◌, refl, ap}
use mathlib.Core.List.{List, [], ◌∷◌, ◌++◌, append_assoc}
use lib.ListN.{length}
use Rattle.ebpf.specs.declared.insn.Insn.{Insn}
use Rattle.patches.specs.Chain.{Patched}
use Rattle.std.specs.Prelude.{Ok, Err}
use Rattle.patches.specs.Chain.{reach}
use Rattle.patches.specs.Operators.{ja}
use Rattle.patches.specs.Listing.{resolved_l, ResL, when_l, and_done_l, and_right_l, or_done_l, or_right_l}
use Rattle.patches.specs.Listing.ResL.{fail_l, ok_l}

-- What is kept twice is kept at once.
and_done_twice : (f g : List ℕ) (r : ResL) → and_done_l (f ++ g) r ≡ and_done_l g (and_done_l f r)
and_done_twice f g (fail_l c i) = refl
and_done_twice f g (ok_l is k sp fp) = simp append_assoc

or_done_twice : (s t : List ℕ) (r : ResL) → or_done_l (s ++ t) r ≡ or_done_l t (or_done_l s r)
or_done_twice s t (fail_l c i) = refl
or_done_twice s t (ok_l is k sp fp) = simp append_assoc

-- What comes behind an operand, from its number and the instructions before it.
abbrev pub More : Type 0
More = ℕ → List Insn → ResL

-- An operand that keeps what waits, and what comes behind it.
and_done_right : (kept : List ℕ) (r : ResL) (more : More) → and_right_l (and_done_l kept r) more ≡ and_done_l kept (and_right_l r more)
and_done_right kept (fail_l c i) more = refl
and_done_right kept (ok_l is k sp fp) more = go (reach (length is) sp)
  where
    go : (p : Patched) → when_l p (and_done_l (fp ++ kept) (more k (resolved_l (length is) sp is))) ≡ and_done_l kept (when_l p (and_done_l fp (more k (resolved_l (length is) sp is))))
    go (Err _) = refl
    go (Ok _) = and_done_twice fp kept (more k (resolved_l (length is) sp is))

or_done_right : (kept : List ℕ) (r : ResL) (more : More) → or_right_l (or_done_l kept r) more ≡ or_done_l kept (or_right_l r more)
or_done_right kept (fail_l c i) more = refl
or_done_right kept (ok_l is k sp fp) more = go (reach (length is + 1) fp)
  where
    go : (p : Patched) → when_l p (or_done_l (length is ∷ (sp ++ kept)) (more k (resolved_l (length is + 1) fp (is ++ (ja ∷ [])))))
        ≡ or_done_l kept (when_l p (or_done_l (length is ∷ sp) (more k (resolved_l (length is + 1) fp (is ++ (ja ∷ []))))))
    go (Err _) = refl
    go (Ok _) = or_done_twice (length is ∷ sp) kept (more k (resolved_l (length is + 1) fp (is ++ (ja ∷ []))))

-- THEOREM: one operator after another, by either bracket.
pub and_assoc : (r : ResL) (f g : More) → and_right_l (and_right_l r f) g ≡ and_right_l r (λ k is. and_right_l (f k is) g)
and_assoc (fail_l c i) f g = refl
and_assoc (ok_l is k sp fp) f g = go (reach (length is) sp)
  where
    go : (p : Patched) → and_right_l (when_l p (and_done_l fp (f k (resolved_l (length is) sp is)))) g ≡ when_l p (and_done_l fp (and_right_l (f k (resolved_l (length is) sp is)) g))
    go (Err _) = refl
    go (Ok _) = and_done_right fp (f k (resolved_l (length is) sp is)) g

pub or_assoc : (r : ResL) (f g : More) → or_right_l (or_right_l r f) g ≡ or_right_l r (λ k is. or_right_l (f k is) g)
or_assoc (fail_l c i) f g = refl
or_assoc (ok_l is k sp fp) f g = go (reach (length is + 1) fp)
  where
    go : (p : Patched) → or_right_l (when_l p (or_done_l (length is ∷ sp) (f k (resolved_l (length is + 1) fp (is ++ (ja ∷ [])))))) g
        ≡ when_l p (or_done_l (length is ∷ sp) (or_right_l (f k (resolved_l (length is + 1) fp (is ++ (ja ∷ [])))) g))
    go (Err _) = refl
    go (Ok _) = or_done_right (length is ∷ sp) (f k (resolved_l (length is + 1) fp (is ++ (ja ∷ [])))) g

-- What comes behind is looked at where it stands only.
pub and_more : (r : ResL) (f g : More) → ((k : ℕ) (is : List Insn) → f k is ≡ g k is) → and_right_l r f ≡ and_right_l r g
and_more (fail_l c i) f g h = refl
and_more (ok_l is k sp fp) f g h = ap (λ x. when_l (reach (length is) sp) (and_done_l fp x)) (h k (resolved_l (length is) sp is))

pub or_more : (r : ResL) (f g : More) → ((k : ℕ) (is : List Insn) → f k is ≡ g k is) → or_right_l r f ≡ or_right_l r g
or_more (fail_l c i) f g h = refl
or_more (ok_l is k sp fp) f g h =
    ap (λ x. when_l (reach (length is + 1) fp) (or_done_l (length is ∷ sp) x)) (h k (resolved_l (length is + 1) fp (is ++ (ja ∷ []))))
