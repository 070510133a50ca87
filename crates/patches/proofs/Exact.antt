-- An accepted program is as long as its tokens ask.
use Prim.Native.Nat.{ℕ, suc, ◌+◌, ◌*◌, ◌≤◌}
use mathlib.Core.Path.{◌≡◌, refl, sym, ap, ◌∙◌, subst}
use mathlib.Core.List.{List, [], ◌∷◌, ◌++◌, append_assoc, append-nil}
use native.Mathlib.Omega.{arith}
use lib.ListN.{length}
use Rattle.ebpf.specs.declared.insn.Insn.{Insn}
use Rattle.tree.specs.Tree.{Tree, flat}
use Rattle.tree.specs.Tree.Tree.{leaf, and, or, inv}
use Rattle.patches.specs.Chain.{Patched}
use Rattle.std.specs.Prelude.{Ok, Err}
use Rattle.patches.specs.Chain.{reach}
use Rattle.patches.specs.Operators.{ja}
use Rattle.patches.specs.Machine.{Tpl, size_of, cost}
use Rattle.patches.specs.Machine.Tpl.{code, refused}
use Rattle.patches.specs.Rel.{due}
use Rattle.patches.specs.Whole.{prologue, epilogue, Comp, compiled}
use Rattle.patches.specs.Whole.Comp.{made}
use Rattle.patches.specs.Listing.{resolved_l, listed, ResL, when_l, on_leaf_l, and_done_l, and_right_l, or_done_l, or_right_l, not_done_l, emit_l}
use Rattle.patches.specs.Listing.{CompL, end_l, ended_l, res_comp_l, compile_l, Begins}
use Rattle.patches.specs.Listing.ResL.{fail_l, ok_l}
use Rattle.patches.specs.Listing.CompL.{stopped_l, made_l}
use Rattle.patches.proofs.Program.{Same, listing}
use Rattle.patches.proofs.Program.Same.{no_code, program}
use Rattle.patches.proofs.Bytes.{length_resolved_l, length_snoc, length_listed}

-- The instructions so far and those that the tokens left ask for are n.
abbrev Grown : (ℕ → Tpl) → List ℕ → ℕ → ResL → Type 0
Grown tpl rest n (fail_l c i) = Unit {0}
Grown tpl rest n (ok_l is k sp fp) = length is + cost tpl rest k ≡ n

-- The law for one tree, behind any instructions and before any tokens.
abbrev Law : (ℕ → Tpl) → Tree → Type 0
Law tpl t = (rest : List ℕ) (k : ℕ) (is : List Insn) → Grown tpl rest (length is + cost tpl (flat t ++ rest) k) (emit_l tpl t k is)

on_leaf : (tpl : ℕ → Tpl) (rest : List ℕ) (k : ℕ) (is : List Insn) (t : Tpl) → Grown tpl rest (length is + (size_of t + cost tpl rest (suc k))) (on_leaf_l t k is)
on_leaf tpl rest k is (refused c) = tt
on_leaf tpl rest k is (code xs) = omega (arith, length_listed xs is)

module _ (tpl : ℕ → Tpl) (rest : List ℕ) (n : ℕ) where
  and_done : (kept : List ℕ) (l : ResL) → Grown tpl rest n l → Grown tpl rest n (and_done_l kept l)
  and_done kept (fail_l c i) h = tt
  and_done kept (ok_l is k sp fp) h = h

  or_done : (kept : List ℕ) (l : ResL) → Grown tpl rest n l → Grown tpl rest n (or_done_l kept l)
  or_done kept (fail_l c i) h = tt
  or_done kept (ok_l is k sp fp) h = h

  and_right : (b : Tree) → Law tpl b → (l : ResL) → Grown tpl (flat b ++ rest) n l → Grown tpl rest n (and_right_l l (λ k is. emit_l tpl b k is))
  and_right b ih (fail_l c i) h = tt
  and_right b ih (ok_l is k sp fp) h = go (reach (length is) sp)
    where
      is2 : List Insn
      is2 = resolved_l (length is) sp is

      so_far : length is2 + cost tpl (flat b ++ rest) k ≡ n
      so_far = omega (arith, length_resolved_l (length is) sp is, h)

      go : (r : Patched) → Grown tpl rest n (when_l r (and_done_l fp (emit_l tpl b k is2)))
      go (Err _) = tt
      go (Ok _) = and_done fp (emit_l tpl b k is2) (subst (λ (m : ℕ). Grown tpl rest m (emit_l tpl b k is2)) so_far (ih rest k is2))

  -- with the jump of Or and of Not
  jumped : (is : List Insn) (fp : List ℕ) (m : ℕ) → length is + m ≡ n → length (resolved_l (length is + 1) fp (is ++ (ja ∷ []))) + m ≡ n + 1
  jumped is fp m h = omega (arith, length_resolved_l (length is + 1) fp (is ++ (ja ∷ [])), length_snoc is ja, h)

module _ (tpl : ℕ → Tpl) (rest : List ℕ) (n : ℕ) where
  or_right : (b : Tree) → Law tpl b → (l : ResL) → Grown tpl (flat b ++ rest) n l → Grown tpl rest (n + 1) (or_right_l l (λ k is. emit_l tpl b k is))
  or_right b ih (fail_l c i) h = tt
  or_right b ih (ok_l is k sp fp) h = go (reach (length is + 1) fp)
    where
      is2 : List Insn
      is2 = resolved_l (length is + 1) fp (is ++ (ja ∷ []))

      go : (r : Patched) → Grown tpl rest (n + 1) (when_l r (or_done_l (length is ∷ sp) (emit_l tpl b k is2)))
      go (Err _) = tt
      go (Ok _) =
          or_done tpl rest (n + 1) (length is ∷ sp) (emit_l tpl b k is2)
          (subst (λ (m : ℕ). Grown tpl rest m (emit_l tpl b k is2)) (jumped tpl rest n is fp (cost tpl (flat b ++ rest) k) h) (ih rest k is2))

  not_done : (l : ResL) → Grown tpl rest n l → Grown tpl rest (n + 1) (not_done_l l)
  not_done (fail_l c i) h = tt
  not_done (ok_l is k sp fp) h = go (reach (length is + 1) fp)
    where
      go : (r : Patched) → Grown tpl rest (n + 1) (when_l r (ok_l (resolved_l (length is + 1) fp (is ++ (ja ∷ []))) k [] (length is ∷ sp)))
      go (Err _) = tt
      go (Ok _) = jumped tpl rest n is fp (cost tpl rest k) h

one_more : (a b : ℕ) → a + b + 1 ≡ a + (1 + b)
one_more a b = omega arith

none_more : (a b : ℕ) → a + b ≡ a + (0 + b)
none_more a b = omega arith

grown : (tpl : ℕ → Tpl) (t : Tree) → Law tpl t
unfolding emit_l flat cost due
grown tpl leaf rest k is = on_leaf tpl rest k is (tpl k)
grown tpl (and a b) rest k is =
    subst (λ (l : List ℕ). Grown tpl rest (length is + (0 + cost tpl l k)) (emit_l tpl (and a b) k is)) (sym (append_assoc (flat a) (flat b) rest))
    (subst (λ (m : ℕ). Grown tpl rest m (emit_l tpl (and a b) k is)) (none_more (length is) (cost tpl (flat a ++ (flat b ++ rest)) k))
    (and_right tpl rest _ b (λ rest k is. grown tpl b rest k is) (emit_l tpl a k is) (grown tpl a (flat b ++ rest) k is)))
grown tpl (or a b) rest k is =
    subst (λ (l : List ℕ). Grown tpl rest (length is + (1 + cost tpl l k)) (emit_l tpl (or a b) k is)) (sym (append_assoc (flat a) (flat b) rest))
    (subst (λ (m : ℕ). Grown tpl rest m (emit_l tpl (or a b) k is)) (one_more (length is) (cost tpl (flat a ++ (flat b ++ rest)) k))
    (or_right tpl rest _ b (λ rest k is. grown tpl b rest k is) (emit_l tpl a k is) (grown tpl a (flat b ++ rest) k is)))
grown tpl (inv a) rest k is =
    subst (λ (m : ℕ). Grown tpl rest m (emit_l tpl (inv a) k is)) (one_more (length is) (cost tpl (flat a ++ rest) k))
    (not_done tpl rest _ (emit_l tpl a k is) (grown tpl a rest k is))

-- Accepted, the program has n instructions.
abbrev pub Long : ℕ → CompL → Type 0
Long n (stopped_l c i) = Unit {0}
Long n (made_l is) = length is ≡ n

four_more : (is : List Insn) → length (listed epilogue is) ≡ length is + 4
unfolding epilogue
four_more is = length_listed epilogue is

cost_nil : (tpl : ℕ → Tpl) (k : ℕ) → cost tpl [] k ≡ 0
unfolding cost
cost_nil tpl k = refl

two : length (listed prologue []) ≡ 2
unfolding listed prologue
two = refl

end_long : (tpl : ℕ → Tpl) (n : ℕ) (l : ResL) → Grown tpl [] n l → Long (n + 4) (res_comp_l l)
unfolding ended_l
end_long tpl n (fail_l c i) h = tt
end_long tpl n (ok_l is k sp fp) h = go (reach (length is) sp) (reach (length is + 2) fp)
  where
    is2 : List Insn
    is2 = resolved_l (length is) sp (listed epilogue is)

    go : (x y : Patched) → Long (n + 4) (end_l x y (resolved_l (length is + 2) fp is2))
    go (Err _) y = tt
    go (Ok _) (Err _) = tt
    go (Ok _) (Ok _) =
        omega (arith, length_resolved_l (length is + 2) fp is2, length_resolved_l (length is) sp (listed epilogue is), four_more is, cost_nil tpl k, h)

-- THEOREM: an accepted program has the prologue's two instructions, what the tokens ask for, and the two exits' four.
pub exact : (tpl : ℕ → Tpl) (t : Tree) → Long (2 + cost tpl (flat t) 0 + 4) (compile_l tpl t)
unfolding compile_l
exact tpl t =
    let is2 = listed prologue [] in
    subst (λ (m : ℕ). Long (m + 4) (compile_l tpl t)) (ap (λ (l : List ℕ). length is2 + cost tpl l 0) (append-nil (flat t)) ∙ ap (λ (m : ℕ). m + cost tpl (flat t) 0) two)
    (end_long tpl (length is2 + cost tpl (flat t ++ []) 0) (emit_l tpl t 0 is2) (grown tpl t [] 0 is2))

-- The answer over lists is a program of l instructions, and the bytes begin with them.
pub record Accepted (l : ℕ) (o : List ℕ) (b : CompL) : Type 0 where
  pub is : List Insn
  pub eq : b ≡ made_l is
  pub len : length is ≡ l
  pub begins : Begins o is

-- THEOREM: "accepted, [the first 8 x L output bytes] are the program".
pub accepted : (tpl : ℕ → Tpl) (t : Tree) (o o' : List ℕ) (l : ℕ) → l ≡ 2 + cost tpl (flat t) 0 + 4 → 8 * l ≤ length o → compiled tpl (flat t) o ≡ made o'
    → Accepted l o' (compile_l tpl t)
accepted tpl t o o' l e h c = go (compiled tpl (flat t) o) (compile_l tpl t) (listing tpl t o) (exact tpl t) c
  where
    go : (a : Comp) (b : CompL) → Same (length o) a b → Long (2 + cost tpl (flat t) 0 + 4) b → a ≡ made o' → Accepted l o' b
    go a b no_code n c = let z : ◌≡◌ {A = ℕ} 0 1 = cc in absurd (omega arith)
    go a b (program {o = o1} {is = is} k) n c =
        let q : o1 ≡ o' = cc in
        record { is = is; eq = refl; len = n ∙ sym e; begins = subst (λ (x : List ℕ). Begins x is) q (k (omega arith)) }
