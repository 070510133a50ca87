-- THEOREM: the program that `compile` makes over lists of instructions is the program by the tree.
use Prim.Native.Nat.{ℕ, suc, ◌+◌, ◌<◌, ◌≤◌}
use mathlib.Core.Path.{◌≡◌, refl, sym, ap, ◌∙◌, subst}
use mathlib.Core.Bool.{Bool, true, false}
use mathlib.Core.List.{List, [], ◌∷◌, ◌++◌}
use native.Mathlib.Omega.{arith}
use borrow.Author.Tests.{ltb-true, ltb-false}
use lib.Dec.{ltb}
use Rattle.ebpf.specs.declared.insn.Insn.{Insn}
use Rattle.tree.specs.Tree.{Tree, leaf, and, or, inv, leaves}
use Rattle.patches.specs.Chain.{Patched}
use Rattle.std.specs.Prelude.{Ok, Err}
use Rattle.patches.specs.Chain.{reach}
use Rattle.patches.specs.Code.{Slot}
use Rattle.patches.specs.Operators.{ja}
use Rattle.patches.specs.Machine.{Tpl}
use Rattle.patches.specs.Machine.Tpl.{code, refused}
use Rattle.patches.specs.Whole as whole
use Rattle.patches.specs.Listing.{resolved_l, listed, ResL, when_l, on_leaf_l, and_done_l, and_right_l, or_done_l, or_right_l, not_done_l, emit_l}
use Rattle.patches.specs.Listing.{CompL, end_l, ended_l, res_comp_l, compile_l}
use Rattle.patches.specs.Listing.ResL.{fail_l, ok_l}
use Rattle.patches.specs.Listing.CompL.{stopped_l, made_l}
use Rattle.pieces.specs.Fragments.{settled}
use Rattle.sound.specs.Trees.{landed, tree_code, program}
use Rattle.sound.specs.Fitting.{SuccessNear, FailureNear, TreeNear}
use Rattle.sound.proofs.PatchLists.{listed_insns}
use Rattle.sound.proofs.Emitted.{joined, end, on_success, on_failure, emitted, same_answer, and_resolved, and_emitted, ja_resolved, or_emitted, not_emitted, exits_resolved}
use Rattle.sound.proofs.Emitted.{success_near, failure_near, success_far, failure_far}

-- A primitive that is refused has no code.
refused_coded : {c : ℕ} {xs : List Slot} → refused c ≡ code xs → ⊥
refused_coded e = let z : ◌≡◌ {A = ℕ} 0 1 = cc e in absurd (omega arith)

module _ (tpl : ℕ → Tpl) (prim : ℕ → List Slot) where
  -- Each primitive of the tree has its code: none is refused.
  abbrev Coded : Tree → ℕ → Type 0
  Coded t k = (i : ℕ) → k ≤ i → i < k + leaves t → tpl i ≡ code (prim i)

  -- The answer for a tree: the code by the tree, or a refusal, which comes only where a primitive is refused or a jump is too far.
  data Emits (t : Tree) (k : ℕ) (is : List Insn) : ResL → Type 0 where
    stops : {c i : ℕ} → (Coded t k → TreeNear prim t k → ⊥) → Emits t k is (fail_l c i)
    goes : {n : ℕ} → n ≡ k + leaves t → Coded t k → TreeNear prim t k → Emits t k is (emitted (tree_code prim t k) n is)

  -- The primitives of two trees, one after the other.
  both : (a b : Tree) (k : ℕ) → Coded a k → Coded b (k + leaves a) → (i : ℕ) → k ≤ i → i < k + (leaves a + leaves b) → tpl i ≡ code (prim i)
  both a b k c d i l l' = go (ltb i (k + leaves a)) refl
    where
      go : (left : Bool) → ltb i (k + leaves a) ≡ left → tpl i ≡ code (prim i)
      go true e = c i l (ltb-true i (k + leaves a) e)
      go false e = d i (ltb-false i (k + leaves a) e) (omega arith)

  on_leaf : (k : ℕ) (is : List Insn) (u : Tpl) → tpl k ≡ u → ((xs : List Slot) → tpl k ≡ code xs → xs ≡ prim k) → Emits leaf k is (on_leaf_l u k is)
  unfolding tree_code leaves
  on_leaf k is (refused c) e own = stops (λ coded n. refused_coded (sym e ∙ coded k (omega arith) (omega arith)))
  on_leaf k is (code xs) e own =
      let p : xs ≡ prim k = own xs e in
      let next : suc k ≡ k + 1 = omega arith in
      let coded : Coded leaf k = λ i l l'. let q : k ≡ i = omega arith in subst (λ (i : ℕ). tpl i ≡ code (prim i)) q (e ∙ ap code p) in
      subst (λ (r : ResL). Emits leaf k is r)
      (ap (λ (ys : List Slot). emitted ys (suc k) is) (sym p) ∙ same_answer (sym (listed_insns xs is)) refl refl)
      (goes next coded tt)

  module _ (a b : Tree) (k : ℕ) (is : List Insn) where
    abbrev left : List Slot
    left = tree_code prim a k

    abbrev right : List Slot
    right = tree_code prim b (k + leaves a)

    -- The law for the right operand, behind any instructions.
    abbrev Law : Type 0
    Law = (js : List Insn) → Emits b (k + leaves a) js (emit_l tpl b (k + leaves a) js)

    and_done : Coded a k → TreeNear prim a k → SuccessNear 0 left → (r : ResL) → Emits b (k + leaves a) (joined is (landed 0 left)) r
        → Emits (and a b) k is (and_done_l (on_failure is left) r)
    unfolding tree_code leaves
    and_done c n s r (stops f) = stops (λ c n. f (λ i l l'. c i (omega arith) (omega arith)) n.2)
    and_done c n s r (goes {n = m} e d n') =
        let next : m ≡ k + (leaves a + leaves b) = omega arith in
        subst (λ (r : ResL). Emits (and a b) k is r) (sym (and_emitted is left right m)) (goes next (both a b k c d) (n, s, n'))

    and_right : Law → (r : ResL) → Emits a k is r → Emits (and a b) k is (and_right_l r (λ n js. emit_l tpl b n js))
    unfolding tree_code leaves
    and_right law r (stops f) = stops (λ c n. f (λ i l l'. c i l (omega arith)) n.0)
    and_right law r (goes e c n) =
        subst (λ (m : ℕ). Emits (and a b) k is (and_right_l (emitted left m is) (λ n js. emit_l tpl b n js))) (sym e)
        (go (reach (end is left) (on_success is left)) refl)
      where
        after : List Insn → ResL
        after js = and_done_l (on_failure is left) (emit_l tpl b (k + leaves a) js)

        go : (p : Patched) → reach (end is left) (on_success is left) ≡ p
            → Emits (and a b) k is (when_l p (after (resolved_l (end is left) (on_success is left) (joined is left))))
        go (Err _) e = stops (λ c n. success_far is left e n.1)
        go (Ok _) e =
            let s = success_near is left e in
            subst (λ (js : List Insn). Emits (and a b) k is (after js)) (sym (and_resolved is left s)) (and_done c n s _ (law (joined is (landed 0 left))))

    or_done : Coded a k → TreeNear prim a k → FailureNear 1 left → (r : ResL) → Emits b (k + leaves a) (joined is (settled 1 left) ++ (ja ∷ [])) r
        → Emits (or a b) k is (or_done_l (end is left ∷ on_success is left) r)
    unfolding tree_code leaves
    or_done c n f r (stops g) = stops (λ c n. g (λ i l l'. c i (omega arith) (omega arith)) n.2)
    or_done c n f r (goes {n = m} e d n') =
        let next : m ≡ k + (leaves a + leaves b) = omega arith in
        subst (λ (r : ResL). Emits (or a b) k is r) (sym (or_emitted is left right m)) (goes next (both a b k c d) (n, f, n'))

    or_right : Law → (r : ResL) → Emits a k is r → Emits (or a b) k is (or_right_l r (λ n js. emit_l tpl b n js))
    unfolding tree_code leaves
    or_right law r (stops f) = stops (λ c n. f (λ i l l'. c i l (omega arith)) n.0)
    or_right law r (goes e c n) =
        subst (λ (m : ℕ). Emits (or a b) k is (or_right_l (emitted left m is) (λ n js. emit_l tpl b n js))) (sym e)
        (go (reach (end is left + 1) (on_failure is left)) refl)
      where
        after : List Insn → ResL
        after js = or_done_l (end is left ∷ on_success is left) (emit_l tpl b (k + leaves a) js)

        go : (p : Patched) → reach (end is left + 1) (on_failure is left) ≡ p
            → Emits (or a b) k is (when_l p (after (resolved_l (end is left + 1) (on_failure is left) (joined is left ++ (ja ∷ [])))))
        go (Err _) e = stops (λ c n. failure_far is left 1 e n.1)
        go (Ok _) e =
            let f = failure_near is left 1 e in
            subst (λ (js : List Insn). Emits (or a b) k is (after js)) (sym (ja_resolved is left f)) (or_done c n f _ (law (joined is (settled 1 left) ++ (ja ∷ []))))

  not_done : (a : Tree) (k : ℕ) (is : List Insn) (r : ResL) → Emits a k is r → Emits (inv a) k is (not_done_l r)
  unfolding tree_code leaves
  not_done a k is r (stops f) = stops (λ c n. f c n.0)
  not_done a k is r (goes {n = m} e c n) = go (reach (end is xs + 1) (on_failure is xs)) refl
    where
      xs : List Slot
      xs = tree_code prim a k

      after : List Insn → ResL
      after js = ok_l js m [] (end is xs ∷ on_success is xs)

      go : (p : Patched) → reach (end is xs + 1) (on_failure is xs) ≡ p
          → Emits (inv a) k is (when_l p (after (resolved_l (end is xs + 1) (on_failure is xs) (joined is xs ++ (ja ∷ [])))))
      go (Err _) e' = stops (λ c n. failure_far is xs 1 e' n.1)
      go (Ok _) e' =
          let f = failure_near is xs 1 e' in
          subst (λ (r : ResL). Emits (inv a) k is r) (sym (ap after (ja_resolved is xs f) ∙ not_emitted is xs m)) (goes e c (n, f))

  -- By the tree; `prim i` is the code of primitive i, if it has one.
  emits : (t : Tree) (k : ℕ) (is : List Insn) → ((i : ℕ) → k ≤ i → i < k + leaves t → (xs : List Slot) → tpl i ≡ code xs → xs ≡ prim i)
      → Emits t k is (emit_l tpl t k is)
  unfolding emit_l leaves
  emits leaf k is own = on_leaf k is (tpl k) refl (own k (omega arith) (omega arith))
  emits (and a b) k is own =
      and_right a b k is (λ js. emits b (k + leaves a) js (λ i l l'. own i (omega arith) (omega arith))) (emit_l tpl a k is)
      (emits a k is (λ i l l'. own i l (omega arith)))
  emits (or a b) k is own =
      or_right a b k is (λ js. emits b (k + leaves a) js (λ i l l'. own i (omega arith) (omega arith))) (emit_l tpl a k is)
      (emits a k is (λ i l l'. own i l (omega arith)))
  emits (inv a) k is own = not_done a k is (emit_l tpl a k is) (emits a k is own)

-- Refusal 10 meets none of the `resolve_all`, neither in `emit_expr` nor at the end of `compile`.
pub record ProgramNear (prim : ℕ → List Slot) (t : Tree) : Type 0 where
  pub inside : TreeNear prim t 0
  pub to_accept : SuccessNear 0 (tree_code prim t 0)
  pub to_drop : FailureNear 2 (tree_code prim t 0)

module _ (tpl : ℕ → Tpl) (prim : ℕ → List Slot) (t : Tree) where
  -- The answer for the whole program.
  data Makes : CompL → Type 0 where
    refuses : {c i : ℕ} → (Coded tpl prim t 0 → ProgramNear prim t → ⊥) → Makes (stopped_l c i)
    makes : Coded tpl prim t 0 → ProgramNear prim t → Makes (made_l (program (tree_code prim t 0)))

  ends : (r : ResL) → Emits tpl prim t 0 (listed whole.prologue []) r → Makes (res_comp_l r)
  unfolding ended_l listed whole.prologue program
  ends r (stops f) = refuses (λ c n. f c n.inside)
  ends r (goes e c n) = go (reach (end is xs) (on_success is xs)) (reach (end is xs + 2) (on_failure is xs)) refl refl
    where
      is : List Insn
      is = listed whole.prologue []

      xs : List Slot
      xs = tree_code prim t 0

      go : (p q : Patched) → reach (end is xs) (on_success is xs) ≡ p → reach (end is xs + 2) (on_failure is xs) ≡ q
          → Makes (end_l p q (resolved_l (end is xs + 2) (on_failure is xs) (resolved_l (end is xs) (on_success is xs) (listed whole.epilogue (joined is xs)))))
      go (Err _) q e e' = refuses (λ c n. success_far is xs e n.to_accept)
      go (Ok _) (Err _) e e' = refuses (λ c n. failure_far is xs 2 e' n.to_drop)
      go (Ok _) (Ok _) e e' =
          let s = success_near is xs e in
          let f = failure_near is xs 2 e' in
          subst (λ (js : List Insn). Makes (made_l js)) (sym (exits_resolved is xs s f)) (makes c (record { inside = n; to_accept = s; to_drop = f }))

  compiles : ((i : ℕ) → i < leaves t → (xs : List Slot) → tpl i ≡ code xs → xs ≡ prim i) → Makes (compile_l tpl t)
  unfolding compile_l
  compiles own = ends (emit_l tpl t 0 (listed whole.prologue [])) (emits tpl prim t 0 (listed whole.prologue []) (λ i l l'. own i (omega arith)))

  -- THEOREM: a program that is made is the program by the tree; no primitive is refused and no jump is too far. `prim i` is the code of primitive i, if it has one.
  pub made_by_tree : ((i : ℕ) → i < leaves t → (xs : List Slot) → tpl i ≡ code xs → xs ≡ prim i) → (is : List Insn) → compile_l tpl t ≡ made_l is
      → (is ≡ program (tree_code prim t 0)) × ProgramNear prim t × ((i : ℕ) → i < leaves t → tpl i ≡ code (prim i))
  made_by_tree own is e = go (compile_l tpl t) (compiles own) e
    where
      go : (r : CompL) → Makes r → r ≡ made_l is → (is ≡ program (tree_code prim t 0)) × ProgramNear prim t × ((i : ℕ) → i < leaves t → tpl i ≡ code (prim i))
      go r (refuses f) e = let z : ◌≡◌ {A = ℕ} 0 1 = cc e in absurd (omega arith)
      go r (makes c n) e = let p : is ≡ program (tree_code prim t 0) = cc in (p, n, λ i l. c i (omega arith) (omega arith))

  -- Where every primitive has its code:
  module _ (coded : (i : ℕ) → i < leaves t → tpl i ≡ code (prim i)) where
    own : (i : ℕ) → i < leaves t → (xs : List Slot) → tpl i ≡ code xs → xs ≡ prim i
    own i l xs e = let h : code xs ≡ code (prim i) = sym e ∙ coded i l in cc

    -- THEOREM: a program that is made is the program by the tree, and no jump is too far;
    pub made : (is : List Insn) → compile_l tpl t ≡ made_l is → (is ≡ program (tree_code prim t 0)) × ProgramNear prim t
    made is e = let m = made_by_tree own is e in (m.0, m.1)

    -- THEOREM: the converse.
    pub near_made : ProgramNear prim t → compile_l tpl t ≡ made_l (program (tree_code prim t 0))
    near_made n = go (compile_l tpl t) (compiles own)
      where
        go : (r : CompL) → Makes r → r ≡ made_l (program (tree_code prim t 0))
        go r (refuses f) = absurd (f (λ i l l'. coded i (omega arith)) n)
        go r (makes c n) = refl
