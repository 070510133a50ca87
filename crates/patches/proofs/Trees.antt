-- The walk over the tokens of a tree does what the recursion on the tree says, refusals in order.
use Prim.Native.Nat.{ℕ, suc, ◌+◌}
use mathlib.Core.Path.{◌≡◌, refl, sym, ap, ◌∙◌}
use mathlib.Core.List.{List, [], ◌∷◌, ◌++◌, append_assoc, append-nil}
use Rattle.tree.specs.Tree.{Tree, flat}
use Rattle.tree.specs.Tree.Tree.{leaf, and, or, inv}
use Rattle.patches.specs.Chain.{Patched}
use Rattle.std.specs.Prelude.{Ok, Err}
use Rattle.patches.specs.Chain.{reach, resolved}
use Rattle.patches.specs.Code.{outs, put_insn}
use Rattle.patches.specs.Rel.{AND_RIGHT, OR_RIGHT, NOT_DONE, AND_DONE, OR_DONE, Frame}
use Rattle.patches.specs.Rel.Frame.{frame}
use Rattle.patches.specs.Finish.{Step, Ending, finish_ops, close_op, near, on_step}
use Rattle.patches.specs.Operators.{ja}
use Rattle.patches.specs.Finish.Step.{up, stay}
use Rattle.patches.specs.Finish.Ending.{refuse, wait}
use Rattle.patches.specs.Machine.{Tpl, run, emit_leaf, go_on}
use Rattle.patches.specs.Machine.Tpl.{code, refused}
use Rattle.patches.specs.Whole.{compiled, final_of, prologue}
use Rattle.patches.specs.Trees.{Res, when, on_leaf, and_done, and_right, or_done, or_right, not_done, emit, res_comp, compile_tree}
use Rattle.patches.specs.Trees.Res.{fail, ok}

-- An operand's result, then the operators that wait for it and the tokens that are left.
abbrev after : (ℕ → Tpl) → Res → List Frame → List ℕ → Ending
after tpl (fail c i) fs rest = refuse c i
after tpl (ok o k p sp fp) fs rest = go_on (finish_ops fs p o sp fp) (λ o' p' fs'. run tpl rest k p' o' fs')

-- The law for one tree, whatever waits and follows.
abbrev Law : (ℕ → Tpl) → Tree → Type 0
Law tpl t = (rest : List ℕ) (k pos : ℕ) (o : List ℕ) (fs : List Frame) → run tpl (flat t ++ rest) k pos o fs ≡ after tpl (emit tpl t k pos o) fs rest

on_leaf_lem : (tpl : ℕ → Tpl) (rest : List ℕ) (k pos : ℕ) (o : List ℕ) (fs : List Frame) (t : Tpl)
    → go_on (emit_leaf t k fs pos o) (λ o' p' fs'. run tpl rest (suc k) p' o' fs') ≡ after tpl (on_leaf t k pos o) fs rest
unfolding emit_leaf
on_leaf_lem tpl rest k pos o fs (code xs) = refl
on_leaf_lem tpl rest k pos o fs (refused c) = refl

module _ (tpl : ℕ → Tpl) (lo : ℕ) (fs : List Frame) (rest : List ℕ) where
  -- What follows a step, tokens left.
  abbrev next : Step → ℕ → List ℕ → Ending
  next s k ts =
      go_on (on_step s (λ o p sp fp. finish_ops fs p o sp fp) (λ o p op ps. wait o p (frame op lo ps ∷ fs))) (λ o p fs'. run tpl ts k p o fs')

  and_done_lem : (kept : List ℕ) (e : Res) → after tpl e (frame AND_DONE lo kept ∷ fs) rest ≡ after tpl (and_done kept e) fs rest
  unfolding finish_ops close_op
  and_done_lem kept (fail c i) = refl
  and_done_lem kept (ok o k p sp fp) = refl

  or_done_lem : (kept : List ℕ) (e : Res) → after tpl e (frame OR_DONE lo kept ∷ fs) rest ≡ after tpl (or_done kept e) fs rest
  unfolding finish_ops close_op
  or_done_lem kept (fail c i) = refl
  or_done_lem kept (ok o k p sp fp) = refl

  and_right_lem : (b : Tree) → Law tpl b → (e : Res)
      → after tpl e (frame AND_RIGHT lo [] ∷ fs) (flat b ++ rest) ≡ after tpl (and_right e (λ k p o. emit tpl b k p o)) fs rest
  unfolding finish_ops close_op
  and_right_lem b ih (fail c i) = refl
  and_right_lem b ih (ok o k p sp fp) = go (reach p sp)
    where
      go : (r : Patched) → next (near r (stay (resolved p sp o) p AND_DONE fp)) k (flat b ++ rest)
          ≡ after tpl (when r (and_done fp (emit tpl b k p (resolved p sp o)))) fs rest
      go (Err _) = refl
      go (Ok _) = ih rest k p (resolved p sp o) (frame AND_DONE lo fp ∷ fs) ∙ and_done_lem fp (emit tpl b k p (resolved p sp o))

  or_right_lem : (b : Tree) → Law tpl b → (e : Res)
      → after tpl e (frame OR_RIGHT lo [] ∷ fs) (flat b ++ rest) ≡ after tpl (or_right e (λ k p o. emit tpl b k p o)) fs rest
  unfolding finish_ops close_op
  or_right_lem b ih (fail c i) = refl
  or_right_lem b ih (ok o k p sp fp) = go (reach (p + 1) fp)
    where
      go : (r : Patched) → next (near r (stay (resolved (p + 1) fp (put_insn o p ja)) (p + 1) OR_DONE (p ∷ sp))) k (flat b ++ rest)
          ≡ after tpl (when r (or_done (p ∷ sp) (emit tpl b k (p + 1) (resolved (p + 1) fp (put_insn o p ja))))) fs rest
      go (Err _) = refl
      go (Ok _) =
          ih rest k (p + 1) (resolved (p + 1) fp (put_insn o p ja)) (frame OR_DONE lo (p ∷ sp) ∷ fs)
          ∙ or_done_lem (p ∷ sp) (emit tpl b k (p + 1) (resolved (p + 1) fp (put_insn o p ja)))

  not_done_lem : (e : Res) → after tpl e (frame NOT_DONE lo [] ∷ fs) rest ≡ after tpl (not_done e) fs rest
  unfolding finish_ops close_op
  not_done_lem (fail c i) = refl
  not_done_lem (ok o k p sp fp) = go (reach (p + 1) fp)
    where
      go : (r : Patched) → next (near r (up (resolved (p + 1) fp (put_insn o p ja)) (p + 1) [] (p ∷ sp))) k rest
          ≡ after tpl (when r (ok (resolved (p + 1) fp (put_insn o p ja)) k (p + 1) [] (p ∷ sp))) fs rest
      go (Err _) = refl
      go (Ok _) = refl

-- THEOREM: the walk over the tokens is the recursion on the tree.
pub run_tree : (tpl : ℕ → Tpl) (t : Tree) → Law tpl t
unfolding run flat emit
run_tree tpl leaf rest k pos o fs = on_leaf_lem tpl rest k pos o fs (tpl k)
run_tree tpl (and a b) rest k pos o fs =
    ap (λ l. run tpl l k pos o (frame AND_RIGHT pos [] ∷ fs)) (append_assoc (flat a) (flat b) rest)
    ∙ run_tree tpl a (flat b ++ rest) k pos o (frame AND_RIGHT pos [] ∷ fs)
    ∙ and_right_lem tpl pos fs rest b (λ rest k p o fs. run_tree tpl b rest k p o fs) (emit tpl a k pos o)
run_tree tpl (or a b) rest k pos o fs =
    ap (λ l. run tpl l k pos o (frame OR_RIGHT pos [] ∷ fs)) (append_assoc (flat a) (flat b) rest)
    ∙ run_tree tpl a (flat b ++ rest) k pos o (frame OR_RIGHT pos [] ∷ fs)
    ∙ or_right_lem tpl pos fs rest b (λ rest k p o fs. run_tree tpl b rest k p o fs) (emit tpl a k pos o)
run_tree tpl (inv a) rest k pos o fs =
    run_tree tpl a rest k pos o (frame NOT_DONE pos [] ∷ fs) ∙ not_done_lem tpl pos fs rest (emit tpl a k pos o)

-- THEOREM: so is the whole program.
pub compile_tree_lem : (tpl : ℕ → Tpl) (t : Tree) (o : List ℕ) → compiled tpl (flat t) o ≡ compile_tree tpl t o
unfolding compiled compile_tree finish_ops
compile_tree_lem tpl t o =
    ap (λ l. final_of (run tpl l 0 2 (outs prologue 0 o) [])) (sym (append-nil (flat t)))
    ∙ ap final_of (run_tree tpl t [] 0 2 (outs prologue 0 o) [])
    ∙ last (emit tpl t 0 2 (outs prologue 0 o))
  where
    last : (e : Res) → final_of (after tpl e [] []) ≡ res_comp e
    last (fail c i) = refl
    last (ok o k p sp fp) = refl
