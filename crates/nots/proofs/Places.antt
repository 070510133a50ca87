-- The tree that begins at a place of the tokens, by its first token.
use Prim.Native.Nat.{ℕ, ◌+◌, ◌<◌}
use mathlib.Core.Path.{◌≡◌, sym, ap, ◌∙◌}
use mathlib.Core.List.{List, ◌∷◌, ◌++◌, append_assoc}
use native.Mathlib.Numerals.{add-one}
use native.Mathlib.Omega.{arith}
use lib.ListN.{length, get_or, drop, length-drop}
use lib.Seq.{drop-cons, drop-append_seam, drop-drop}
use Rattle.tree.specs.Tree.{Tree, flat, trees_of, front}
use Rattle.tree.specs.Tree.Tree.{leaf, and, or, inv}
use Rattle.tree.proofs.Prefix.{trees_flat}
use Rattle.nots.specs.Turn.{tree_at, Begins, past}
use Rattle.nots.specs.Turn.Begins.{begins}

module _ (ts : List ℕ) where
  -- The tokens from a place on.
  here : (at t : ℕ) (r : List ℕ) → drop at ts ≡ t ∷ r → at < length ts
  here at t r e = omega (arith, simp length-drop at (ap length e))

  token : (at t : ℕ) (r : List ℕ) → drop at ts ≡ t ∷ r → get_or ts at 0 ≡ t
  token at t r e = cc (drop-cons ts at 0 (here at t r e))

  rest_of : (at t : ℕ) (r : List ℕ) → drop at ts ≡ t ∷ r → drop (at + 1) ts ≡ r
  rest_of at t r e = rw (add-one at) (cc (drop-cons ts at 0 (here at t r e)))

  past_of : (at : ℕ) (x r : List ℕ) → drop at ts ≡ x ++ r → drop (at + length x) ts ≡ r
  past_of at x r e = sym (drop-drop (length x) at ts) ∙ ap (drop (length x)) e ∙ drop-append_seam x r

  pub tree_there : (t : Tree) (at : ℕ) (r : List ℕ) → drop at ts ≡ flat t ++ r → tree_at ts at ≡ t
  unfolding tree_at
  tree_there t at r e = ap (λ x. front (trees_of x)) e ∙ ap front (trees_flat t r)

  -- What a place with a tree is, by its token.
  pub data Part (at : ℕ) : Type 0 where
    lone : get_or ts at 0 ≡ 0 → tree_at ts at ≡ leaf → Part at
    under : get_or ts at 0 ≡ 3 → tree_at ts at ≡ inv (tree_at ts (at + 1)) → Begins ts (at + 1) → Part at
    with_and : get_or ts at 0 ≡ 1 → tree_at ts at ≡ and (tree_at ts (at + 1)) (tree_at ts (past ts (at + 1))) → Begins ts (at + 1) → Begins ts (past ts (at + 1)) → Part at
    with_or : get_or ts at 0 ≡ 2 → tree_at ts at ≡ or (tree_at ts (at + 1)) (tree_at ts (past ts (at + 1))) → Begins ts (at + 1) → Begins ts (past ts (at + 1)) → Part at

  -- Two operands, one after the other.
  module _ (a b : Tree) (at : ℕ) (r : List ℕ) (e : drop at ts ≡ flat a ++ (flat b ++ r)) where
    first_is : tree_at ts at ≡ a
    first_is = tree_there a at (flat b ++ r) e

    behind : drop (past ts at) ts ≡ flat b ++ r
    unfolding past
    behind = ap (λ x. drop (at + length (flat x)) ts) first_is ∙ past_of at (flat a) (flat b ++ r) e

    second_is : tree_at ts (past ts at) ≡ b
    second_is = tree_there b (past ts at) r behind

  pub part : (at : ℕ) → Begins ts at → Part at
  unfolding flat
  part at (begins leaf r e) = lone (token at 0 r e) (tree_there leaf at r e)
  part at (begins (inv a) r e) =
      let f = rest_of at 3 (flat a ++ r) e in
      under (token at 3 _ e) (tree_there (inv a) at r e ∙ ap inv (sym (tree_there a (at + 1) r f))) (begins a r f)
  part at (begins (and a b) r e) =
      let f : drop (at + 1) ts ≡ flat a ++ (flat b ++ r) = rest_of at 1 _ e ∙ append_assoc (flat a) (flat b) r in
      with_and (token at 1 _ e)
      (tree_there (and a b) at r e ∙ ap (λ x. and x b) (sym (first_is a b (at + 1) r f)) ∙ ap (λ x. and (tree_at ts (at + 1)) x) (sym (second_is a b (at + 1) r f)))
      (begins a (flat b ++ r) f) (begins b r (behind a b (at + 1) r f))
  part at (begins (or a b) r e) =
      let f : drop (at + 1) ts ≡ flat a ++ (flat b ++ r) = rest_of at 2 _ e ∙ append_assoc (flat a) (flat b) r in
      with_or (token at 2 _ e)
      (tree_there (or a b) at r e ∙ ap (λ x. or x b) (sym (first_is a b (at + 1) r f)) ∙ ap (λ x. or (tree_at ts (at + 1)) x) (sym (second_is a b (at + 1) r f)))
      (begins a (flat b ++ r) f) (begins b r (behind a b (at + 1) r f))

  -- A place with a tree is one of the tokens.
  pub in_tokens : (at : ℕ) → Begins ts at → at < length ts
  unfolding flat
  in_tokens at (begins leaf r e) = here at 0 _ e
  in_tokens at (begins (inv a) r e) = here at 3 _ e
  in_tokens at (begins (and a b) r e) = here at 1 _ e
  in_tokens at (begins (or a b) r e) = here at 2 _ e
