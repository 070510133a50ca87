-- The walk over the tokens of a tree: what it gives at one token, and that it gives what the tree holds, or finds it too deep.
use Rattle.std.proofs.Common.{◌≡◌, ℕ, zero, suc, ◌+◌, ◌-◌, ◌<◌, ◌≤◌, max, Bool, true, false, cond, not, eqb, ltb, leb, ◌⊎◌, List, ◌∷◌, ◌++◌, length, get_or, drop, sym, refl, ap, ◌∙◌, subst, inl, inr, ⊎_elim, append_assoc, eq-zero-or-pos, add-one, arith, length-append, length-drop, drop-cons, drop-drop, lt-ltb, ne_eqb, le-leb, leb-false, leb-true}
use borrow.Author.Tests.{lt-leb}
use lib.Seq.{drop-append_seam}
use Rattle.tree.specs.Tree.{Tree, flat, leaves, depth, holds}
use Rattle.tree.specs.Tree.Tree.{leaf, and, or, inv}
use Rattle.meaning.specs.declared.walk.Spot.{Spot}
use Rattle.refusals.specs.Refusal.{Answer}
use Rattle.refusals.specs.Refusal.Answer.{Refused, Given}
use Rattle.meaning.specs.declared.walk.Judged.{Judged}
use Rattle.meaning.specs.Walk.{done, too_deep, broken, join_bool, join_of, and_then, leaf_of, eval_at}

pub at_most_or_above : (m n : ℕ) → (m ≤ n) ⊎ (n < m)
at_most_or_above m n = go (leb m n) refl
  where
    go : (b : Bool) → leb m n ≡ b → (m ≤ n) ⊎ (n < m)
    go true e = inl (leb-true m n e)
    go false e = inr (leb-false m n e)

pred_of : (d : ℕ) → (d ≡ 0 → ⊥) → d ≡ suc (d - 1)
pred_of d n = omega (arith, n)

-- An answer whose next step is the first step of its next primitive.
abbrev Told : (ℕ → ℕ) → Answer Judged → Type 0
Told before (Given j) = j.next.step ≡ before j.next.prim
Told before (Refused number place) = Unit {0}

told_pick : (before : ℕ → ℕ) (x y : Answer Judged) (b : Bool) → Told before x → Told before y → Told before (cond b x y)
told_pick before x y true p q = p
told_pick before x y false p q = q

told_join : (before : ℕ → ℕ) (x : Answer Judged) (t : ℕ) (a : Bool) → Told before x → Told before (join_of t a x)
told_join before (Given j) t a p = p
told_join before (Refused number place) t a p = tt

told_then : (before : ℕ → ℕ) (x : Answer Judged) (more : Bool → Spot → Answer Judged) → Told before x
    → ((h : Bool) (next : Spot) → next.step ≡ before next.prim → Told before (more h next)) → Told before (and_then x more)
told_then before (Given j) more p rest = rest _ _ p
told_then before (Refused number place) more p rest = tt

module _ (verdict : ℕ → Bool) (before : ℕ → ℕ) (count : ℕ) (ts : List ℕ) where
  abbrev pub eval : ℕ → ℕ → ℕ → Answer Judged
  eval d at k = eval_at verdict before count d ts at k

  -- One token.
  pub walk_deep : (d at k : ℕ) → d ≡ 0 → eval d at k ≡ too_deep
  unfolding eval_at
  walk_deep d at k e = rw e

  pub walk_past : (d at k : ℕ) → (d ≡ 0 → ⊥) → length ts ≤ at → eval d at k ≡ broken
  unfolding eval_at
  walk_past d at k n h = rw (pred_of d n, le-leb _ _ h)

  pub walk_leaf : (d at k : ℕ) → (d ≡ 0 → ⊥) → at < length ts → get_or ts at 0 ≡ 0 → eval d at k ≡ leaf_of verdict before count (at + 1) k
  unfolding eval_at
  walk_leaf d at k n h e = rw (pred_of d n, lt-leb _ _ h, e)

  -- A token that is an operator, with what its operands give.
  module _ (d at k : ℕ) (n : d ≡ 0 → ⊥) (h : at < length ts) (e : get_or ts at 0 ≡ 0 → ⊥) where
    walk_node : eval d at k
        ≡ and_then (eval (d - 1) (at + 1) k) (λ a next.
        cond (eqb (get_or ts at 0) 3) (done (not a) next) (join_of (get_or ts at 0) a (eval (d - 1) next.token next.prim)))
    unfolding eval_at
    walk_node =
        let z : suc (d - 1) - 1 ≡ d - 1 = omega arith in
        rw (pred_of d n) (simp (lt-leb _ _ h, ne_eqb _ _ e, z))

    pub walk_not : {a : Bool} {next : Spot} → eval (d - 1) (at + 1) k ≡ done a next → get_or ts at 0 ≡ 3 → eval d at k ≡ done (not a) next
    walk_not first t = rw (walk_node, first, t)

    pub walk_both : {a : Bool} {next : Spot} {r : Answer Judged} → eval (d - 1) (at + 1) k ≡ done a next → (get_or ts at 0 ≡ 3 → ⊥)
        → r ≡ eval (d - 1) next.token next.prim → eval d at k ≡ join_of (get_or ts at 0) a r
    walk_both first t second = rw (walk_node, first, ne_eqb _ 3 t, ← second)

    pub walk_stops : {number place : ℕ} → eval (d - 1) (at + 1) k ≡ Refused number place → eval d at k ≡ Refused number place
    walk_stops first = rw (walk_node, first)

  told_leaf : (next k : ℕ) → Told before (leaf_of verdict before count next k)
  unfolding leaf_of
  told_leaf next k = told_pick before (done (verdict k) (record { token = next; prim = k + 1; step = before (k + 1) })) broken (ltb k count) refl tt

  told_at : (d at k : ℕ) → Told before (eval d at k)
  unfolding eval_at
  told_at zero at k = tt
  told_at (suc d) at k =
      told_pick before broken _ (leb (length ts) at) tt
      (told_pick before _ _ (eqb (get_or ts at 0) 0) (told_leaf (at + 1) k)
      (told_then before (eval d (at + 1) k) _ (told_at d (at + 1) k) (λ h next e.
      told_pick before (done (not h) next) _ (eqb (get_or ts at 0) 3) e (told_join before (eval d next.token next.prim) (get_or ts at 0) h (told_at d next.token next.prim)))))

  -- The next step is the first step of the next primitive.
  pub next_step : (d at k : ℕ) {j : Judged} → eval d at k ≡ Given j → j.next.step ≡ before j.next.prim
  next_step d at k {j} e = subst (Told before) e (told_at d at k)

  -- The tokens from a place on.
  here : (at t : ℕ) (r : List ℕ) → drop at ts ≡ t ∷ r → at < length ts
  here at t r e = omega (arith, simp length-drop at (ap length e))

  token : (at t : ℕ) (r : List ℕ) → drop at ts ≡ t ∷ r → get_or ts at 0 ≡ t
  token at t r e = cc (drop-cons ts at 0 (here at t r e))

  rest_of : (at t : ℕ) (r : List ℕ) → drop at ts ≡ t ∷ r → drop (at + 1) ts ≡ r
  rest_of at t r e = rw (add-one at) (cc (drop-cons ts at 0 (here at t r e)))

  past_of : (at : ℕ) (x r : List ℕ) → drop at ts ≡ x ++ r → drop (at + length x) ts ≡ r
  past_of at x r e = sym (drop-drop (length x) at ts) ∙ ap (drop (length x)) e ∙ drop-append_seam x r

  abbrev pub behind : ℕ → ℕ → Spot
  behind at k = record { token = at; prim = k; step = before k }

  -- A tree whose tokens begin at a place, with what stands behind them.
  abbrev pub Found : Tree → ℕ → ℕ → ℕ → Type 0
  Found t d at k = eval d at k ≡ done (holds verdict t k) (behind (at + length (flat t)) (k + leaves t))

  two : (tok : ℕ) (a b : Tree) (d at k : ℕ) (r : List ℕ) → (tok ≡ 0 → ⊥) → (tok ≡ 3 → ⊥) → (d ≡ 0 → ⊥)
      → drop at ts ≡ tok ∷ r → Found a (d - 1) (at + 1) k → Found b (d - 1) (at + 1 + length (flat a)) (k + leaves a)
      → eval d at k
      ≡ done (join_bool tok (holds verdict a k) (holds verdict b (k + leaves a))) (behind (at + suc (length (flat a ++ flat b))) (k + (leaves a + leaves b)))
  two tok a b d at k r n0 n3 nd e ea eb =
      let tk = token at tok r e in
      let z : at + 1 + length (flat a) + length (flat b) ≡ at + suc (length (flat a ++ flat b)) = omega (arith, length-append (flat a) (flat b)) in
      let v : k + leaves a + leaves b ≡ k + (leaves a + leaves b) = omega arith in
      walk_both d at k nd (here at tok r e) (λ q. n0 (sym tk ∙ q)) ea (λ q. n3 (sym tk ∙ q)) (sym eb) ∙ rw (tk, z, v)

  one : (a : Tree) (d at k : ℕ) (r : List ℕ) → (d ≡ 0 → ⊥) → drop at ts ≡ 3 ∷ r → Found a (d - 1) (at + 1) k
      → eval d at k ≡ done (not (holds verdict a k)) (behind (at + suc (length (flat a))) (k + leaves a))
  one a d at k r nd e ea =
      let tk = token at 3 r e in
      let z : at + 1 + length (flat a) ≡ at + suc (length (flat a)) = omega arith in
      walk_not d at k nd (here at 3 r e) (λ q. omega arith) ea tk ∙ rw z

  lone : (d at k : ℕ) (r : List ℕ) → (d ≡ 0 → ⊥) → drop at ts ≡ 0 ∷ r → k < count
      → eval d at k ≡ done (verdict k) (behind (at + 1) (k + 1))
  unfolding leaf_of
  lone d at k r nd e l = rw (walk_leaf d at k nd (here at 0 r e) (token at 0 r e), lt-ltb k count l)

  -- A tree that is not too deep.
  pub walk_tree : (t : Tree) (d at k : ℕ) (r : List ℕ) → drop at ts ≡ flat t ++ r → k + leaves t ≤ count → depth t ≤ d → Found t d at k
  unfolding flat leaves depth holds join_bool
  walk_tree leaf d at k r e l g = lone d at k r (λ q. omega arith) e (omega arith)
  walk_tree (and a b) d at k r e l g =
      let ra : drop (at + 1) ts ≡ flat a ++ (flat b ++ r) = rest_of at 1 _ e ∙ append_assoc (flat a) (flat b) r in
      two 1 a b d at k _ (λ q. omega arith) (λ q. omega arith) (λ q. omega arith) e
      (walk_tree a (d - 1) (at + 1) k _ ra (omega arith) (omega arith))
      (walk_tree b (d - 1) (at + 1 + length (flat a)) (k + leaves a) r (past_of (at + 1) (flat a) _ ra) (omega arith) (omega arith))
  walk_tree (or a b) d at k r e l g =
      let ra : drop (at + 1) ts ≡ flat a ++ (flat b ++ r) = rest_of at 2 _ e ∙ append_assoc (flat a) (flat b) r in
      two 2 a b d at k _ (λ q. omega arith) (λ q. omega arith) (λ q. omega arith) e
      (walk_tree a (d - 1) (at + 1) k _ ra (omega arith) (omega arith))
      (walk_tree b (d - 1) (at + 1 + length (flat a)) (k + leaves a) r (past_of (at + 1) (flat a) _ ra) (omega arith) (omega arith))
  walk_tree (inv a) d at k r e l g =
      one a d at k _ (λ q. omega arith) e (walk_tree a (d - 1) (at + 1) k r (rest_of at 3 _ e) (omega arith) (omega arith))

  -- Its first operand is too deep.
  deep_first : (tok d at k : ℕ) (r : List ℕ) → (tok ≡ 0 → ⊥) → drop at ts ≡ tok ∷ r
      → ((d ≡ 0 → ⊥) → eval (d - 1) (at + 1) k ≡ too_deep) → eval d at k ≡ too_deep
  deep_first tok d at k r n0 e ea =
      ⊎_elim (λ z. walk_deep d at k z)
      (λ p.
      let nd : d ≡ 0 → ⊥ = λ q. omega arith in
      let tk = token at tok r e in
      walk_stops d at k nd (here at tok r e) (λ q. n0 (sym tk ∙ q)) (ea nd))
      (eq-zero-or-pos d)

  deep_second : (tok : ℕ) (a : Tree) (d at k : ℕ) (r : List ℕ) → (tok ≡ 0 → ⊥) → (tok ≡ 3 → ⊥) → drop at ts ≡ tok ∷ r → (d ≡ 0 → ⊥)
      → Found a (d - 1) (at + 1) k → eval (d - 1) (at + 1 + length (flat a)) (k + leaves a) ≡ too_deep → eval d at k ≡ too_deep
  deep_second tok a d at k r n0 n3 e nd ea eb =
      let tk = token at tok r e in
      walk_both d at k nd (here at tok r e) (λ q. n0 (sym tk ∙ q)) ea (λ q. n3 (sym tk ∙ q)) (sym eb)

  deep_two : (tok : ℕ) (a b : Tree) (d at k : ℕ) (r : List ℕ) → (tok ≡ 0 → ⊥) → (tok ≡ 3 → ⊥)
      → drop at ts ≡ tok ∷ ((flat a ++ flat b) ++ r) → drop (at + 1) ts ≡ flat a ++ (flat b ++ r)
      → k + (leaves a + leaves b) ≤ count → d < suc (max (depth a) (depth b))
      → (d - 1 < depth a → eval (d - 1) (at + 1) k ≡ too_deep)
      → (d - 1 < depth b → eval (d - 1) (at + 1 + length (flat a)) (k + leaves a) ≡ too_deep)
      → eval d at k ≡ too_deep
  deep_two tok a b d at k r n0 n3 e ra l g fa fb =
      ⊎_elim
      (λ h.
      ⊎_elim (λ z. walk_deep d at k z)
      (λ p.
      deep_second tok a d at k _ n0 n3 e (λ q. omega arith)
      (walk_tree a (d - 1) (at + 1) k _ ra (omega arith) h)
      (fb (omega arith)))
      (eq-zero-or-pos d))
      (λ h. deep_first tok d at k _ n0 e (λ nd. fa h))
      (at_most_or_above (depth a) (d - 1))

  -- A tree that is too deep.
  pub walk_too_deep : (t : Tree) (d at k : ℕ) (r : List ℕ) → drop at ts ≡ flat t ++ r → k + leaves t ≤ count → d < depth t → eval d at k ≡ too_deep
  unfolding flat leaves depth
  walk_too_deep leaf d at k r e l g = walk_deep d at k (omega arith)
  walk_too_deep (and a b) d at k r e l g =
      let ra : drop (at + 1) ts ≡ flat a ++ (flat b ++ r) = rest_of at 1 _ e ∙ append_assoc (flat a) (flat b) r in
      deep_two 1 a b d at k r (λ q. omega arith) (λ q. omega arith) e ra l g
      (λ h. walk_too_deep a (d - 1) (at + 1) k _ ra (omega arith) h)
      (λ h. walk_too_deep b (d - 1) (at + 1 + length (flat a)) (k + leaves a) r (past_of (at + 1) (flat a) _ ra) (omega arith) h)
  walk_too_deep (or a b) d at k r e l g =
      let ra : drop (at + 1) ts ≡ flat a ++ (flat b ++ r) = rest_of at 2 _ e ∙ append_assoc (flat a) (flat b) r in
      deep_two 2 a b d at k r (λ q. omega arith) (λ q. omega arith) e ra l g
      (λ h. walk_too_deep a (d - 1) (at + 1) k _ ra (omega arith) h)
      (λ h. walk_too_deep b (d - 1) (at + 1 + length (flat a)) (k + leaves a) r (past_of (at + 1) (flat a) _ ra) (omega arith) h)
  walk_too_deep (inv a) d at k r e l g =
      deep_first 3 d at k _ (λ q. omega arith) e
      (λ nd. walk_too_deep a (d - 1) (at + 1) k r (rest_of at 3 _ e) (omega arith) (omega arith))
