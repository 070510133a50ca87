-- From the walk's answer and the loop over the primitives to the verdict.
use Rattle.std.specs.Prelude.{Some, Result}
use Rattle.std.proofs.Common.{◌≡◌, ℕ, ◌+◌, ◌-◌, ◌*◌, ◌<◌, ◌≤◌, Bool, true, false, not, eqb, List, [], ◌++◌, length, drop, sym, ap, ◌∙◌, ⊎_elim, append-nil, arith, le-ltb, lt-ltb, ne_eqb}
use Rattle.filter.specs.First.{first}
use Rattle.filter.specs.Record.{decode_at}
use Rattle.filter.proofs.Firsts.{first_all, first_none, first_stop, first_more}
use Rattle.filter.specs.declared.ast.LinkType.{LinkType}
use Rattle.filter.specs.declared.ast.Primitive.{Primitive}
use Rattle.tree.specs.Tree.{Tree, flat, leaves, depth, holds, tree_of}
use Rattle.tree.specs.Shape.{shape_of}
use Rattle.tree.proofs.Exact.{flat_whole}
use Rattle.tree.proofs.Prefix.{tree_flat}
use Rattle.checks.specs.Check.{steps_before}
use Rattle.checks.specs.Refusal.{refusal, refusal_at}
use Rattle.refusals.specs.Refusal.{Answer, told}
use Rattle.refusals.specs.Refusal.Answer.{Refused, Given}
use Rattle.refusals.proofs.Numbers.{one_told}
use Rattle.refusals.specs.declared.Refusal.{Refusal}
use Rattle.meaning.specs.declared.walk.Judged.{Judged}
use Rattle.meaning.specs.Evaluate.{primitive_holds, expression_holds, first_refused, judge, evaluate_of}
use Rattle.meaning.specs.Walk.{done, too_deep, eval_at, refused_or}
use Rattle.meaning.proofs.Walks.{at_most_or_above, behind, Found, walk_tree, walk_too_deep}

-- What is given twice is the same.
given_same : {A : Type 0} {x y : A} → ◌≡◌ {A = Answer A} (Given x) (Given y) → x ≡ y
given_same e = cc

-- The loop over b primitives, i of which earn nothing.
module _ (link : LinkType) (steps prims : List ℕ) where
  abbrev pub earns : ℕ → Bool
  earns k = not (eqb (refusal_at link steps prims k) 0)

  pub earned_all : (b : ℕ) → first_refused link steps prims b ≡ first earns (b - 0) 0
  unfolding first_refused
  earned_all b = first_all earns b

  pub refusal_is : (i : ℕ) {from r : ℕ} {prim : Primitive} → from ≡ steps_before prims i → prim ≡ decode_at prims (24 * i)
      → r ≡ refusal link steps from prim → refusal_at link steps prims i ≡ r
  unfolding refusal_at
  refusal_is i ef ep er = rw (← ef, ← ep, er)

  module _ (b i : ℕ) where
    pub earned_none : (h : Bool) → b ≤ i → first_refused link steps prims b ≡ first earns (b - i) i → Given h ≡ refused_or link steps prims b h
    unfolding refused_or
    earned_none h past e = rw (e ∙ first_none earns b i past, le-ltb i b past)

    pub earned_here : (h : Bool) {r : ℕ} → i < b → refusal_at link steps prims i ≡ r → (r ≡ 0 → ⊥)
        → first_refused link steps prims b ≡ first earns (b - i) i → Refused r i ≡ refused_or link steps prims b h
    unfolding refused_or
    earned_here h below er bad e =
        let stops : earns i ≡ true = rw (er, ne_eqb _ _ bad) in
        rw (e ∙ first_stop earns b i below stops, lt-ltb i b below, er)

    pub earned_later : {r : ℕ} → i < b → refusal_at link steps prims i ≡ r → r ≡ 0
        → first earns (b - i) i ≡ first earns (b - (i + 1)) (i + 1)
    earned_later below er good =
        let goes : earns i ≡ false = rw (er, good) in
        first_more earns b i below goes

-- What the walk gives from the first token on, where the tokens are one tree of b primitives.
module _ (link : LinkType) (steps prims ts : List ℕ) (b : ℕ) (f : List ℕ) where
  abbrev pub walked : Answer Judged
  walked = eval_at (primitive_holds link steps prims f) (steps_before prims) b 256 ts 0 0

  module _ (t : Tree) (same : flat t ≡ ts) (all : leaves t ≡ b) where
    whole_run : drop 0 ts ≡ flat t ++ []
    whole_run = sym same ∙ sym (append-nil (flat t))

    tree_is : tree_of ts ≡ t
    tree_is = ap tree_of (sym same) ∙ tree_flat t

    fitting : depth t ≤ 256 → Found (primitive_holds link steps prims f) (steps_before prims) b ts t 256 0 0
    fitting g = walk_tree (primitive_holds link steps prims f) (steps_before prims) b ts t 256 0 0 [] whole_run (omega arith) g

    sinking : 256 < depth t → walked ≡ too_deep
    sinking g = walk_too_deep (primitive_holds link steps prims f) (steps_before prims) b ts t 256 0 0 [] whole_run (omega arith) g

    done_tree : {j : Judged} → walked ≡ Given j → refused_or link steps prims b j.holds ≡ judge link steps prims ts b f
    unfolding judge refused_or expression_holds
    done_tree {j} e =
        ⊎_elim
        (λ (g : depth t ≤ 256).
        let found = fitting g in
        let same : Given j ≡ done (holds (primitive_holds link steps prims f) t 0) (behind (primitive_holds link steps prims f) (steps_before prims) b ts (0 + length (flat t)) (0 + leaves t)) = sym e ∙ found in
        let value : j.holds ≡ holds (primitive_holds link steps prims f) t 0 = ap (λ (x : Judged). x.holds) (given_same same) in
        rw (tree_is, le-ltb 256 (depth t) g, value))
        (λ (g : 256 < depth t). let sunk = sinking g in let clash : ◌≡◌ {A = ℕ} 0 1 = cc in absurd (omega arith))
        (at_most_or_above (depth t) 256)

    stops_tree : {number place : ℕ} → walked ≡ Refused number place → Refused number place ≡ judge link steps prims ts b f
    unfolding judge
    stops_tree {number} {place} e =
        ⊎_elim
        (λ (g : depth t ≤ 256). let found = fitting g in let clash : ◌≡◌ {A = ℕ} 0 1 = cc in absurd (omega arith))
        (λ (g : 256 < depth t).
        let sunk : Refused number place ≡ too_deep = sym e ∙ sinking g in
        let n : number ≡ 9 = cc in
        let z : place ≡ 0 = cc in
        rw (tree_is, lt-ltb 256 (depth t) g, n, z))
        (at_most_or_above (depth t) 256)

  pub judge_done : shape_of ts ≡ Some b → {j : Judged} → walked ≡ Given j → refused_or link steps prims b j.holds ≡ judge link steps prims ts b f
  judge_done one e = let t = flat_whole ts b one in done_tree t.0 t.1 t.2 e

  pub judge_stops : shape_of ts ≡ Some b → {number place : ℕ} → walked ≡ Refused number place → Refused number place ≡ judge link steps prims ts b f
  judge_stops one e = let t = flat_whole ts b one in stops_tree t.0 t.1 t.2 e

-- "Prove that any two results allowed are equal": those of `evaluate`.
pub one_answer : (s : List ℕ) (link : ℕ) (f : List ℕ) (r v : Result Bool Refusal) → told r ≡ evaluate_of s link f → told v ≡ evaluate_of s link f → r ≡ v
one_answer s link f r v p q = one_told r v (p ∙ sym q)
