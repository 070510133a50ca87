-- How the evaluator goes over the tokens: by places, with no tree built. proofs/Walks.antt shows that it gives what the tree of the tokens holds.
use Rattle.std.specs.Prelude.{ℕ, zero, suc, ◌+◌, Bool, cond, not, ◌&&◌, ◌||◌, List, length, ◌==◌, nat_le, nat_lt, slice_index}
use Rattle.filter.specs.declared.ast.LinkType.{LinkType}
use Rattle.checks.specs.Refusal.{refusal_at}
use Rattle.meaning.specs.Evaluate.{first_refused}
use Rattle.refusals.specs.Refusal.{Answer}
use Rattle.refusals.specs.Refusal.Answer.{Refused, Given}
use Rattle.meaning.specs.declared.walk.Spot.{Spot}
use Rattle.meaning.specs.declared.walk.Judged.{Judged}

-- "1 And, 2 Or".
unfoldable pub join_bool : ℕ → Bool → Bool → Bool
join_bool t a b = cond (t == 1) (a && b) (a || b)

-- A tree's value, and where the tokens after it begin.
abbrev pub done : Bool → Spot → Answer Judged
done holds next = Given (record { holds = holds; next = next })

-- The tree has more levels: 9.
abbrev pub too_deep : Answer Judged
too_deep = Refused 9 0

-- The tokens end too early, or there are too few primitives: 4.
abbrev pub broken : Answer Judged
broken = Refused 4 0

abbrev pub join_of : ℕ → Bool → Answer Judged → Answer Judged
join_of t a (Given b) = done (join_bool t a b.holds) b.next
join_of t a (Refused number place) = Refused number place

-- What comes after an operand.
abbrev pub and_then : Answer Judged → (Bool → Spot → Answer Judged) → Answer Judged
and_then (Given a) more = more a.holds a.next
and_then (Refused number place) more = Refused number place

-- Primitive k has the value `verdict k`; its steps start at `before k`; there are `count` primitives.
module _ (verdict : ℕ → Bool) (before : ℕ → ℕ) (count : ℕ) where
  unfoldable pub leaf_of : ℕ → ℕ → Answer Judged
  leaf_of next k = cond (nat_lt k count) (done (verdict k) (record { token = next; prim = k + 1; step = before (k + 1) })) broken

  -- The tree that begins at place `at` of the tokens, of at most so many levels, its first primitive having number k.
  unfoldable pub eval_at : ℕ → List ℕ → ℕ → ℕ → Answer Judged
  eval_at zero ts at k = too_deep
  eval_at (suc d) ts at k =
      cond (nat_le (length ts) at) broken
      (cond (slice_index ts at == 0) (leaf_of (at + 1) k)
      (and_then (eval_at d ts (at + 1) k) (λ a next.
      cond (slice_index ts at == 3) (done (not a) next) (join_of (slice_index ts at) a (eval_at d ts next.token next.prim)))))

-- "then 11 to 19 for the first primitive", else the verdict.
unfoldable pub refused_or : LinkType → List ℕ → List ℕ → ℕ → Bool → Answer Bool
refused_or link steps prims b holds =
    cond (nat_lt (first_refused link steps prims b) b)
    (Refused (refusal_at link steps prims (first_refused link steps prims b)) (first_refused link steps prims b))
    (Given holds)
