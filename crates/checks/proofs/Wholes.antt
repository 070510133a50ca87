-- Refusals 2 to 4 apart from those for which a link is asked.
use Prim.Native.Nat.{ℕ, ◌+◌, ◌*◌, ◌≤◌}
use mathlib.Core.Path.{◌≡◌, refl, sym, ap, subst}
use mathlib.Core.Bool.{Bool, true, false, cond, ◌&&◌}
use mathlib.Core.List.{List}
use native.Mathlib.Omega.{arith}
use borrow.Author.Tests.{ltb-true, ltb-false, le-ltb, eqb-true, eq-eqb}
use lib.Dec.{eqb, ltb}
use lib.ListN.{length, get_or}
use Rattle.std.specs.Prelude.{Option, Some, None}
use Rattle.filter.specs.declared.sheet.Counts.{Counts}
use Rattle.filter.specs.Ast.{link_of}
use Rattle.filter.specs.First.{first}
use Rattle.filter.specs.Sheet.{counts, sections_of, steps_part, prims_part, tokens_part}
use Rattle.filter.specs.Wrong.{step_wrong, record_wrong, token_wrong}
use Rattle.filter.proofs.Firsts.{first_is}
use Rattle.tree.specs.Shape.{shape_of}
use Rattle.tree.specs.Tree.{Tree, flat, leaves}
use Rattle.tree.proofs.Exact.{whole_flat}
use Rattle.tree.proofs.Regroup.{tokens_low}
use Rattle.checks.specs.Check.{steps_before, one_tree, complete, lowest_wrong, check_accesses, check_parts, check_sections, check_of, whole_parts, whole_sections, whole_of}
use Rattle.refusals.specs.Refusal.{Answer}
use Rattle.refusals.specs.Refusal.Answer.{Refused, Given}
use Rattle.checks.proofs.Bounds.{first_true, second_true}
use Rattle.checks.proofs.Places.{lowest_step, lowest_record, lowest_token}

-- none of refusals 3 and 4
pub record Right (steps prims tokens : List ℕ) (a b c : ℕ) : Type 0 where
  pub right : 5 * a + 24 * b + c + 6 ≤ lowest_wrong steps prims tokens a b c
  pub whole : one_tree (shape_of tokens) b ≡ true
  pub taken : steps_before prims b ≡ a

module _ (steps prims tokens : List ℕ) (a b c : ℕ) where
  abbrev looked : Answer Counts → Answer Counts
  looked further = whole_parts steps prims tokens a b c further

  -- the two tests
  abbrev wrong : Bool
  wrong = ltb (lowest_wrong steps prims tokens a b c) (5 * a + 24 * b + c + 6)

  -- where both are passed, what is found further on decides
  pub goes_on : Right steps prims tokens a b c → (further : Answer Counts) → looked further ≡ further
  unfolding complete
  goes_on r further =
      let lowest = lowest_wrong steps prims tokens a b c in
      rw (le-ltb lowest (5 * a + 24 * b + c + 6) r.right, r.whole, eq-eqb (steps_before prims b) a r.taken)

  pub good_shape : {x y z : ℕ} → looked (Given (counts a b c)) ≡ Given (counts x y z) → Right steps prims tokens a b c × (x ≡ a) × (y ≡ b) × (z ≡ c)
  unfolding complete
  good_shape {x} {y} {z} = go wrong (one_tree (shape_of tokens) b && eqb (steps_before prims b) a) refl refl
    where
      go : (p q : Bool) → wrong ≡ p → one_tree (shape_of tokens) b && eqb (steps_before prims b) a ≡ q
          → cond p (Refused 3 (lowest_wrong steps prims tokens a b c)) (cond q (Given (counts a b c)) (Refused 4 0)) ≡ Given (counts x y z)
          → Right steps prims tokens a b c × (x ≡ a) × (y ≡ b) × (z ≡ c)
      go true q ep eq e = let never : ◌≡◌ {A = ℕ} 0 1 = cc in absurd (omega arith)
      go false false ep eq e = let never : ◌≡◌ {A = ℕ} 0 1 = cc in absurd (omega arith)
      go false true ep eq e =
          let q : counts a b c ≡ counts x y z = cc in (
            record {
              right = ltb-false _ _ ep;
              whole = first_true _ _ eq;
              taken = eqb-true _ _ (second_true (one_tree (shape_of tokens) b) _ eq);
            },
            sym (ap (λ (k : Counts). k.steps) q),
            sym (ap (λ (k : Counts). k.prims) q),
            sym (ap (λ (k : Counts). k.tokens) q),
          )

  -- where one is not, nothing further on is looked at
  pub stops_here : {n p : ℕ} (further : Answer Counts) → looked (Given (counts a b c)) ≡ Refused n p → Refused n p ≡ looked further
  stops_here {n} {p} further = go wrong (complete prims tokens a b)
    where
      go : (u v : Bool) → cond u (Refused 3 (lowest_wrong steps prims tokens a b c)) (cond v (Given (counts a b c)) (Refused 4 0)) ≡ Refused n p
          → Refused n p ≡ cond u (Refused 3 (lowest_wrong steps prims tokens a b c)) (cond v further (Refused 4 0))
      go true v e = sym e
      go false false e = sym e
      go false true e = let never : ◌≡◌ {A = ℕ} 0 1 = cc in absurd (omega arith)

  pub steps_right : Right steps prims tokens a b c → 5 * a ≤ first (step_wrong steps) (5 * a) 0
  steps_right r = go (ltb (first (step_wrong steps) (5 * a) 0) (5 * a)) refl
    where
      go : (t : Bool) → ltb (first (step_wrong steps) (5 * a) 0) (5 * a) ≡ t → 5 * a ≤ first (step_wrong steps) (5 * a) 0
      go false e = ltb-false _ _ e
      go true e =
          let h = ltb-true _ _ e in
          absurd (omega (arith, r.right, lowest_step steps prims tokens a b c h, h))

  pub prims_right : Right steps prims tokens a b c → 24 * b ≤ first (record_wrong prims) (24 * b) 0
  prims_right r = go (ltb (first (record_wrong prims) (24 * b) 0) (24 * b)) refl
    where
      go : (t : Bool) → ltb (first (record_wrong prims) (24 * b) 0) (24 * b) ≡ t → 24 * b ≤ first (record_wrong prims) (24 * b) 0
      go false e = ltb-false _ _ e
      go true e =
          let h = ltb-true _ _ e in
          absurd (omega (arith, r.right, lowest_record steps prims tokens a b c (steps_right r) h, h))

  -- other tokens that are one tree of as many primitives
  pub other_tree : Right steps prims tokens a b c → (u : Tree) → leaves u ≡ b → Right steps prims (flat u) a b (length (flat u))
  unfolding one_tree token_wrong
  other_tree r u e =
      let n = length (flat u) in
      let none : first (token_wrong (flat u)) n 0 ≡ n =
      first_is (token_wrong (flat u)) n n (omega arith) (λ j h. le-ltb 3 (get_or (flat u) j 0) (tokens_low u j)) (λ h. absurd (omega arith)) in
      record {
        right = omega (arith, lowest_token steps prims (flat u) a b n (steps_right r) (prims_right r), none);
        whole = rw (whole_flat u) (eq-eqb (leaves u) b e);
        taken = r.taken;
      }

-- a sheet that is not refused 2 to 4, with these counts
pub record Sorted (s : List ℕ) (a b c : ℕ) : Type 0 where
  pub found : sections_of s ≡ Some (counts a b c)
  pub parts : Right (steps_part s a) (prims_part s a b) (tokens_part s a b c) a b c

pub sorted : (s : List ℕ) {a b c : ℕ} → whole_of s ≡ Given (counts a b c) → Sorted s a b c
unfolding whole_of whole_sections
sorted s {a} {b} {c} = go (sections_of s) refl
  where
    moved : {x y z : ℕ} → a ≡ x → b ≡ y → c ≡ z → Sorted s x y z → Sorted s a b c
    moved {x} {y} {z} p q r t =
        subst (λ (n : ℕ). Sorted s n b c) (sym p)
        (subst (λ (n : ℕ). Sorted s x n c) (sym q) (subst (λ (n : ℕ). Sorted s x y n) (sym r) t))

    go : (x : Option Counts) → sections_of s ≡ x → whole_sections s x ≡ Given (counts a b c) → Sorted s a b c
    go (Some n) f e =
        let g =
        good_shape
        (steps_part s n.steps)
        (prims_part s n.steps n.prims)
        (tokens_part s n.steps n.prims n.tokens)
        n.steps
        n.prims
        n.tokens
        e in
        moved g.1 g.2 g.3 (record { found = f; parts = g.0 })
    go None f e = let never : ◌≡◌ {A = ℕ} 0 1 = cc in absurd (omega arith)

pub sorted_whole : (s : List ℕ) {a b c : ℕ} → Sorted s a b c → whole_of s ≡ Given (counts a b c)
unfolding whole_of whole_sections
sorted_whole s {a} {b} {c} t =
    rw t.found (goes_on (steps_part s a) (prims_part s a b) (tokens_part s a b c) a b c t.parts (Given (counts a b c)))

-- what refusals 1 to 6 still look at in such a sheet
pub sorted_check : (s : List ℕ) {a b c : ℕ} → Sorted s a b c → (link : ℕ)
    → check_of s link ≡ cond (ltb 2 link) (Refused 1 0) (check_accesses (link_of link) (steps_part s a) (prims_part s a b) a b c)
unfolding check_of check_sections check_parts
sorted_check s {a} {b} {c} t link =
    rw (t.found, goes_on (steps_part s a) (prims_part s a b) (tokens_part s a b c) a b c t.parts (check_accesses (link_of link) (steps_part s a) (prims_part s a b) a b c))
