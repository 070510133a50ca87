-- Refusals 1 to 6 do not look at brackets.
use Prim.Native.Nat.{ℕ, zero, suc, ◌+◌, ◌-◌, ◌*◌}
use mathlib.Core.Path.{◌≡◌, refl, sym, ap, ◌∙◌}
use mathlib.Core.Bool.{Bool, false, cond}
use mathlib.Core.List.{List}
use borrow.Author.Tests.{le-ltb}
use lib.Dec.{ltb}
use lib.ListN.{length, get_or}
use Rattle.filter.specs.Ast.{link_of}
use Rattle.filter.specs.First.{first}
use Rattle.filter.specs.Sheet.{step_count, prim_count, steps_part, prims_part}
use Rattle.filter.specs.Written.{Front, written}
use Rattle.filter.specs.Wrong.{token_wrong}
use Rattle.filter.specs.declared.ast.LinkType.{LinkType}
use Rattle.filter.proofs.Written.{written_sections, written_steps, written_prims, written_tokens}
use Rattle.tree.specs.Tree.{Tree, flat}
use Rattle.tree.specs.Regroup.{Regrouped}
use Rattle.tree.proofs.Exact.{whole_flat}
use Rattle.tree.proofs.Regroup.{same_leaves, same_tokens, tokens_low}
use Rattle.checks.specs.Check.{wrong_in, sheet_wrong, lowest_wrong, complete, check_parts, check_sections, check_of}
use Rattle.refusals.specs.Refusal.{Answer}
use Rattle.refusals.specs.Refusal.Answer.{Refused}
use Rattle.filter.specs.declared.sheet.Counts.{Counts}

-- No token of a tree is wrong.
fine : (t : Tree) (j : ℕ) → token_wrong (flat t) j ≡ false
unfolding token_wrong
fine t j = le-ltb 3 (get_or (flat t) j 0) (tokens_low t j)

-- Tests that answer alike are passed first by the same number.
first_alike : (f g : ℕ → Bool) → ((j : ℕ) → f j ≡ g j) → (n i : ℕ) → first f n i ≡ first g n i
unfolding first
first_alike f g e zero i = refl
first_alike f g e (suc n) i = rw (e i, first_alike f g e n (suc i))

module _ {t u : Tree} (r : Regrouped t u) (link : LinkType) (steps prims : List ℕ) (a b c : ℕ) where
  -- The lowest wrong byte is none of the tokens.
  same_wrong : lowest_wrong steps prims (flat t) a b c ≡ lowest_wrong steps prims (flat u) a b c
  unfolding lowest_wrong sheet_wrong wrong_in
  same_wrong =
      first_alike (sheet_wrong steps prims (flat t) a b c) (sheet_wrong steps prims (flat u) a b c)
      (λ j. rw (fine t (j - (5 * a + 24 * b + 6)), fine u (j - (5 * a + 24 * b + 6)))) (5 * a + 24 * b + c + 6) 0

  same_complete : complete prims (flat t) a b ≡ complete prims (flat u) a b
  unfolding complete
  same_complete = rw (whole_flat t, whole_flat u, same_leaves r)

  -- THEOREM: refusals 3 to 6, with their places.
  pub parts_regroup : check_parts link steps prims (flat t) a b c ≡ check_parts link steps prims (flat u) a b c
  unfolding check_parts
  parts_regroup = rw (same_wrong, same_complete)

-- What the check of a written sheet looks at.
written_check : (front : List ℕ) → Front front → (tokens : List ℕ) (link : ℕ) → check_of (written front tokens) link
    ≡ cond (ltb 2 link) (Refused 1 0)
    (check_parts (link_of link) (steps_part front (step_count front)) (prims_part front (step_count front) (prim_count front)) tokens
    (step_count front) (prim_count front) (length tokens))
unfolding check_of check_sections
written_check front whole tokens link =
    rw (written_sections front whole tokens, written_steps front whole tokens, written_prims front whole tokens, written_tokens front whole tokens)

-- THEOREM: sheets that are written with other brackets get the same of refusals 1 to 6 at the same place, or none of them.
pub check_regroups : (front : List ℕ) → Front front → {t u : Tree} → Regrouped t u → (link : ℕ)
    → check_of (written front (flat t)) link ≡ check_of (written front (flat u)) link
check_regroups front whole {t} {u} r link =
    written_check front whole (flat t) link
    ∙ ap (λ (n : ℕ). cond (ltb 2 link) (Refused 1 0) (check_parts (link_of link) steps prims (flat t) (step_count front) (prim_count front) n)) (same_tokens r)
    ∙ ap (λ (x : Answer Counts). cond (ltb 2 link) (Refused 1 0) x) (parts_regroup r (link_of link) steps prims (step_count front) (prim_count front) (length (flat u)))
    ∙ sym (written_check front whole (flat u) link)
  where
    steps : List ℕ
    steps = steps_part front (step_count front)

    prims : List ℕ
    prims = prims_part front (step_count front) (prim_count front)
