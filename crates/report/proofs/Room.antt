-- The program that `compile` answers with lies within the output.
use Prim.Native.Nat.{ℕ, ◌*◌, ◌≤◌}
use mathlib.Core.Path.{◌≡◌, refl}
use mathlib.Core.List.{List}
use native.Mathlib.Omega.{arith}
use Rattle.filter.specs.Ast.{link_of}
use Rattle.filter.specs.Sheet.{steps_part, prims_part, tokens_part}
use Rattle.tree.specs.Tree.{tree_of}
use Rattle.checks.specs.Measure.{admit_of}
use Rattle.refusals.specs.Refusal.{Answer}
use Rattle.refusals.specs.Refusal.Answer.{Refused, Given}
use Rattle.checks.specs.declared.measure.Measured.{Measured}
use Rattle.patches.specs.Listing.{CompL, compile_l}
use Rattle.patches.specs.Listing.CompL.{stopped_l, made_l}
use Rattle.generator.specs.Template.{template}
use Rattle.generator.specs.Compile.{outcome, outcome_of, answer_of}
use Rattle.generator.specs.Compile.Outcome.{late}
use Rattle.generator.proofs.Admitted.{admitted}

-- The length that is answered is L.
same_length : (l c n : ℕ) (x : CompL) → answer_of (late l c x) ≡ Given n → l ≡ n
unfolding answer_of
same_length l c n (stopped_l k p) h = let never : ◌≡◌ {A = ℕ} 0 1 = cc in absurd (omega arith)
same_length l c n (made_l is) h = cc

pub program_room : (s : List ℕ) (link mode output work n : ℕ) → answer_of (outcome_of s link mode output work) ≡ Given n → 8 * n ≤ output
unfolding outcome_of outcome answer_of
program_room s link mode output work n = go (admit_of s link mode output work) refl
  where
    go : (m : Answer Measured) → admit_of s link mode output work ≡ m → answer_of (outcome m s link mode) ≡ Given n → 8 * n ≤ output
    go (Refused k p) e h = let never : ◌≡◌ {A = ℕ} 0 1 = cc in absurd (omega arith)
    go (Given m) e h =
        let k = m.counts in
        omega (
          arith,
          (admitted s link mode output work k.steps k.prims k.tokens m.length e).bytes,
          same_length m.length k.tokens n (compile_l (template mode (link_of link) (steps_part s k.steps) (prims_part s k.steps k.prims)) (tree_of (tokens_part s k.steps k.prims k.tokens))) h,
        )
