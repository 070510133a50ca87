-- `compile`: its answer, and what it leaves in output and work, for any arguments.
use Rattle.std.specs.Prelude.{Result, Ok, ℕ, ◌+◌, ◌*◌, ◌^◌, ◌<◌, ◌≤◌, ◌≡◌, List, ◌++◌, drop, length, Some}
use Rattle.filter.specs.Ast.{link_of}
use Rattle.filter.specs.declared.ast.LinkType.{LinkType}
use Rattle.filter.specs.Sheet.{steps_part, prims_part, tokens_part}
use Rattle.tree.specs.Tree.{tree_of}
use Rattle.tree.specs.Tokens.{count, is_jump}
use Rattle.tree.specs.Shape.{shape_of}
use Rattle.checks.specs.Measure.{admit_of}
use Rattle.checks.specs.declared.measure.Measured.{Measured}
use Rattle.refusals.specs.Refusal.{Answer, told}
use Rattle.refusals.specs.Refusal.Answer.{Refused, Given}
use Rattle.program.specs.Program.{code_of}
use Rattle.patches.specs.Finish.{Ending, Wholes}
use Rattle.patches.specs.Finish.Ending.{refuse, wait, whole}
use Rattle.patches.specs.Lists.{empty}
use Rattle.patches.specs.Machine.{sizes}
use Rattle.patches.specs.declared.Patches.{Patches}
use Rattle.patches.specs.Listing.{CompL, compile_l}
use Rattle.patches.specs.Listing.CompL.{stopped_l, made_l}
use Rattle.patches.specs.Same.{zeroed}
use Rattle.patches.specs.Whole.{Comp}
use Rattle.patches.specs.Whole.Comp.{stopped, made}
use Rattle.refusals.specs.declared.Refusal.{Refusal}
use Rattle.patches.specs.Code.{Emission}
use Rattle.generator.specs.Template.{template}

-- One of refusals 1 to 8; or L, the number of tokens, and what the Rust's `compile` gives: one of 10 to 19, or the instructions.
pub data Outcome : Type 0 where
  early : ℕ → ℕ → Outcome
  late : ℕ → ℕ → CompL → Outcome

unfoldable pub outcome : Answer Measured → List ℕ → ℕ → ℕ → Outcome
outcome (Refused number place) s link mode = early number place
outcome (Given m) s link mode =
    let n = m.counts in
    late m.length n.tokens
    (compile_l (template mode (link_of link) (steps_part s n.steps) (prims_part s n.steps n.prims)) (tree_of (tokens_part s n.steps n.prims n.tokens)))

-- For a sheet, a link, a mode, so many bytes of output and so many numbers of work.
unfoldable pub outcome_of : List ℕ → ℕ → ℕ → ℕ → ℕ → Outcome
outcome_of s link mode output work = outcome (admit_of s link mode output work) s link mode

-- The refusal and its place, or L.
unfoldable pub answer_of : Outcome → Answer ℕ
answer_of (early number place) = Refused number place
answer_of (late l c (stopped_l number place)) = Refused number place
answer_of (late l c (made_l is)) = Given l

-- "After 1 to 8 output and work are untouched; after 10 to 19 the first 8 x L output bytes are zero; accepted, they are the program."
unfoldable pub output_after : Outcome → List ℕ → List ℕ
output_after (early number place) out = out
output_after (late l c (stopped_l number place)) out = zeroed (8 * l) out
output_after (late l c (made_l is)) out = code_of is ++ drop (8 * l) out

-- "Past 8, the first L + 8 x tokens work numbers end as zero. Nothing else changes."
unfoldable pub work_after : Outcome → List ℕ → List ℕ
work_after (early number place) work = work
work_after (late l c x) work = zeroed (l + 8 * c) work

-- So many instructions are written, and no jump is open.
abbrev pub written_to : ℕ → Patches
written_to pos = record { pos = pos; success = empty; failure = empty }

-- The sections of a sheet past refusal 8: one whole tree of so many primitives, and their L.
pub record Sized (mode : ℕ) (link : LinkType) (steps prims tokens : List ℕ) (l : ℕ) : Type 0 where
  pub leaves : ℕ
  pub one_tree : shape_of tokens ≡ Some leaves
  pub exact : l ≡ 6 + count is_jump tokens + sizes (template mode link steps prims) 0 leaves
  pub short : l < 2 ^ 32
  pub few : length tokens < 2 ^ 16

-- The answer r, and what is written, after the walk over the tokens, with room for the exits: none of its operators waits any more.
abbrev pub WalkOk : ℕ → Ending → Result (Unit {0}) Refusal → Emission → Type 0
WalkOk l (refuse number place) r e = told r ≡ Refused number place
WalkOk l (wait out pos fs) r e = ⊥
WalkOk l (whole out pos sp fp) r e = (r ≡ Ok tt) × (e.out ≡ out) × (pos + 4 ≤ l) × Wholes l sp fp pos (Ok 0) e

-- The answer r and the bytes once the exits are written and all jumps are set.
abbrev pub TryOk : Comp → Result (Unit {0}) Refusal → List ℕ → Type 0
TryOk (stopped number place) r out = told r ≡ Refused number place
TryOk (made out') r out = (r ≡ Ok tt) × (out ≡ out')
