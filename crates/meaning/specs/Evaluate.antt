-- What a sheet says of a frame: its tree over its primitives, and what the evaluator answers.
use Rattle.std.specs.Prelude.{ℕ, ◌*◌, Bool, cond, not, List, ◌==◌, nat_lt}
use Rattle.tree.specs.Tree.{depth, holds, tree_of}
use Rattle.filter.specs.First.{first}
use Rattle.filter.specs.Ast.{link_of}
use Rattle.filter.specs.Record.{decode_at}
use Rattle.filter.specs.Sheet.{steps_part, prims_part, tokens_part}
use Rattle.checks.specs.Check.{steps_before, check_of}
use Rattle.checks.specs.Refusal.{refusal_at}
use Rattle.meaning.specs.Meaning.{means}
use Rattle.filter.specs.declared.ast.LinkType.{LinkType}
use Rattle.refusals.specs.Refusal.{Answer}
use Rattle.refusals.specs.Refusal.Answer.{Refused, Given}
use Rattle.filter.specs.declared.sheet.Counts.{Counts}

-- Primitive k of the section, with the steps that it takes.
unfoldable pub primitive_holds : LinkType → List ℕ → List ℕ → List ℕ → ℕ → Bool
primitive_holds link steps prims f k = means link f steps (steps_before prims k) (decode_at prims (24 * k))

-- "passes the frame exactly when the expression holds": the tree of the tokens, its primitives in order.
unfoldable pub expression_holds : LinkType → List ℕ → List ℕ → List ℕ → List ℕ → Bool
expression_holds link steps prims tokens f = holds (primitive_holds link steps prims f) (tree_of tokens) 0

-- "then 11 to 19 for the first primitive", of b of them.
unfoldable pub first_refused : LinkType → List ℕ → List ℕ → ℕ → ℕ
first_refused link steps prims b = first (λ k. not (refusal_at link steps prims k == 0)) b 0

-- Refusal 9: "tree deeper than 256, the root counted"; then 11 to 19; else the verdict.
unfoldable pub judge : LinkType → List ℕ → List ℕ → List ℕ → ℕ → List ℕ → Answer Bool
judge link steps prims tokens b f =
    cond (nat_lt 256 (depth (tree_of tokens))) (Refused 9 0)
    (cond (nat_lt (first_refused link steps prims b) b)
    (Refused (refusal_at link steps prims (first_refused link steps prims b)) (first_refused link steps prims b))
    (Given (expression_holds link steps prims tokens f)))

-- "gives 1 (link) to 6, 9, then 11 to 19 for the first primitive".
unfoldable pub evaluated : Answer Counts → LinkType → List ℕ → List ℕ → Answer Bool
evaluated (Refused number place) link s f = Refused number place
evaluated (Given n) link s f =
    judge link (steps_part s n.steps) (prims_part s n.steps n.prims) (tokens_part s n.steps n.prims n.tokens) n.prims f

-- The evaluator: any sheet, any link, any frame.
unfoldable pub evaluate_of : List ℕ → ℕ → List ℕ → Answer Bool
evaluate_of s link f = evaluated (check_of s link) (link_of link) s f
