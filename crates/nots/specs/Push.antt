-- The new sheet, what is answered, and the lent output.
use Rattle.std.specs.Prelude.{ℕ, ◌+◌, ◌*◌, List, ◌++◌, cond, ltb, length, take, drop}
use Rattle.filter.specs.Sheet.{step_count, prim_count, token_count, tokens_part}
use Rattle.filter.specs.Written.{written}
use Rattle.tree.specs.Tree.{Tree, flat, depth, tree_of}
use Rattle.checks.specs.Check.{whole_of}
use Rattle.refusals.specs.Refusal.{Answer}
use Rattle.refusals.specs.Refusal.Answer.{Refused, Given}
use Rattle.filter.specs.declared.sheet.Counts.{Counts}
use Rattle.nots.specs.Nots.{wanted_part}

-- The tree of a sheet.
unfoldable pub tree_in : List ℕ → Tree
tree_in s = tree_of (tokens_part s (step_count s) (prim_count s) (token_count s))

-- The steps and the primitives, each after its count.
unfoldable pub front_of : List ℕ → List ℕ
front_of s = take (5 * step_count s + 24 * prim_count s + 4) s

-- "Write a new sheet with the same primitives in the same order in which Not stands only directly above a primitive and never twice."
unfoldable pub new_sheet : List ℕ → List ℕ
new_sheet s = written (front_of s) (flat (wanted_part (tree_in s)))

-- "9, then 50 if the new tree needs more than 65,535 tokens, then 7 if the lent output is shorter than the new sheet", of a front and a tree.
unfoldable pub roomed : List ℕ → Tree → ℕ → Answer ℕ
roomed front t output =
    let new = length (written front (flat (wanted_part t))) in
    cond (ltb 256 (depth t)) (Refused 9 0)
    (cond (ltb 65535 (length (flat (wanted_part t)))) (Refused 50 0)
    (cond (ltb output new) (Refused 7 0) (Given new)))

-- "Refusals: document 01's 2 to 4, 9, ..".
unfoldable pub pushed : Answer Counts → List ℕ → ℕ → Answer ℕ
pushed (Refused number place) s output = Refused number place
pushed (Given n) s output = roomed (front_of s) (tree_in s) output

-- Any sheet, and the length of any output.
unfoldable pub push_of : List ℕ → ℕ → Answer ℕ
push_of s output = pushed (whole_of s) s output

-- "output untouched by each"; else its first bytes are the new sheet, the rest untouched.
unfoldable pub sheet_after : Answer ℕ → List ℕ → List ℕ → List ℕ
sheet_after (Refused number place) new output = output
sheet_after (Given n) new output = new ++ drop n output
