-- "three sections in this order, each after its 16-bit count": steps of 5 bytes, primitives of 24, tokens of 1.
use Rattle.std.specs.Prelude.{ℕ, ◌+◌, ◌-◌, ◌*◌, List, Option, Some, None, cond, length, take, drop, eqb}
use Rattle.filter.specs.Bytes.{be2}
use Rattle.filter.specs.declared.sheet.Counts.{Counts}

-- the first count
unfoldable pub step_count : List ℕ → ℕ
step_count s = be2 s 0

-- the second count, after the steps
unfoldable pub prim_count : List ℕ → ℕ
prim_count s = be2 s (5 * step_count s + 2)

-- the third count, after the primitives
unfoldable pub token_count : List ℕ → ℕ
token_count s = be2 s (5 * step_count s + 24 * prim_count s + 4)

-- a steps, b primitives and c tokens
abbrev pub counts : ℕ → ℕ → ℕ → Counts
counts a b c = record { steps = a; prims = b; tokens = c }

-- refusal 2: "sheet length differs from what its counts ask, or a count is cut"
unfoldable pub sections_of : List ℕ → Option Counts
sections_of s =
    cond (eqb (length s) (5 * step_count s + 24 * prim_count s + token_count s + 6))
    (Some (counts (step_count s) (prim_count s) (token_count s)))
    None

-- "each section is handed on as its own part of the sheet": the bytes from one place up to another
abbrev pub part : List ℕ → ℕ → ℕ → List ℕ
part s from to = take (to - from) (drop from s)

-- the steps, of which there are a
unfoldable pub steps_part : List ℕ → ℕ → List ℕ
steps_part s a = part s 2 (5 * a + 2)

-- the primitives, of which there are b, after a steps
unfoldable pub prims_part : List ℕ → ℕ → ℕ → List ℕ
prims_part s a b = part s (5 * a + 4) (5 * a + 24 * b + 4)

-- the c tokens, after a steps and b primitives
unfoldable pub tokens_part : List ℕ → ℕ → ℕ → ℕ → List ℕ
tokens_part s a b c = part s (5 * a + 24 * b + 6) (5 * a + 24 * b + c + 6)
