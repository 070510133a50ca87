-- What demand 3 says of a sheet.
use Rattle.std.specs.Prelude.{ℕ, ◌*◌, ◌<◌, ◌≡◌, Bool, true, List, get_or}
use Rattle.filter.specs.Ast.{link_of}
use Rattle.filter.specs.Record.{decode_at}
use Rattle.filter.specs.Sheet.{step_count, prim_count, token_count, steps_part, prims_part, tokens_part}
use Rattle.meaning.specs.Evaluate.{expression_holds}
use Rattle.meaning.specs.Constants.{small_constants}

-- Bytes are below 256.
abbrev pub Bytes : List ℕ → Type 0
Bytes s = (p : ℕ) → get_or s p 0 < 256

-- "the expression holds": the tree of the sheet's tokens over its primitives and their steps, on a frame.
unfoldable pub sheet_holds : List ℕ → ℕ → List ℕ → Bool
sheet_holds s link frame =
    let a = step_count s in
    let b = prim_count s in
    expression_holds (link_of link) (steps_part s a) (prims_part s a b) (tokens_part s a b (token_count s)) frame

-- Every comparison constant of the sheet's primitives is below 2^31.
abbrev pub SmallSheet : List ℕ → Type 0
SmallSheet s = (i : ℕ) → i < prim_count s → small_constants (decode_at (prims_part s (step_count s) (prim_count s)) (24 * i)) ≡ true
