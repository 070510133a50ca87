-- A sheet written from its first two sections and its tokens.
use Rattle.std.specs.Prelude.{ℕ, ◌+◌, ◌*◌, ◌/◌, ◌%◌, ◌≡◌, List, ◌∷◌, ◌++◌, length}
use Rattle.filter.specs.Sheet.{step_count, prim_count}

-- The steps and the primitives, "each after its 16-bit count": as long as the two counts ask, whatever else stands in them.
abbrev pub Front : List ℕ → Type 0
Front front = length front ≡ 5 * step_count front + 24 * prim_count front + 4

-- Behind them how many tokens there are, "big-endian", and the tokens. Up to 65,535 of them the count is two bytes.
unfoldable pub written : List ℕ → List ℕ → List ℕ
written front tokens = front ++ (length tokens / 256 ∷ length tokens % 256 ∷ tokens)
