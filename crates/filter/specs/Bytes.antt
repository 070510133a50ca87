-- "Big-endian": numbers of two, four, six and eight bytes in a list, from place p on. A byte past the end is 0.
use Rattle.std.specs.Prelude.{ℕ, ◌+◌, ◌*◌, List, get_or}

unfoldable pub be2 : List ℕ → ℕ → ℕ
be2 s p = get_or s p 0 * 256 + get_or s (p + 1) 0

unfoldable pub be4 : List ℕ → ℕ → ℕ
be4 s p = be2 s p * 65536 + be2 s (p + 2)

unfoldable pub be6 : List ℕ → ℕ → ℕ
be6 s p = be4 s p * 65536 + be2 s (p + 4)

unfoldable pub be8 : List ℕ → ℕ → ℕ
be8 s p = be4 s p * 4294967296 + be4 s (p + 4)
