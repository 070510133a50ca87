-- What is read of a frame, a list of bytes. "A test is false when a byte it reads lies past the frame's end. Numbers in frames are unsigned, big-endian."
use Rattle.std.specs.Prelude.{◌≡◌, ℕ, zero, suc, ◌+◌, ◌*◌, ◌^◌, ◌<◌, Bool, ◌&&◌, List, length, nat_le, slice_index}

-- The n bytes at a place are there.
unfoldable pub there : List ℕ → ℕ → ℕ → Bool
there f n at = nat_le (at + n) (length f)

-- The number of n bytes at a place, the first byte highest.
unfoldable pub number : List ℕ → ℕ → ℕ → ℕ
number f zero at = 0
number f (suc n) at = number f n at * 256 + slice_index f (at + n)

-- The number of n bytes at a place is there and passes a test.
unfoldable pub passes : List ℕ → ℕ → ℕ → (ℕ → Bool) → Bool
passes f n at test = there f n at && test (number f n at)

-- A closure answers as a test does: "A test is false when a byte it reads lies past the frame's end", so it is asked of numbers alone.
abbrev pub Answers : (ℕ → Bool → Type 0) → (ℕ → Bool) → Type 0
Answers post test = (x : ℕ) (r : Bool) → x < 2 ^ 64 → post x r → r ≡ test x
