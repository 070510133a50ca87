-- The mask of a segment of an IPv6 address (document 02, A2).
use Rattle.std.specs.Prelude.{ℕ, ◌-◌, ◌^◌}

-- "The mask of a partly covered IPv6 segment should be worked out as 65536 minus the power of two for the bits not covered": of its 16 bits so many are covered.
unfoldable pub prefix_mask : ℕ → ℕ
prefix_mask bits = 65536 - 2 ^ (16 - bits)
