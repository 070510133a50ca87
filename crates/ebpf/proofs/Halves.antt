-- The halves of a byte, by masks and shifts as the code has them and by division as the definitions have them.
use Rattle.std.proofs.Common.{◌≡◌, ℕ, ◌+◌, ◌*◌, ◌/◌, ◌%◌, ◌^◌, ◌<◌, ◌∙◌, arith}
use lib.Bits.{bit_and, bit_or, and_mask, or_shifted_r}

pub low_half : (n : ℕ) → bit_and n 15 ≡ n % 16
low_half n = and_mask n 4

pub high_half : (n : ℕ) → n < 256 → bit_and (n / 16) 15 ≡ n / 16
high_half n h = low_half (n / 16) ∙ omega arith

pub packed : (dst src : ℕ) → bit_or (bit_and dst 15) (bit_and src 15 * 16 % 256) ≡ dst % 16 + src % 16 * 16
packed dst src =
    let fits : src % 16 * 16 % 256 ≡ src % 16 * 16 = omega arith in
    let small : dst % 16 < 2 ^ 4 = omega arith in
    rw (low_half dst, low_half src, fits) (or_shifted_r (src % 16) 4 (dst % 16) small ∙ omega arith)
