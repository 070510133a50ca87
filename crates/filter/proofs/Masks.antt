-- The mask of a segment: it has 16 bits, and is the shift that the Rust writes.
use Prim.Native.Nat.{ℕ, ◌+◌, ◌-◌, ◌*◌, ◌%◌, ◌^◌, ◌<◌, ◌≤◌}
use mathlib.Core.Path.{◌≡◌, refl, sym, ap, ◌∙◌}
use native.Mathlib.Omega.{arith}
use lib.Pow.{pow_mono, pow_pos}
use Rattle.filter.specs.Prefix.{prefix_mask}

pub few : (bits : ℕ) → 2 ^ (16 - bits) ≤ 65536
few bits = let h : 16 - bits ≤ 16 = omega arith in pow_mono h

pub mask_low : (bits : ℕ) → prefix_mask bits < 65536
unfolding prefix_mask
mask_low bits = let some : 0 < 2 ^ (16 - bits) = pow_pos (16 - bits) in omega (arith, some)

-- 65535 times a power, cut to 16 bits: with q + 1 for the power, r for what is left of 65535.
cut : (q r : ℕ) → r + q ≡ 65535 → 65535 * (q + 1) % 65536 ≡ r
cut q r e =
    let m : 65535 * (q + 1) ≡ r + 65536 * q = omega (arith, e) in
    let f : (r + 65536 * q) % 65536 ≡ r = omega (arith, e) in
    ap (λ (n : ℕ). n % 65536) m ∙ f

-- THEOREM, "Answers stay as they are": the Rust's `(0xffffu32 << (16 - bits)) & 0xffff`.
pub same_shift : (bits : ℕ) → prefix_mask bits ≡ 65535 * 2 ^ (16 - bits) % 65536
unfolding prefix_mask
same_shift bits =
    let some : 0 < 2 ^ (16 - bits) = pow_pos (16 - bits) in
    let p : 2 ^ (16 - bits) ≡ 2 ^ (16 - bits) - 1 + 1 = omega (arith, some) in
    sym (ap (λ (n : ℕ). 65535 * n % 65536) p ∙ cut (2 ^ (16 - bits) - 1) (65536 - 2 ^ (16 - bits)) (omega (arith, few bits, some)))

-- K3: "prefix 17: second segment masked 0x8000".
pub one_bit : prefix_mask 1 ≡ 0x8000
unfolding prefix_mask
one_bit = refl
