-- What a register holds after a load and a swap, and what a comparison with it tells.
use Prim.Native.Nat.{ℕ, ◌+◌, ◌-◌, ◌*◌, ◌/◌, ◌%◌, ◌^◌, ◌<◌}
use mathlib.Core.Path.{◌≡◌, refl, ap, ◌∙◌}
use mathlib.Core.Bool.{Bool, true, false, cond}
use mathlib.Core.List.{List}
use native.Mathlib.Omega.{arith}
use native.Mathlib.Nat.{mod-eq_of_lt, mod-lt, div-le_self, lt_of_le_of_lt}
use borrow.Author.Tests.{lt-ltb, ne_eqb}
use lib.Dec.{ltb}
use lib.ListN.{get_or}
use lib.Bits.{bit_and, and_block, and_zero_l, and_lt, or_lt, xor_lt}
use lib.Pow.{pow_pos}
use Rattle.ebpf.specs.Opcode.{JSET}
use Rattle.ebpf.specs.Alu.{sext32, alu32, swapped, compares}
use Rattle.ebpf.specs.Step.{le_at}
use Rattle.ebpf.proofs.Coding.{byte0, byte1, byte2, byte3}
use Rattle.program.specs.Kinds.{Class, jmp, jmp32, Takes, Arithmetic, add32, sub32, mul32, div32, or32, and32, lsh32, rsh32, xor32}
use Rattle.program.specs.Ends.{tested}

-- The highest byte of a number that was put together little-endian, modulo a byte.
top_byte : (a b c d : ℕ) → a < 256 → b < 256 → c < 256 → d < 256 → (a + b * 256 + c * 65536 + d * 16777216) / 16777216 % 256 ≡ d
top_byte a b c d ha hb hc hd = rw (byte3 a b c d ha hb hc) (mod-eq_of_lt hd)

-- A 32-bit operation gives 32 bits.
pub arithmetic_fits : {operation imm : ℕ} (x : ℕ) → Arithmetic operation imm → x < 2 ^ 32 → imm < 2 ^ 32 → alu32 operation x imm < 2 ^ 32
unfolding alu32
arithmetic_fits x add32 h k = omega arith
arithmetic_fits x sub32 h k = omega arith
arithmetic_fits x (mul32 {imm}) h k = mod-lt (x * imm) (pow_pos 32)
arithmetic_fits x (div32 {imm} n) h k = rw (ne_eqb imm 0 n) (lt_of_le_of_lt (div-le_self x imm) h)
arithmetic_fits x (or32 {imm}) h k = or_lt 32 x imm h k
arithmetic_fits x (and32 {imm}) h k = and_lt 32 x imm h k
arithmetic_fits x (lsh32 {imm} n) h k = mod-lt (x * 2 ^ (imm % 32)) (pow_pos 32)
arithmetic_fits x (rsh32 {imm} n) h k = lt_of_le_of_lt (div-le_self x (2 ^ (imm % 32))) h
arithmetic_fits x (xor32 {imm}) h k = xor_lt 32 x imm h k

-- A byte needs no swap.
pub byte_value : (frame : List ℕ) (j : ℕ) → le_at frame j 1 ≡ get_or frame j 0
unfolding le_at
byte_value frame j = refl

-- THEOREM: a half or a word that is read little-endian and swapped is the big-endian number of its bytes.
module _ (frame : List ℕ) (byte : (i : ℕ) → get_or frame i 0 < 256) (j : ℕ) where
  pub half_value : swapped 16 (le_at frame j 2) ≡ get_or frame j 0 * 256 + get_or frame (j + 1) 0
  unfolding swapped le_at
  half_value = omega (arith, byte j, byte (j + 1))

  pub word_value : swapped 32 (le_at frame j 4)
      ≡ get_or frame j 0 * 16777216 + get_or frame (j + 1) 0 * 65536 + get_or frame (j + 2) 0 * 256 + get_or frame (j + 3) 0
  unfolding swapped le_at
  word_value =
      let a = get_or frame j 0 in
      let b = get_or frame (j + 1) 0 in
      let c = get_or frame (j + 2) 0 in
      let d = get_or frame (j + 3) 0 in
      rw (
        byte0 a b c d (byte j),
        byte1 a b c d (byte j) (byte (j + 1)),
        byte2 a b c d (byte j) (byte (j + 1)) (byte (j + 2)),
        top_byte a b c d (byte j) (byte (j + 1)) (byte (j + 2)) (byte (j + 3)),
      )

pub tested_taken : {class : ℕ} (operation x imm : ℕ) → Class class → Takes class imm → x < 2 ^ 32
    → tested class operation x imm ≡ compares operation x imm
unfolding tested sext32
tested_taken operation x imm jmp p h = rw (lt-ltb imm (2 ^ 31) (p refl))
tested_taken operation x imm jmp32 p h = rw (mod-eq_of_lt h)

-- The sign stands above the 32 bits that R4 has, so that the common bits are the same.
common_bits : (x imm : ℕ) → x < 2 ^ 32 → imm < 2 ^ 32 → bit_and x (imm + (2 ^ 64 - 2 ^ 32)) ≡ bit_and x imm
common_bits x imm h k =
    let a : imm + (2 ^ 64 - 2 ^ 32) ≡ (2 ^ 32 - 1) * 2 ^ 32 + imm = omega arith in
    let b : x ≡ 0 * 2 ^ 32 + x = omega arith in
    let z : bit_and 0 (2 ^ 32 - 1) ≡ 0 = and_zero_l (2 ^ 32 - 1) in
    rw a (ap (λ (y : ℕ). bit_and y ((2 ^ 32 - 1) * 2 ^ 32 + imm)) b ∙ and_block 32 0 (2 ^ 32 - 1) x imm h k ∙ rw z (omega arith))

widened_bits : (x imm : ℕ) (small : Bool) → x < 2 ^ 32 → imm < 2 ^ 32 → bit_and x (cond small imm (imm + (2 ^ 64 - 2 ^ 32))) ≡ bit_and x imm
widened_bits x imm true h k = refl
widened_bits x imm false h k = common_bits x imm h k

-- A test of common bits takes any constant, whatever the class.
pub tested_jset : {class : ℕ} (x imm : ℕ) → Class class → x < 2 ^ 32 → imm < 2 ^ 32 → tested class JSET x imm ≡ compares JSET x imm
unfolding tested sext32 compares
tested_jset x imm jmp h k = rw (widened_bits x imm (ltb imm (2 ^ 31)) h k)
tested_jset x imm jmp32 h k = rw (mod-eq_of_lt h)
