-- The arithmetic of RFC 9669. A number of k bits is a natural number below 2 ^ k; a negative one is its two's complement.
use Rattle.std.specs.Prelude.{ℕ, ◌+◌, ◌-◌, ◌*◌, ◌/◌, ◌%◌, ◌^◌, Bool, false, cond, not, ◌==◌, bit_and, bit_or, bit_xor, nat_le, nat_lt}
use Rattle.ebpf.specs.Opcode.{JMP, ADD, SUB, MUL, DIV, OR, AND, LSH, RSH, XOR, JEQ, JGT, JGE, JSET, JNE, JLT, JLE}

-- Section 2.3: 16 and 32 bits widened to 64 with their sign.
unfoldable pub sext16 : ℕ → ℕ
sext16 x = cond (nat_lt x (2 ^ 15)) x (x + (2 ^ 64 - 2 ^ 16))

unfoldable pub sext32 : ℕ → ℕ
sext32 x = cond (nat_lt x (2 ^ 31)) x (x + (2 ^ 64 - 2 ^ 32))

-- Section 4.1, on 32 bits: sums, differences, products and shifts modulo 2 ^ 32, division unsigned, by zero 0; else a move.
unfoldable pub alu32 : ℕ → ℕ → ℕ → ℕ
alu32 operation a b =
    cond (operation == ADD) ((a + b) % 2 ^ 32)
    (cond (operation == SUB) ((a + (2 ^ 32 - b)) % 2 ^ 32)
    (cond (operation == MUL) (a * b % 2 ^ 32)
    (cond (operation == DIV) (cond (b == 0) 0 (a / b))
    (cond (operation == OR) (bit_or a b)
    (cond (operation == AND) (bit_and a b)
    (cond (operation == LSH) (a * 2 ^ (b % 32) % 2 ^ 32)
    (cond (operation == RSH) (a / 2 ^ (b % 32))
    (cond (operation == XOR) (bit_xor a b) b))))))))

-- Section 4.1, on 64 bits: add, subtract, else a move.
unfoldable pub alu64 : ℕ → ℕ → ℕ → ℕ
alu64 operation a b =
    cond (operation == ADD) ((a + b) % 2 ^ 64)
    (cond (operation == SUB) ((a + (2 ^ 64 - b)) % 2 ^ 64) b)

-- Section 4.2, on a little-endian host: the low 16 bits, or the low 32, in the other byte order.
unfoldable pub swapped : ℕ → ℕ → ℕ
swapped bits x =
    cond (bits == 16) (x % 256 * 256 + x / 256 % 256)
    (x % 256 * 16777216 + x / 256 % 256 * 65536 + x / 65536 % 256 * 256 + x / 16777216 % 256)

-- Section 4.3: the comparisons of unsigned numbers.
unfoldable pub compares : ℕ → ℕ → ℕ → Bool
compares operation a b =
    cond (operation == JEQ) (a == b)
    (cond (operation == JGT) (nat_lt b a)
    (cond (operation == JGE) (nat_le b a)
    (cond (operation == JSET) (not (bit_and a b == 0))
    (cond (operation == JNE) (not (a == b))
    (cond (operation == JLT) (nat_lt a b)
    (cond (operation == JLE) (nat_le a b) false))))))

-- Section 4.3: class JMP compares 64 bits with the immediate widened with its sign, class JMP32 the low 32 bits with the immediate.
abbrev pub compares_imm : ℕ → ℕ → ℕ → ℕ → Bool
compares_imm class operation a imm = cond (class == JMP) (compares operation a (sext32 imm)) (compares operation (a % 2 ^ 32) imm)
