-- What the machine's comparison of R4 with a constant decides.
use Rattle.std.specs.Prelude.{ℕ, ◌^◌, ◌<◌, ◌≡◌, Bool, not}
use Rattle.ebpf.specs.Opcode.{JEQ, JNE, JGT, JGE, JLT, JLE, JSET}
use Rattle.pieces.specs.Fragments.{class_of}
use Rattle.filter.specs.declared.ast.CmpOp.{CmpOp}
use Rattle.filter.specs.declared.ast.CmpOp.TheVariants.{Eq, Ne, Lt, Le, Gt, Ge, BitAnd}
use Rattle.program.specs.Kinds.{Takes}
use Rattle.program.specs.Ends.{tested}

-- `emit_cmp` fails where the opposite comparison holds; common bits are tested as they are.
unfoldable pub verdict : ℕ → CmpOp → ℕ → ℕ → Bool
verdict class Eq x k = not (tested class JNE x k)
verdict class Ne x k = not (tested class JEQ x k)
verdict class Lt x k = not (tested class JGE x k)
verdict class Le x k = not (tested class JGT x k)
verdict class Gt x k = not (tested class JLE x k)
verdict class Ge x k = not (tested class JLT x k)
verdict class BitAnd x k = tested class JSET x k

-- In this mode the comparison with k decides this test of every number of 32 bits.
pub record Reads (mode : ℕ) (op : CmpOp) (k : ℕ) (test : ℕ → Bool) : Type 0 where
  pub agrees : (x : ℕ) → x < 2 ^ 32 → verdict (class_of mode) op x k ≡ test x

-- A constant that the mode compares as it is: below 2^31 in plain mode; "BitAnd has none".
abbrev pub Sound : ℕ → CmpOp → ℕ → Type 0
Sound mode Eq k = Takes (class_of mode) k
Sound mode Ne k = Takes (class_of mode) k
Sound mode Lt k = Takes (class_of mode) k
Sound mode Le k = Takes (class_of mode) k
Sound mode Gt k = Takes (class_of mode) k
Sound mode Ge k = Takes (class_of mode) k
Sound mode BitAnd k = k < 2 ^ 32
