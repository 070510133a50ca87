-- A field of the frame: loaded, worked on by arithmetic, and compared.
use Prim.Native.Nat.{ℕ, zero, suc, ◌*◌, ◌^◌, ◌<◌}
use mathlib.Core.Path.{◌≡◌, refl, subst}
use mathlib.Core.Bool.{Bool, true, ◌&&◌}
use mathlib.Core.List.{List, [], ◌∷◌, ◌++◌}
use mathlib.Core.Option.{Option, none, some}
use native.Mathlib.Omega.{arith}
use Rattle.filter.specs.Ast.{bytes_of}
use Rattle.ebpf.specs.Insn.{alu32_imm}
use Rattle.ebpf.specs.Alu.{alu32}
use Rattle.patches.specs.Code.{Slot}
use Rattle.patches.specs.Code.Slot.{fixed}
use Rattle.pieces.specs.Fragments.{emit_load, check, alu32_of, emit_steps}
use Rattle.filter.specs.Record.{step_at}
use Rattle.filter.specs.declared.ast.AccessSize.{AccessSize}
use Rattle.filter.specs.declared.ast.CmpOp.TheVariants.{Eq}
use Rattle.filter.specs.declared.ast.ArithOp.{ArithOp}
use Rattle.filter.specs.declared.ast.ArithOp.TheVariants.{Add, Sub, Mul, Div, Mod, And, Or, Xor, Shl, Shr}
use Rattle.meaning.specs.Frame.{there, number, passes}
use Rattle.meaning.specs.Meaning.{arith as worked, stepped}
use Rattle.program.specs.Kinds.{Arithmetic, add32, sub32, mul32, div32, or32, and32, lsh32, rsh32, xor32}
use Rattle.program.specs.Ends.{Frame}
use Rattle.program.proofs.Registers.{r4}
use Rattle.program.proofs.Values.{arithmetic_fits}
use Rattle.program.proofs.Steps.{on_arithmetic}
use Rattle.sound.specs.Filled.{filled}
use Rattle.sound.specs.Piece.{Known, knows, nothing, Way, falls, Piece, Tests}
use Rattle.sound.specs.Reads.{Reads}
use Rattle.sound.specs.Fine.{FineStep, FineSteps}
use Rattle.sound.proofs.Pieces.{both, no_code, forgets}
use Rattle.sound.proofs.Loads.{loads, number_low}
use Rattle.sound.proofs.Compares.{fails_unless_equal}

-- A fine step is an operation that the machine has, and does what document 01 says.
step_arithmetic : (op : ArithOp) (k : ℕ) → FineStep op k → Arithmetic (alu32_of op) k
unfolding alu32_of
step_arithmetic Add k s = add32
step_arithmetic Sub k s = sub32
step_arithmetic Mul k s = mul32
step_arithmetic Div k s = div32 s.1
step_arithmetic Mod k s = absurd s
step_arithmetic And k s = and32
step_arithmetic Or k s = or32
step_arithmetic Xor k s = xor32
step_arithmetic Shl k s = lsh32 s
step_arithmetic Shr k s = rsh32 s

step_fits : (op : ArithOp) (k : ℕ) → FineStep op k → k < 2 ^ 32
step_fits Add k s = s
step_fits Sub k s = s
step_fits Mul k s = s
step_fits Div k s = s.0
step_fits Mod k s = absurd s
step_fits And k s = s
step_fits Or k s = s
step_fits Xor k s = s
step_fits Shl k s = omega arith
step_fits Shr k s = omega arith

step_value : (op : ArithOp) (x k : ℕ) → FineStep op k → alu32 (alu32_of op) x k ≡ worked op x k
unfolding alu32_of alu32 worked
step_value Add x k s = refl
step_value Sub x k s = refl
step_value Mul x k s = refl
step_value Div x k s = refl
step_value Mod x k s = absurd s
step_value And x k s = refl
step_value Or x k s = refl
step_value Xor x k s = refl
step_value Shl x k s = refl
step_value Shr x k s = refl

worked_low : (op : ArithOp) (x k : ℕ) → FineStep op k → x < 2 ^ 32 → worked op x k < 2 ^ 32
worked_low op x k s l = subst (λ y. y < 2 ^ 32) (step_value op x k s) (arithmetic_fits x (step_arithmetic op k s) l (step_fits op k s))

pub stepped_low : (steps : List ℕ) (n j x : ℕ) → FineSteps steps n j → x < 2 ^ 32 → stepped steps n j x < 2 ^ 32
unfolding stepped
stepped_low steps zero j x s l = l
stepped_low steps (suc n) j x s l =
    stepped_low steps n (suc j) _ s.1 (worked_low (step_at steps (5 * j)).op x (step_at steps (5 * j)).operand s.0 l)

module _ {frame : List ℕ} {start : ℕ} where
  -- One operation on R4.
  pub computes : {x operation imm : ℕ} {six : Option ℕ} {else : Known} → Arithmetic operation imm → x < 2 ^ 32
      → Piece frame start falls (knows (some x) six) (knows (some (alu32 operation x imm)) six) else (fixed (alu32_imm operation 4 imm) ∷ []) true
  unfolding filled
  computes o l = record { runs = λ v a b rest h h' c0 c4 c5 c6 q. rw q.0 (on_arithmetic o r4 l (h refl c0 _ c5 c6 (refl, q.1))) }

  -- The steps of a byte access.
  pub steps_through : {six : Option ℕ} {else : Known} (steps : List ℕ) (n j x : ℕ) → FineSteps steps n j → x < 2 ^ 32
      → Piece frame start falls (knows (some x) six) (knows (some (stepped steps n j x)) six) else (emit_steps steps n j) true
  unfolding emit_steps stepped
  steps_through steps zero j x s l = no_code
  steps_through {six} {else} steps (suc n) j x s l =
      let op = (step_at steps (5 * j)).op in
      let k = (step_at steps (5 * j)).operand in
      let low = worked_low op x k s.0 l in
      let one : Piece frame start falls (knows (some x) six) (knows (some (worked op x k)) six) else (fixed (alu32_imm (alu32_of op) 4 k) ∷ []) true =
      rw (← step_value op x k s.0) (computes (step_arithmetic op k s.0) l) in
      both one (λ t. steps_through steps n (suc j) (worked op x k) s.1 low)

  module _ (w : Frame frame start) where
    -- A load, and what is made of its number.
    pub field : {way : Way} {ys : List Slot} {q : Bool} (size : AccessSize) (off : ℕ) → off < 2 ^ 15
        → Piece frame start way (knows (some (number frame (bytes_of size) off)) none) nothing nothing ys q
        → Piece frame start way nothing nothing nothing (emit_load size off ++ ys) (there frame (bytes_of size) off && q)
    field size off m n = both (loads w size off m) (λ t. n)

    -- `check_byte`, `check_half`, `check_word`.
    pub checks : {mode k : ℕ} {test : ℕ → Bool} (size : AccessSize) (off : ℕ) → Reads mode Eq k test → off < 2 ^ 15
        → Tests frame start (check mode size off k) (passes frame (bytes_of size) off test)
    unfolding check passes
    checks size off r m = field size off m (forgets (fails_unless_equal r (number_low w size off)))
