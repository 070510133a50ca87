-- Byte accesses: of the frame, of the network header, of the transport header; and which steps the refusals leave.
use Prim.Native.Nat.{ℕ, zero, suc, ◌+◌, ◌*◌, ◌^◌, ◌<◌}
use mathlib.Core.Path.{◌≡◌, refl}
use mathlib.Core.Bool.{Bool, true, false, cond, ◌&&◌}
use mathlib.Core.List.{List, ◌++◌}
use mathlib.Core.Option.{Option, some}
use native.Mathlib.Omega.{arith}
use native.Mathlib.Nat.{zero-add, add_assoc}
use borrow.Author.Tests.{leb-false, leb-true, ltb-false, eqb-true, eqb-false}
use lib.Dec.{eqb, leb, ltb}
use lib.ListN.{length, get_or}
use Rattle.pieces.specs.Fragments.{emit_load}
use Rattle.codegen.specs.Primitives.{steps_and_cmp, access_at_code}
use Rattle.filter.specs.Bytes.{be2, be4}
use Rattle.filter.specs.First.{any}
use Rattle.filter.specs.Ast.{net_offset, bytes_of}
use Rattle.filter.specs.Record.{step_at}
use Rattle.filter.specs.declared.ast.LinkType.{LinkType}
use Rattle.filter.specs.declared.ast.ArithOp.{ArithOp}
use Rattle.filter.specs.declared.ast.ArithOp.TheVariants.{Add, Sub, Mul, Div, Mod, And, Or, Xor, Shl, Shr}
use Rattle.filter.specs.declared.ast.Layer as layers
use Rattle.filter.specs.declared.ast.Layer.TheVariants as layer
use Rattle.filter.specs.declared.ast.ByteAccess as access
use Rattle.checks.specs.Check.{base_of, far, shifts, big_shift}
use Rattle.checks.specs.Refusal.{op_refusal, step_refusal, steps_refusal}
use Rattle.meaning.specs.Frame.{there, number, passes}
use Rattle.meaning.specs.Meaning.{stepped, start4}
use Rattle.program.specs.Ends.{Frame}
use Rattle.sound.specs.Piece.{knows, nothing, falls, Piece, Tests}
use Rattle.sound.specs.Reads.{Reads}
use Rattle.sound.specs.Fine.{FineStep, FineSteps}
use Rattle.sound.specs.Accessed.{accessed}
use Rattle.sound.proofs.Bools.{either_false}
use Rattle.sound.proofs.Pieces.{both, forgets, forgets_on_failure}
use Rattle.sound.proofs.Loads.{end_is, at_most_four, guards, loads_at, number_low}
use Rattle.sound.proofs.Compares.{compares_with}
use Rattle.sound.proofs.Fields.{field, steps_through, stepped_low}
use Rattle.sound.proofs.Transport.{transports, start4_low}

-- A step that refusals 6, 18 and 19 do not meet is fine.
fine_step : (op : ArithOp) (k : ℕ) → k < 2 ^ 32 → op_refusal op k ≡ 0 → (shifts op && leb 32 k) ≡ false → FineStep op k
unfolding op_refusal shifts
fine_step Add k l e s = l
fine_step Sub k l e s = l
fine_step Mul k l e s = l
fine_step Div k l e s = (l, λ z. go (eqb k 0) refl e z)
  where
    go : (zero-divisor : Bool) → eqb k 0 ≡ zero-divisor → cond {A = ℕ} zero-divisor 18 0 ≡ 0 → k ≡ 0 → ⊥
    go true d q z = absurd (omega arith)
    go false d q z = eqb-false k 0 d z
fine_step Mod k l e s = absurd (omega arith)
fine_step And k l e s = l
fine_step Or k l e s = l
fine_step Xor k l e s = l
fine_step Shl k l e s = leb-false 32 k s
fine_step Shr k l e s = leb-false 32 k s

pub operand_low : (steps : List ℕ) (j : ℕ) → ((i : ℕ) → get_or steps i 0 < 256) → (step_at steps (5 * j)).operand < 2 ^ 32
unfolding step_at be4 be2
operand_low steps j b = let p : ℕ = 5 * j + 1 in omega (arith, b p, b (p + 1), b (p + 2), b (p + 2 + 1))

pub fine_steps : (steps : List ℕ) (n j : ℕ) → ((i : ℕ) → get_or steps i 0 < 256) → steps_refusal steps n j ≡ 0 → any (big_shift steps) n j ≡ false
    → FineSteps steps n j
unfolding steps_refusal step_refusal any big_shift
fine_steps steps zero j b e s = tt
fine_steps steps (suc n) j b e s =
    let op = (step_at steps (5 * j)).op in
    let k = (step_at steps (5 * j)).operand in
    let r = first_of (op_refusal op k) (steps_refusal steps n (suc j)) (eqb (op_refusal op k) 0) refl e in
    let s' = either_false (shifts op && leb 32 k) (any (big_shift steps) n (suc j)) s in
    (fine_step op k (operand_low steps j b) r.0 s'.0, fine_steps steps n (suc j) b r.1 s'.1)
  where
    first_of : (one more : ℕ) (t : Bool) → eqb one 0 ≡ t → cond t more one ≡ 0 → (one ≡ 0) × (more ≡ 0)
    first_of one more true d q = (eqb-true one 0 d, q)
    first_of one more false d q = absurd (eqb-false one 0 d q)

-- An offset that refusal 5 does not meet.
pub near_offset : (link : LinkType) (x : access.ByteAccess) → far link x ≡ false → x.offset + base_of link x.layer < 2 ^ 15
unfolding far
near_offset link x e =
    let f = either_false (leb 2147483648 x.offset) (ltb 32767 (x.offset + base_of link x.layer)) e in
    let l = ltb-false 32767 (x.offset + base_of link x.layer) f.1 in
    omega arith

module _ {frame : List ℕ} {start : ℕ} (w : Frame frame start) {mode k : ℕ} {test : ℕ → Bool} (link : LinkType) (steps : List ℕ) (j : ℕ)
    (x : access.ByteAccess) (r : Reads mode x.op k test) (s : FineSteps steps x.steps j) where
  -- "then its steps .. then the comparison".
  steps_compared : {six : Option ℕ} (v : ℕ) → v < 2 ^ 32
      → Piece frame start falls (knows (some v) six) nothing nothing (steps_and_cmp mode link steps j x k) (test (stepped steps x.steps j v))
  unfolding steps_and_cmp
  steps_compared v l =
      both (steps_through steps x.steps j v s l)
      (λ t. forgets (compares_with x.op r (stepped_low steps x.steps j v s l)))

  load_compared : (off : ℕ) → off < 2 ^ 15 → Tests frame start (emit_load x.size off ++ steps_and_cmp mode link steps j x k)
      (passes frame (bytes_of x.size) off (λ v. test (stepped steps x.steps j v)))
  unfolding passes
  load_compared off m = field w x.size off m (steps_compared (number frame (bytes_of x.size) off) (number_low w x.size off))

  -- "The transport layer starts as IPv4 does, with no protocol test."
  transport_compared : x.offset < 2 ^ 15
      → Tests frame start (access_at_code mode link steps j layer.Trans x k)
      (there frame 1 (net_offset link) && passes frame (bytes_of x.size) (start4 link frame + x.offset) (λ v. test (stepped steps x.steps j v)))
  unfolding access_at_code passes there
  transport_compared m =
      let t : ℕ = start4 link frame in
      let n : ℕ = bytes_of x.size in
      let low = start4_low link frame in
      let few = at_most_four x.size in
      let together = add_assoc t x.offset n in
      rw (end_is x.size x.offset m, together) (both (transports w link)
      (λ q. both (forgets_on_failure (guards w t (x.offset + n) (omega arith) (omega arith)))
      (λ q. let inside = leb-true (t + (x.offset + n)) (length frame) q in
      both (loads_at w t x.size x.offset (t + x.offset) m refl (omega arith))
      (λ q. steps_compared (number frame n (t + x.offset)) (number_low w x.size (t + x.offset))))))

  -- The access on each layer.
  pub access_compared : (l : layers.Layer) → x.offset + base_of link l < 2 ^ 15
      → Tests frame start (access_at_code mode link steps j l x k) (accessed link frame steps j x test l)
  unfolding access_at_code base_of
  access_compared layer.Raw m = rw (zero-add x.offset) (load_compared x.offset (omega arith))
  access_compared layer.Net m = load_compared (net_offset link + x.offset) (omega arith)
  access_compared layer.Trans m = transport_compared (omega arith)
