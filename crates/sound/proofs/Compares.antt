-- Comparisons of R4 with a constant, in both classes: the check that fails, the jump on success, one of two constants, and two ways by a constant.
use Prim.Native.Nat.{ℕ, ◌^◌, ◌<◌}
use mathlib.Core.Path.{◌≡◌, refl, sym, ap, ◌∙◌}
use mathlib.Core.Bool.{Bool, true, false, not, cond, ◌||◌}
use mathlib.Core.List.{List, [], ◌∷◌, ◌++◌}
use mathlib.Core.Option.{Option, some}
use native.Mathlib.Omega.{arith}
use borrow.Author.Tests.{lt-ltb, le-ltb, leb-true, leb-false, eq-eqb, ne_eqb, eqb-true, eqb-false, ltb-true}
use lib.Dec.{eqb, ltb, leb}
use Rattle.ebpf.specs.Opcode.{JMP, JMP32, JEQ, JNE, JGT, JGE, JLT, JLE, JSET}
use Rattle.ebpf.specs.Insn.{jump_always}
use Rattle.ebpf.specs.Alu.{compares}
use Rattle.patches.specs.Code.{Slot}
use Rattle.patches.specs.Code.Slot.{fixed, failure}
use Rattle.pieces.specs.Fragments.{past, class_of, fails, skips, succeeds, emit_cmp}
use Rattle.filter.specs.declared.ast.CmpOp.{CmpOp}
use Rattle.filter.specs.declared.ast.CmpOp.TheVariants.{Eq, Ne, Lt, Le, Gt, Ge, BitAnd}
use Rattle.meaning.specs.Meaning.{compared}
use Rattle.program.specs.Kinds.{Class, jmp, jmp32, Comparison, jeq, jne, jgt, jge, jlt, jle, jset, Takes}
use Rattle.program.specs.Ends.{tested}
use Rattle.program.proofs.Registers.{r4}
use Rattle.program.proofs.Values.{tested_taken, tested_jset}
use Rattle.program.proofs.Steps.{on_skip, on_ja, on_jump_imm}
use Rattle.sound.specs.Filled.{filled}
use Rattle.sound.specs.Piece.{Known, knows, nothing, falls, jumps, Piece}
use Rattle.sound.specs.Reads.{verdict, Reads, Sound}
use Rattle.sound.proofs.Bools.{not_not}
use Rattle.sound.proofs.Filled.{filled_then, on_past, off_imm, off_always}
use Rattle.sound.proofs.Pieces.{decides}

pub eqb_sym : (a b : ℕ) → eqb a b ≡ eqb b a
eqb_sym a b = split (eqb b a) refl
  where
    split : (t : Bool) → eqb b a ≡ t → eqb a b ≡ t
    split true e = eq-eqb a b (sym (eqb-true b a e))
    split false e = ne_eqb a b (λ q. eqb-false b a e (sym q))

pub ltb_not : (a b : ℕ) → not (leb b a) ≡ ltb a b
ltb_not a b = split (leb b a) refl
  where
    split : (t : Bool) → leb b a ≡ t → not t ≡ ltb a b
    split true e = sym (le-ltb a b (leb-true b a e))
    split false e = sym (lt-ltb a b (leb-false b a e))

pub leb_not : (a b : ℕ) → not (ltb b a) ≡ leb a b
leb_not a b = rw (← ltb_not b a) (not_not (leb a b))

pub class_is : (mode : ℕ) → Class (class_of mode)
unfolding class_of
class_is mode = go (eqb mode 0)
  where
    go : (plain : Bool) → Class (cond plain JMP JMP32)
    go true = jmp
    go false = jmp32

-- Plain mode is the one that asks for constants below 2^31.
pub takes_small : (mode k : ℕ) → (mode ≡ 0 → ltb k (2 ^ 31) ≡ true) → Takes (class_of mode) k
unfolding class_of
takes_small mode k h = go (eqb mode 0) refl
  where
    go : (plain : Bool) → eqb mode 0 ≡ plain → cond plain JMP JMP32 ≡ JMP → k < 2 ^ 31
    go true e q = ltb-true k (2 ^ 31) (h (eqb-true mode 0 e))
    go false e q = absurd (omega arith)

pub takes_always : (mode : ℕ) {k : ℕ} → k < 2 ^ 31 → Takes (class_of mode) k
takes_always mode l e = l

-- Without a condition, the comparison decides something.
pub reads_something : {mode : ℕ} {op : CmpOp} {k : ℕ} → Reads mode op k (λ x. verdict (class_of mode) op x k)
reads_something = record { agrees = λ x l. refl }

-- A sound constant is compared as document 01 says.
pub reads : {mode : ℕ} (op : CmpOp) {k : ℕ} → Sound mode op k → Reads mode op k (λ x. compared op x k)
unfolding verdict compares compared
reads {mode} Eq {k} s = record { agrees = λ x l. rw (tested_taken JNE x k (class_is mode) s l) (not_not (eqb x k)) }
reads {mode} Ne {k} s = record { agrees = λ x l. rw (tested_taken JEQ x k (class_is mode) s l) }
reads {mode} Lt {k} s = record { agrees = λ x l. rw (tested_taken JGE x k (class_is mode) s l) (ltb_not x k) }
reads {mode} Le {k} s = record { agrees = λ x l. rw (tested_taken JGT x k (class_is mode) s l) (leb_not x k) }
reads {mode} Gt {k} s = record { agrees = λ x l. rw (tested_taken JLE x k (class_is mode) s l) (ltb_not k x) }
reads {mode} Ge {k} s = record { agrees = λ x l. rw (tested_taken JLT x k (class_is mode) s l) (leb_not k x) }
reads {mode} BitAnd {k} s = record { agrees = λ x l. tested_jset x k (class_is mode) l s }

pub reads_equal : {mode k : ℕ} → Takes (class_of mode) k → Reads mode Eq k (eqb k)
unfolding compared
reads_equal {k = k} s = record { agrees = λ x l. (reads Eq s).agrees x l ∙ eqb_sym x k }

-- The jump on success tests what the check does.
jeq_verdict : {class : ℕ} (x k : ℕ) → Class class → tested class JEQ x k ≡ verdict class Eq x k
unfolding verdict tested compares
jeq_verdict x k jmp = sym (not_not _)
jeq_verdict x k jmp32 = sym (not_not _)

module _ {frame : List ℕ} {start : ℕ} (mode : ℕ) {x : ℕ} {six : Option ℕ} where
  -- A jump on R4 that is handed on as a failure.
  fails_if : {operation : ℕ} (k : ℕ) → Comparison operation
      → Piece frame start falls (knows (some x) six) (knows (some x) six) (knows (some x) six)
      (fails mode operation k) (not (tested (class_of mode) operation x k))
  unfolding fails filled past
  fails_if {operation} k o =
      record {
        runs = λ v a b rest h h' c0 c4 c5 c6 q. rw (q.0, off_imm b (class_of mode) operation 4 k)
            (on_jump_imm k (class_is mode) o r4 (λ t. h' (ap not t) c0 _ c5 c6 (refl, q.1)) (λ t. h (ap not t) c0 _ c5 c6 (refl, q.1)));
      }

  unless_common : (k : ℕ) → Piece frame start falls (knows (some x) six) (knows (some x) six) (knows (some x) six)
      (skips mode JSET k 1 ∷ failure (jump_always 0) ∷ []) (tested (class_of mode) JSET x k)
  unfolding skips filled past
  unless_common k =
      record {
        runs = λ v a b rest h h' c0 c4 c5 c6 q. rw (q.0, off_always b)
            (on_jump_imm k (class_is mode) jset r4 (λ t. on_skip (h t c0 _ c5 c6 (refl, q.1))) (λ t. on_ja (h' t c0 _ c5 c6 (refl, q.1))));
      }

module _ {frame : List ℕ} {start mode x : ℕ} {six : Option ℕ} where
  -- `emit_cmp`, all seven operators.
  pub compares_with : {k : ℕ} {test : ℕ → Bool} (op : CmpOp) → Reads mode op k test → x < 2 ^ 32
      → Piece frame start falls (knows (some x) six) (knows (some x) six) (knows (some x) six) (emit_cmp mode op k) (test x)
  unfolding emit_cmp verdict
  compares_with {k} Eq r l = decides (fails_if mode k jne) (r.agrees x l)
  compares_with {k} Ne r l = decides (fails_if mode k jeq) (r.agrees x l)
  compares_with {k} Gt r l = decides (fails_if mode k jle) (r.agrees x l)
  compares_with {k} Ge r l = decides (fails_if mode k jlt) (r.agrees x l)
  compares_with {k} Lt r l = decides (fails_if mode k jge) (r.agrees x l)
  compares_with {k} Le r l = decides (fails_if mode k jgt) (r.agrees x l)
  compares_with {k} BitAnd r l = decides (unless_common mode k) (r.agrees x l)

  -- The Rust's own jumps for a check, a range's low end and its high end.
  pub fails_unless_equal : {k : ℕ} {test : ℕ → Bool} → Reads mode Eq k test → x < 2 ^ 32
      → Piece frame start falls (knows (some x) six) (knows (some x) six) (knows (some x) six) (fails mode JNE k) (test x)
  unfolding verdict
  fails_unless_equal {k} r l = decides (fails_if mode k jne) (r.agrees x l)

  pub fails_below : {k : ℕ} {test : ℕ → Bool} → Reads mode Ge k test → x < 2 ^ 32
      → Piece frame start falls (knows (some x) six) (knows (some x) six) (knows (some x) six) (fails mode JLT k) (test x)
  unfolding verdict
  fails_below {k} r l = decides (fails_if mode k jlt) (r.agrees x l)

  pub fails_above : {k : ℕ} {test : ℕ → Bool} → Reads mode Le k test → x < 2 ^ 32
      → Piece frame start falls (knows (some x) six) (knows (some x) six) (knows (some x) six) (fails mode JGT k) (test x)
  unfolding verdict
  fails_above {k} r l = decides (fails_if mode k jgt) (r.agrees x l)

  -- Equality is success at once, and else the rest decides.
  pub equal_or : {k : ℕ} {test : ℕ → Bool} {ys : List Slot} {q : Bool} → Reads mode Eq k test → x < 2 ^ 32
      → Piece frame start jumps (knows (some x) six) nothing nothing ys q
      → Piece frame start jumps (knows (some x) six) nothing nothing (succeeds mode JEQ k ∷ ys) (test x || q)
  unfolding succeeds filled
  equal_or {k} {ys = ys} r l m =
      let e = sym (r.agrees x l) ∙ sym (jeq_verdict x k (class_is mode)) in
      record {
        runs = λ v a b rest h h' c0 c4 c5 c6 q. rw (q.0, off_imm (past ys a) (class_of mode) JEQ 4 k)
            (on_jump_imm k (class_is mode) jeq r4
            (λ t. on_past a b ys ((h (rw (e ∙ t))).1 c0 _ c5 c6 (tt, tt)))
            (λ t. m.runs v a b rest (λ u. h (rw (e ∙ t) u)) (λ u. h' (rw (e ∙ t) u)) c0 _ c5 c6 (refl, q.1)));
      }

  -- One of two constants.
  pub equal_either : {k k' : ℕ} {test test' : ℕ → Bool} → Reads mode Eq k test → Reads mode Eq k' test' → x < 2 ^ 32
      → Piece frame start falls (knows (some x) six) (knows (some x) six) (knows (some x) six)
      (skips mode JEQ k 1 ∷ fails mode JNE k') (test x || test' x)
  unfolding skips fails filled past
  equal_either {k} {k'} r r' l =
      let e = sym (r.agrees x l) ∙ sym (jeq_verdict x k (class_is mode)) in
      let m = fails_unless_equal r' l in
      record {
        runs = λ v a b rest h h' c0 c4 c5 c6 q. rw q.0
            (on_jump_imm k (class_is mode) jeq r4
            (λ t. on_skip (h (rw (e ∙ t)) c0 _ c5 c6 (refl, q.1)))
            (λ t. m.runs v a b rest (λ u. h (rw (e ∙ t) u)) (λ u. h' (rw (e ∙ t) u)) c0 _ c5 c6 (refl, q.1)));
      }

  -- Two ways: where R4 is k, past ys to zs; else ys, and past zs. What is known afterwards may differ.
  pub two_ways : (then : Bool → Known) {else : Known} {k : ℕ} {test : ℕ → Bool} {ys zs : List Slot} {p q : Bool}
      → Reads mode Eq k test → x < 2 ^ 32
      → Piece frame start falls (knows (some x) six) (then true) else zs p
      → Piece frame start falls (knows (some x) six) (then false) else ys q
      → Piece frame start falls (knows (some x) six) (then (test x)) else
      (skips mode JEQ k (past ys 1) ∷ (ys ++ (fixed (jump_always (past zs 0)) ∷ zs))) (cond (test x) p q)
  unfolding skips filled past
  two_ways then {else} {k} {test} {ys} {zs} {p} {q} r l m n =
      let e = sym (r.agrees x l) ∙ sym (jeq_verdict x k (class_is mode)) in
      let more : List Slot = fixed (jump_always (past zs 0)) ∷ zs in
      record {
        runs = λ v a b rest h h' c0 c4 c5 c6 o. rw (o.0, filled_then a b ys more rest)
            (on_jump_imm k (class_is mode) jeq r4
            (λ t. on_past (past more a) (past more b) ys (on_skip (m.runs v a b rest (rw (e ∙ t) at h) (rw (e ∙ t) at h') c0 _ c5 c6 (refl, o.1))))
            (λ t. n.runs v (past more a) (past more b) (jump_always (past zs 0) ∷ (filled a b zs ++ rest))
            (λ u d0 d4 d5 d6 o'. on_ja (on_past a b zs ((rw (e ∙ t) at h) u d0 d4 d5 d6 o')))
            (λ u d0 d4 d5 d6 o'. on_skip (on_past a b zs ((rw (e ∙ t) at h') u d0 d4 d5 d6 o')))
            c0 _ c5 c6 (refl, o.1)));
      }
