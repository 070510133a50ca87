-- Guards and loads: a number of the frame comes into R4 where its bytes are there.
use Prim.Native.Nat.{ℕ, ◌+◌, ◌*◌, ◌%◌, ◌^◌, ◌<◌, ◌≤◌}
use mathlib.Core.Path.{◌≡◌, refl}
use mathlib.Core.Bool.{true}
use mathlib.Core.List.{List, ◌++◌}
use mathlib.Core.Option.{Option, some}
use native.Mathlib.Omega.{arith}
use native.Mathlib.Nat.{add-zero, mod-eq_of_lt}
use borrow.Author.Tests.{le-leb, lt-leb}
use lib.ListN.{length, get_or}
use Rattle.filter.specs.Ast.{bytes_of}
use Rattle.ebpf.specs.Opcode.{JGT}
use Rattle.ebpf.specs.declared.insn.Insn.{Insn}
use Rattle.ebpf.specs.declared.regs.Regs.{Regs}
use Rattle.pieces.specs.Fragments.{past, guard, load, end_of, emit_load}
use Rattle.filter.specs.declared.ast.AccessSize.{AccessSize}
use Rattle.filter.specs.declared.ast.AccessSize.TheVariants.{Byte, Half, Word}
use Rattle.meaning.specs.Frame.{there, number}
use Rattle.program.specs.Kinds.{byte, half, word, bits16, bits32}
use Rattle.program.specs.Ends.{Ends, Frame, Place, Cell, holds, between}
use Rattle.program.proofs.Registers.{r2, r3, r4, r5, r6}
use Rattle.program.proofs.Values.{byte_value, half_value, word_value}
use Rattle.program.proofs.Steps.{on_mov, on_add_imm, on_jgt, on_load, on_swap}
use Rattle.sound.specs.Filled.{filled}
use Rattle.sound.specs.Piece.{Known, knows, falls, Piece}
use Rattle.sound.proofs.Filled.{filled_then, on_past, off_reg}

-- An offset that the sheet's refusals let through keeps its 16 bits, and its end its 32.
pub low_offset : (off : ℕ) → off < 2 ^ 15 → off % 2 ^ 16 ≡ off
low_offset off h = mod-eq_of_lt (omega arith)

pub at_most_four : (size : AccessSize) → bytes_of size ≤ 4
unfolding bytes_of
at_most_four Byte = omega arith
at_most_four Half = omega arith
at_most_four Word = omega arith

pub end_is : (size : AccessSize) (off : ℕ) → off < 2 ^ 15 → end_of size off ≡ off + bytes_of size
unfolding end_of
end_is size off h = mod-eq_of_lt (omega (arith, at_most_four size))

module _ {frame : List ℕ} {start : ℕ} (w : Frame frame start) where
  number1 : (j : ℕ) → number frame 1 j ≡ get_or frame j 0
  unfolding number
  number1 j = rw (add-zero j) (omega arith)

  number2 : (j : ℕ) → number frame 2 j ≡ get_or frame j 0 * 256 + get_or frame (j + 1) 0
  unfolding number
  number2 j = rw (add-zero j) (omega arith)

  number4 : (j : ℕ) → number frame 4 j ≡ get_or frame j 0 * 16777216 + get_or frame (j + 1) 0 * 65536 + get_or frame (j + 2) 0 * 256 + get_or frame (j + 3) 0
  unfolding number
  number4 j = rw (add-zero j) (omega arith)

  pub number1_low : (j : ℕ) → number frame 1 j < 256
  number1_low j = rw (number1 j) (w.byte j)

  pub number2_low : (j : ℕ) → number frame 2 j < 65536
  number2_low j = rw (number2 j) (omega (arith, w.byte j, w.byte (j + 1)))

  -- A number of at most four bytes has 32 bits.
  pub number_low : (size : AccessSize) (j : ℕ) → number frame (bytes_of size) j < 2 ^ 32
  unfolding bytes_of
  number_low Byte j = omega (arith, number1_low j)
  number_low Half j = omega (arith, number2_low j)
  number_low Word j = rw (number4 j) (omega (arith, w.byte j, w.byte (j + 1), w.byte (j + 2), w.byte (j + 3)))

  module _ {c0 c4 c5 c6 : Cell} {v : ℕ} {rest : List Insn} where
    -- `ldx` and, but for a byte, the swap, from a register that holds y.
    on_number : {base y : ℕ} {after : ℕ → Regs} (a b : ℕ) (size : AccessSize) (off j : ℕ)
        → Place (between frame start c0 c4 c5 c6) base y true after
        → off < 2 ^ 15 → y + off ≡ start + j → j + bytes_of size ≤ length frame
        → Ends frame start v 0 rest (between frame start c0 (holds (number frame (bytes_of size) j)) c5 c6)
        → Ends frame start v 0 (filled a b (load size base off) ++ rest) (between frame start c0 c4 c5 c6)
    unfolding load filled bytes_of
    on_number a b Byte off j d m q l h = rw (low_offset off m) (on_load j byte r4 d m q l w.low (rw (byte_value frame j, ← number1 j) h))
    on_number a b Half off j d m q l h = rw (low_offset off m) (on_load j half r4 d m q l w.low (on_swap bits16 r4 (rw (half_value frame w.byte j, ← number2 j) h)))
    on_number a b Word off j d m q l h = rw (low_offset off m) (on_load j word r4 d m q l w.low (on_swap bits32 r4 (rw (word_value frame w.byte j, ← number4 j) h)))

    -- The guard, on a register that holds the place t of the frame: n bytes are there, or not.
    on_guard : {base y : ℕ} {after : ℕ → Regs} (a b n t : ℕ) → Place (between frame start c0 c4 c5 c6) base y true after
        → y ≡ start + t → n < 2 ^ 31 → t < 2 ^ 31
        → (t + n ≤ length frame → (c : Cell) → Ends frame start v 0 rest (between frame start c0 c4 c c6))
        → (length frame < t + n → (c : Cell) → Ends frame start v b rest (between frame start c0 c4 c c6))
        → Ends frame start v 0 (filled a b (guard base n) ++ rest) (between frame start c0 c4 c5 c6)
    unfolding guard filled past
    on_guard a b n t d e m l h h' =
        rw (off_reg b JGT 5 3) (on_mov r5 d (on_add_imm r5 m (omega (arith, w.low)) (on_jgt r5 r3
        (λ p. h' (omega arith) _) (λ p. h (omega arith) _))))

  -- `emit_load_..`: where the bytes are there, R4 holds their number; else nothing has changed.
  pub loads : {four six : Option ℕ} (size : AccessSize) (off : ℕ) → off < 2 ^ 15
      → Piece frame start falls (knows four six) (knows (some (number frame (bytes_of size) off)) six) (knows four six)
      (emit_load size off) (there frame (bytes_of size) off)
  unfolding emit_load there
  loads size off m =
      let n : ℕ = off + bytes_of size in
      let few = at_most_four size in
      record {
        runs = λ v a b rest h h' c0 c4 c5 c6 k.
            rw (end_is size off m, filled_then a b (guard 2 n) (load size 2 off) rest)
            (on_guard (past (load size 2 off) a) (past (load size 2 off) b) n 0 r2 (omega arith) (omega arith) (omega arith)
            (λ p c. on_number a b size off off r2 m refl (omega arith) (h (le-leb n (length frame) (omega arith)) c0 _ c c6 (refl, k.1)))
            (λ p c. on_past a b (load size 2 off) (h' (lt-leb n (length frame) (omega arith)) c0 c4 c c6 k)));
      }

  -- With R6 at the place t of the frame: the guard, and a load of bytes that are there.
  module _ {four : Option ℕ} (t : ℕ) where
    pub guards : (n : ℕ) → n < 2 ^ 31 → t < 2 ^ 31
        → Piece frame start falls (knows four (some (start + t))) (knows four (some (start + t))) (knows four (some (start + t)))
        (guard 6 n) (there frame n t)
    unfolding there
    guards n m l =
        record {
          runs = λ v a b rest h h' c0 c4 c5 c6 k. rw k.1
              (on_guard a b n t r6 refl m l
              (λ p c. h (le-leb (t + n) (length frame) p) c0 c4 c _ (k.0, refl))
              (λ p c. h' (lt-leb (t + n) (length frame) p) c0 c4 c _ (k.0, refl)));
        }

    pub loads_at : {else : Known} (size : AccessSize) (off j : ℕ) → off < 2 ^ 15 → t + off ≡ j → j + bytes_of size ≤ length frame
        → Piece frame start falls (knows four (some (start + t))) (knows (some (number frame (bytes_of size) j)) (some (start + t))) else
        (load size 6 off) true
    loads_at size off j m e l =
        record {
          runs = λ v a b rest h h' c0 c4 c5 c6 k. rw k.1
              (on_number a b size off j r6 m (omega arith) l (h refl c0 _ c5 _ (refl, refl)));
        }
