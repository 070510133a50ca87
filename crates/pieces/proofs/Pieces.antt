-- Pieces of code one after the other: the room for each, and what they come to together.
use Rattle.filter.specs.Ast.{bytes_of}
use Rattle.std.proofs.Common.{length-append, ◌==◌, eqb, cond, true, false, refl, ◌≡◌, ℕ, ◌+◌, ◌%◌, ◌^◌, ◌<◌, length, List, [], ◌∷◌, ◌++◌, sym, ap, ◌∙◌, arith}
use Rattle.ebpf.specs.Insn.{jump_imm}
use Rattle.ebpf.specs.Opcode.{JMP, JMP32}
use Rattle.ebpf.specs.declared.insn.Insn.{Insn}
use Rattle.patches.specs.declared.Codegen.{Codegen}
use Rattle.patches.specs.declared.Patches.{Patches}
use Rattle.patches.specs.Code.{Slot, Emission, Setting, emission, push1, block}
use Rattle.patches.specs.Code.Slot.{fixed}
use Rattle.patches.proofs.Blocks.{block_append, pos_of}
use Rattle.patches.proofs.Unchanged.{push_kept, block_kept}
use Rattle.filter.specs.declared.ast.AccessSize.{AccessSize}
use Rattle.filter.specs.declared.ast.AccessSize.TheVariants.{Byte, Half, Word}
use Rattle.pieces.specs.Fragments.{Fits, load, end_of, emit_load, class_of}

-- There is room for a piece; the next place then.
pub fits_at : (xs : List Slot) (st : Patches) → st.pos + length xs < 2 ^ 32 → Fits xs st
fits_at xs st h = record { room = h }

pub pos_at : (xs : List Slot) (c c1 : Codegen) → emission c1 ≡ block xs (emission c) → c1.patches.pos ≡ c.patches.pos + length xs
unfolding emission
pos_at xs c c1 e = pos_of xs (emission c) (emission c1) e

pub pos_after : (x : Slot) (c c1 : Codegen) → emission c1 ≡ push1 x (emission c) → c1.patches.pos ≡ c.patches.pos + 1
unfolding emission block
pos_after x c c1 e = pos_of (x ∷ []) (emission c) (emission c1) e

-- The room for the first of two pieces, and for the second once the first is written.
pub first : (xs ys : List Slot) (st : Patches) → Fits (xs ++ ys) st → Fits xs st
first xs ys st f = record { room = omega (arith, simp length-append at f.room) }

pub second : (xs ys : List Slot) (c c1 : Codegen) → Fits (xs ++ ys) c.patches → emission c1 ≡ block xs (emission c) → Fits ys c1.patches
second xs ys c c1 f e = record { room = omega (arith, simp length-append at f.room, pos_at xs c c1 e) }

-- Mode and link stay.
pub mode_of : (xs : List Slot) (c c1 : Codegen) → emission c1 ≡ block xs (emission c) → c1.mode ≡ c.mode
unfolding emission
mode_of xs c c1 e = ap (λ (v : Emission). v.setting.mode) e ∙ ap (λ (v : Setting). v.mode) (block_kept xs (emission c)).setting

pub link_of : (xs : List Slot) (c c1 : Codegen) → emission c1 ≡ block xs (emission c) → c1.link ≡ c.link
unfolding emission
link_of xs c c1 e = ap (λ (v : Emission). v.setting.link) e ∙ ap (λ (v : Setting). v.link) (block_kept xs (emission c)).setting

pub mode_after : (x : Slot) (c c1 : Codegen) → emission c1 ≡ push1 x (emission c) → c1.mode ≡ c.mode
unfolding emission
mode_after x c c1 e = ap (λ (v : Emission). v.setting.mode) e ∙ ap (λ (v : Setting). v.mode) (push_kept x (emission c)).setting

pub link_after : (x : Slot) (c c1 : Codegen) → emission c1 ≡ push1 x (emission c) → c1.link ≡ c.link
unfolding emission
link_after x c c1 e = ap (λ (v : Emission). v.setting.link) e ∙ ap (λ (v : Setting). v.link) (push_kept x (emission c)).setting

-- What two pieces come to, and one instruction and what follows it.
pub then : (xs ys : List Slot) (e e1 e2 : Emission) → e1 ≡ block xs e → e2 ≡ block ys e1 → e2 ≡ block (xs ++ ys) e
then xs ys e e1 e2 h k = k ∙ ap (block ys) h ∙ sym (block_append xs ys e)

pub step : (x : Slot) (ys : List Slot) (e e1 e2 : Emission) → e1 ≡ push1 x e → e2 ≡ block ys e1 → e2 ≡ block (x ∷ ys) e
unfolding block
step x ys e e1 e2 h k = k ∙ ap (block ys) h

pub one : (x : Slot) (e e1 : Emission) → e1 ≡ push1 x e → e1 ≡ block (x ∷ []) e
unfolding block
one x e e1 h = h

-- An instruction by what its constructor promises.
pub as_fixed : (i j : Insn) (e e1 : Emission) → i ≡ j → e1 ≡ push1 (fixed i) e → e1 ≡ push1 (fixed j) e
as_fixed i j e e1 h k = k ∙ ap (λ (x : Insn). push1 (fixed x) e) h

-- A load keeps 32 bits of its offset, so that a sum of offsets may wrap.
pub load_wraps : (size : AccessSize) (n : ℕ) → emit_load size (n % 2 ^ 32) ≡ emit_load size n
unfolding emit_load end_of bytes_of load
load_wraps Byte n =
    let end : (n % 2 ^ 32 + 1) % 2 ^ 32 ≡ (n + 1) % 2 ^ 32 = omega arith in
    let low : n % 2 ^ 32 % 2 ^ 16 ≡ n % 2 ^ 16 = omega arith in
    rw (end, low)
load_wraps Half n =
    let end : (n % 2 ^ 32 + 2) % 2 ^ 32 ≡ (n + 2) % 2 ^ 32 = omega arith in
    let low : n % 2 ^ 32 % 2 ^ 16 ≡ n % 2 ^ 16 = omega arith in
    rw (end, low)
load_wraps Word n =
    let end : (n % 2 ^ 32 + 4) % 2 ^ 32 ≡ (n + 4) % 2 ^ 32 = omega arith in
    let low : n % 2 ^ 32 % 2 ^ 16 ≡ n % 2 ^ 16 = omega arith in
    rw (end, low)

-- The mode picks the class.
pub by_class : (mode op k : ℕ) → cond (mode == 0) (jump_imm JMP op 4 k 0) (jump_imm JMP32 op 4 k 0) ≡ jump_imm (class_of mode) op 4 k 0
unfolding class_of
by_class mode op k = elim (eqb mode 0) as (λ b. cond b (jump_imm JMP op 4 k 0) (jump_imm JMP32 op 4 k 0) ≡ jump_imm (cond b JMP JMP32) op 4 k 0) [ true ↦ refl | false ↦ refl ]
