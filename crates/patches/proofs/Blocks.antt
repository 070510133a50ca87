-- Runs of instructions: what they do to a reading, to the bytes, to the next place; runs after one another; room.
use Prim.Native.Nat.{ℕ, suc, ◌+◌, ◌≤◌}
use mathlib.Core.Path.{◌≡◌, refl, ap, ◌∙◌}
use mathlib.Core.List.{List, [], ◌∷◌, ◌++◌}
use native.Mathlib.Omega.{arith}
use lib.ListN.{length}
use Rattle.patches.specs.declared.Codegen.{Codegen}
use Rattle.patches.specs.Code.{Slot, Emission, emission, push1, block, outs, successes, failures}
use Rattle.patches.specs.Code.Slot.{fixed, success, failure}
use Rattle.patches.specs.Rel.{Frame, Rel}
use Rattle.patches.proofs.Reading.{rel_fixed, rel_success, rel_failure}

pub rel_block : (l n : ℕ) (fs : List Frame) (lo : ℕ) (xs : List Slot) (e : Emission) (sp fp : List ℕ) → e.patches.pos + length xs ≤ l → Rel l e.work n e.patches fs sp fp lo
    → Rel l (block xs e).work n (block xs e).patches fs (successes e.patches.pos xs sp) (failures e.patches.pos xs fp) lo
unfolding block push1 successes failures
rel_block l n fs lo [] e sp fp h r = r
rel_block l n fs lo (fixed i ∷ xs) e sp fp h r =
    rel_block l n fs lo xs (push1 (fixed i) e) sp fp (omega arith) (rel_fixed r (omega arith))
rel_block l n fs lo (success i ∷ xs) e sp fp h r =
    rel_block l n fs lo xs (push1 (success i) e) (e.patches.pos ∷ sp) fp (omega arith) (rel_success r (omega arith))
rel_block l n fs lo (failure i ∷ xs) e sp fp h r =
    rel_block l n fs lo xs (push1 (failure i) e) sp (e.patches.pos ∷ fp) (omega arith) (rel_failure r (omega arith))

pub out_block : (xs : List Slot) (e : Emission) → (block xs e).out ≡ outs xs e.patches.pos e.out
unfolding block push1 outs
out_block [] e = refl
out_block (fixed i ∷ xs) e = out_block xs (push1 (fixed i) e)
out_block (success i ∷ xs) e = out_block xs (push1 (success i) e)
out_block (failure i ∷ xs) e = out_block xs (push1 (failure i) e)

plus : (a n : ℕ) → a + 1 + n ≡ a + suc n
plus a n = omega arith

pub pos_block : (xs : List Slot) (e : Emission) → (block xs e).patches.pos ≡ e.patches.pos + length xs
unfolding block push1
pos_block [] e = omega arith
pos_block (fixed i ∷ xs) e = pos_block xs (push1 (fixed i) e) ∙ plus e.patches.pos (length xs)
pos_block (success i ∷ xs) e = pos_block xs (push1 (success i) e) ∙ plus e.patches.pos (length xs)
pos_block (failure i ∷ xs) e = pos_block xs (push1 (failure i) e) ∙ plus e.patches.pos (length xs)

-- One run after another is the run of both.
pub block_append : (xs ys : List Slot) (e : Emission) → block (xs ++ ys) e ≡ block ys (block xs e)
unfolding block
block_append [] ys e = refl
block_append (x ∷ xs) ys e = block_append xs ys (push1 x e)

pub pos_of : (xs : List Slot) (e e1 : Emission) → e1 ≡ block xs e → e1.patches.pos ≡ e.patches.pos + length xs
pos_of xs e e1 h = ap (λ (v : Emission). v.patches.pos) h ∙ pos_block xs e

-- What is written tells the whole `Codegen`.
pub same_code : {c d : Codegen} → emission c ≡ emission d → c ≡ d
unfolding emission
same_code h i = record {
  out = record { ref_ptr = (h i).setting.out.place; ghost_name = (h i).setting.out.name; now = (h i).out };
  work = record { ref_ptr = (h i).setting.work.place; ghost_name = (h i).setting.work.name; now = (h i).work };
  patches = (h i).patches;
  mode = (h i).setting.mode;
  link = (h i).setting.link;
}
