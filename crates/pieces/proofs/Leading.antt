-- Failures that lead to a known place: the laws of `lead`, the room for such pieces, and what they come to together.
use Rattle.std.proofs.Common.{◌≡◌, ℕ, suc, ◌+◌, ◌-◌, ◌<◌, false, eqb, List, [], ◌∷◌, ◌++◌, length, sym, refl, ap, ◌∙◌, arith, length-append, ne_eqb}
use Rattle.ebpf.specs.Insn.{jump_always}
use Rattle.ebpf.specs.declared.insn.Insn.{Insn}
use Rattle.patches.specs.declared.Codegen.{Codegen}
use Rattle.patches.specs.declared.Patches.{Patches}
use Rattle.patches.specs.Code.{Slot, Emission, Room, with_off, emission, push1, block}
use Rattle.patches.specs.Code.Slot.{fixed, success, failure}
use Rattle.patches.proofs.Blocks.{pos_of}
use Rattle.filter.specs.declared.ast.AccessSize.{AccessSize}
use Rattle.filter.specs.declared.ast.AccessSize.TheVariants.{Byte, Half, Word}
use Rattle.pieces.specs.Fragments.{Fits, Leads, past, settled, led, lead, one_of, load}
use Rattle.pieces.proofs.Pieces.{then, step, mode_of}

-- Filling jumps changes no length.
pub settled_length : (k : ℕ) (xs : List Slot) → length (settled k xs) ≡ length xs
unfolding settled
settled_length k [] = refl
settled_length k (fixed i ∷ xs) = ap suc (settled_length k xs)
settled_length k (success i ∷ xs) = ap suc (settled_length k xs)
settled_length k (failure i ∷ xs) = ap suc (settled_length k xs)

-- At 0 all failures stay open.
pub lead_none : (p : ℕ) (xs : List Slot) → lead 0 p xs ≡ xs
unfolding lead led
lead_none p [] = refl
lead_none p (fixed i ∷ xs) = ap (λ (ys : List Slot). fixed i ∷ ys) (lead_none (suc p) xs)
lead_none p (success i ∷ xs) = ap (λ (ys : List Slot). success i ∷ ys) (lead_none (suc p) xs)
lead_none p (failure i ∷ xs) = ap (λ (ys : List Slot). failure i ∷ ys) (lead_none (suc p) xs)

pub lead_length : (end p : ℕ) (xs : List Slot) → length (lead end p xs) ≡ length xs
unfolding lead
lead_length end p [] = refl
lead_length end p (x ∷ xs) = ap suc (lead_length end (suc p) xs)

pub lead_append : (end p : ℕ) (xs ys : List Slot) → lead end p (xs ++ ys) ≡ lead end p xs ++ lead end (p + length xs) ys
unfolding lead
lead_append end p [] ys = let e : p ≡ p + 0 = omega arith in ap (λ (q : ℕ). lead end q ys) e
lead_append end p (x ∷ xs) ys =
    let e : suc p + length xs ≡ p + suc (length xs) = omega arith in
    ap (λ (zs : List Slot). led end p x ∷ zs) (lead_append end (suc p) xs ys ∙ ap (λ (q : ℕ). lead end (suc p) xs ++ lead end q ys) e)

pub past_is : (xs : List Slot) (k : ℕ) → past xs k ≡ length xs + k
unfolding past
past_is [] k = omega arith
past_is (x ∷ xs) k = ap suc (past_is xs k) ∙ omega arith

-- A failure before xs that leads k past the end of xs.
led_past : (p k : ℕ) (i : Insn) (xs : List Slot) (end : ℕ) → 0 < k → end ≡ p + suc (length xs) + k → led end p (failure i) ≡ fixed (with_off (past xs k) i)
unfolding led
led_past p k i xs end h e =
    let there : end - suc p ≡ length xs + k = omega arith in
    let some : eqb end 0 ≡ false = ne_eqb end 0 (λ z. omega (arith, z, e, h)) in
    rw (some, past_is xs k, there)

-- At k past the end it is what the Rust resolves to there.
pub lead_settled : (p k : ℕ) (xs : List Slot) (end : ℕ) → 0 < k → end ≡ p + length xs + k → lead end p xs ≡ settled k xs
unfolding lead led settled
lead_settled p k [] end h e = refl
lead_settled p k (fixed i ∷ xs) end h e = ap (λ (ys : List Slot). fixed i ∷ ys) (lead_settled (suc p) k xs end h (omega arith))
lead_settled p k (success i ∷ xs) end h e = ap (λ (ys : List Slot). success i ∷ ys) (lead_settled (suc p) k xs end h (omega arith))
lead_settled p k (failure i ∷ xs) end h e =
    ap (λ (y : Slot). y ∷ lead end (suc p) xs) (led_past p k i xs end h e)
    ∙ ap (λ (ys : List Slot). fixed (with_off (past xs k) i) ∷ ys) (lead_settled (suc p) k xs end h (omega arith))

-- The next place after a piece whose failures lead somewhere.
pub pos_to : (end p : ℕ) (xs : List Slot) (e e1 : Emission) → e1 ≡ block (lead end p xs) e → e1.patches.pos ≡ e.patches.pos + length xs
pos_to end p xs e e1 h = pos_of (lead end p xs) e e1 h ∙ ap (λ (n : ℕ). e.patches.pos + n) (lead_length end p xs)

-- Room without a place to lead to, and room where all stays open.
pub fits : (end : ℕ) (xs : List Slot) (st : Patches) → Leads end xs st → Fits xs st
fits end xs st f = record { room = f.room }

pub opens : (xs : List Slot) (st : Patches) → Fits xs st → Leads 0 xs st
opens xs st f = record { room = f.room; near = omega arith }

pub opened : (p : ℕ) (xs : List Slot) (e e1 : Emission) → e1 ≡ block (lead 0 p xs) e → e1 ≡ block xs e
opened p xs e e1 h = h ∙ ap (λ (ys : List Slot). block ys e) (lead_none p xs)

-- The room for the first of two pieces, and for the second once the first is written.
pub first_to : (end : ℕ) (xs ys : List Slot) (st : Patches) → Leads end (xs ++ ys) st → Leads end xs st
first_to end xs ys st f = record { room = omega (arith, simp length-append at f.room); near = f.near }

pub second_to : (end : ℕ) (xs ys : List Slot) (c c1 : Codegen)
    → Leads end (xs ++ ys) c.patches → emission c1 ≡ block (lead end c.patches.pos xs) (emission c) → Leads end ys c1.patches
unfolding emission
second_to end xs ys c c1 f e =
    let at : c1.patches.pos ≡ c.patches.pos + length xs = pos_to end c.patches.pos xs (emission c) (emission c1) e in
    record { room = omega (arith, simp length-append at f.room, at); near = omega (arith, f.near, at) }

-- The same for one instruction and what follows it.
pub head_to : (end : ℕ) (x y : Slot) (ys : List Slot) (st : Patches) → Leads end (x ∷ ys) st → Leads end (y ∷ []) st
head_to end x y ys st f = record { room = omega (arith, f.room); near = f.near }

pub room_to : (end : ℕ) (x : Slot) (ys : List Slot) (st : Patches) → Leads end (x ∷ ys) st → Room 1 st
room_to end x ys st f = omega (arith, f.room)

pub mode_to : (end p : ℕ) (xs : List Slot) (c c1 : Codegen) → emission c1 ≡ block (lead end p xs) (emission c) → c1.mode ≡ c.mode
mode_to end p xs c c1 e = mode_of (lead end p xs) c c1 e

pub tail_to : (end : ℕ) (x : Slot) (ys : List Slot) (c c1 : Codegen)
    → Leads end (x ∷ ys) c.patches → emission c1 ≡ push1 (led end c.patches.pos x) (emission c) → Leads end ys c1.patches
unfolding emission block
tail_to end x ys c c1 f e =
    let at : c1.patches.pos ≡ c.patches.pos + 1 = pos_of (led end c.patches.pos x ∷ []) (emission c) (emission c1) e in
    record { room = omega (arith, f.room, at); near = omega (arith, f.near, at) }

-- What two pieces come to, and one instruction and what follows it.
pub then_to : (end : ℕ) (xs ys : List Slot) (c c1 : Codegen) (e2 : Emission)
    → emission c1 ≡ block (lead end c.patches.pos xs) (emission c) → e2 ≡ block (lead end c1.patches.pos ys) (emission c1)
    → e2 ≡ block (lead end c.patches.pos (xs ++ ys)) (emission c)
unfolding emission
then_to end xs ys c c1 e2 h k =
    let at : c1.patches.pos ≡ c.patches.pos + length xs = pos_to end c.patches.pos xs (emission c) (emission c1) h in
    then (lead end c.patches.pos xs) (lead end (c.patches.pos + length xs) ys) (emission c) (emission c1) e2 h (k ∙ ap (λ (q : ℕ). block (lead end q ys) (emission c1)) at)
    ∙ ap (λ (zs : List Slot). block zs (emission c)) (sym (lead_append end c.patches.pos xs ys))

pub step_to : (end : ℕ) (x : Slot) (ys : List Slot) (c c1 : Codegen) (e2 : Emission)
    → emission c1 ≡ push1 (led end c.patches.pos x) (emission c) → e2 ≡ block (lead end c1.patches.pos ys) (emission c1)
    → e2 ≡ block (lead end c.patches.pos (x ∷ ys)) (emission c)
unfolding emission block lead
step_to end x ys c c1 e2 h k =
    let at : c1.patches.pos ≡ suc c.patches.pos = pos_of (led end c.patches.pos x ∷ []) (emission c) (emission c1) h ∙ omega arith in
    step (led end c.patches.pos x) (lead end (suc c.patches.pos) ys) (emission c) (emission c1) e2 h (k ∙ ap (λ (q : ℕ). block (lead end q ys) (emission c1)) at)

pub one_to : (end p : ℕ) (x : Slot) (e e1 : Emission) → e1 ≡ push1 (led end p x) e → e1 ≡ block (lead end p (x ∷ [])) e
unfolding block lead
one_to end p x e e1 h = h

-- A load has no failure.
pub load_to : (end p : ℕ) (size : AccessSize) (base off : ℕ) → lead end p (load size base off) ≡ load size base off
unfolding lead led load
load_to end p Byte base off = refl
load_to end p Half base off = refl
load_to end p Word base off = refl

pub loaded : (end p : ℕ) (size : AccessSize) (base off : ℕ) (e e1 : Emission) → e1 ≡ block (load size base off) e → e1 ≡ block (lead end p (load size base off)) e
loaded end p size base off e e1 h = h ∙ ap (λ (xs : List Slot). block xs e) (sym (load_to end p size base off))

-- `one_of`: the room for the first check, for the JA behind it and for the second check.
module _ (xs ys : List Slot) where
  pub either_first : (end : ℕ) (st : Patches) → end ≡ st.pos + length xs + 1 → length xs < 65536 → Fits (one_of xs ys) st → Leads end xs st
  unfolding one_of
  either_first end st e n f = record { room = omega (arith, simp (length-append, settled_length 1 xs) at f.room); near = omega (arith, e, n) }

  pub either_over : (end : ℕ) (c c1 : Codegen) → Fits (one_of xs ys) c.patches
      → emission c1 ≡ block (lead end c.patches.pos xs) (emission c) → Room 1 c1.patches
  unfolding emission one_of
  either_over end c c1 f h =
      omega (arith, simp (length-append, settled_length 1 xs) at f.room, pos_to end c.patches.pos xs (emission c) (emission c1) h)

  pub either_second : (end : ℕ) (c c1 c2 : Codegen) → Fits (one_of xs ys) c.patches
      → emission c1 ≡ block (lead end c.patches.pos xs) (emission c) → emission c2 ≡ push1 (success (jump_always 0)) (emission c1) → Leads 0 ys c2.patches
  unfolding emission one_of block
  either_second end c c1 c2 f h k =
      let at : c1.patches.pos ≡ c.patches.pos + length xs = pos_to end c.patches.pos xs (emission c) (emission c1) h in
      let next : c2.patches.pos ≡ c1.patches.pos + 1 = pos_of (success (jump_always 0) ∷ []) (emission c1) (emission c2) k in
      record { room = omega (arith, simp (length-append, settled_length 1 xs) at f.room, at, next); near = omega arith }

  -- The first check, its failures leading behind the JA, the JA and the second check.
  pub either : (end : ℕ) (c c1 : Codegen) (e2 : Emission) (p : ℕ) (e3 : Emission) → end ≡ c.patches.pos + length xs + 1
      → emission c1 ≡ block (lead end c.patches.pos xs) (emission c) → e2 ≡ push1 (success (jump_always 0)) (emission c1) → e3 ≡ block (lead 0 p ys) e2
      → e3 ≡ block (one_of xs ys) (emission c)
  unfolding emission one_of
  either end c c1 e2 p e3 e h k l =
      then (settled 1 xs) (success (jump_always 0) ∷ ys) (emission c) (emission c1) e3
      (h ∙ ap (λ (zs : List Slot). block zs (emission c)) (lead_settled c.patches.pos 1 xs end (omega arith) e))
      (step (success (jump_always 0)) ys (emission c1) e2 e3 k (opened p ys e2 e3 l))
