-- Pieces one after the other: where their jumps lead, and how a piece is jumped over.
use Prim.Native.Nat.{ℕ, suc}
use mathlib.Core.Path.{◌≡◌, refl, ap}
use mathlib.Core.List.{List, [], ◌∷◌, ◌++◌, append_assoc}
use Rattle.ebpf.specs.Insn.{new, jump_imm, jump_reg, jump_always}
use Rattle.ebpf.specs.declared.insn.Insn.{Insn}
use Rattle.ebpf.specs.declared.regs.Regs.{Regs}
use Rattle.patches.specs.Code.{Slot, with_off}
use Rattle.patches.specs.Code.Slot.{fixed, success, failure}
use Rattle.pieces.specs.Fragments.{past, settled}
use Rattle.program.specs.Ends.{Ends}
use Rattle.program.proofs.Steps.{on_skip}
use Rattle.sound.specs.Filled.{filled}

pub past_append : (xs ys : List Slot) (k : ℕ) → past (xs ++ ys) k ≡ past xs (past ys k)
unfolding past
past_append [] ys k = refl
past_append (x ∷ xs) ys k = ap suc (past_append xs ys k)

pub filled_append : (a b : ℕ) (xs ys : List Slot) → filled a b (xs ++ ys) ≡ filled (past ys a) (past ys b) xs ++ filled a b ys
unfolding filled
filled_append a b [] ys = refl
filled_append a b (fixed i ∷ xs) ys = rw (filled_append a b xs ys)
filled_append a b (success i ∷ xs) ys = rw (filled_append a b xs ys, past_append xs ys a)
filled_append a b (failure i ∷ xs) ys = rw (filled_append a b xs ys, past_append xs ys b)

-- A piece of two parts, and what follows.
pub filled_then : (a b : ℕ) (xs ys : List Slot) (rest : List Insn)
    → filled a b (xs ++ ys) ++ rest ≡ filled (past ys a) (past ys b) xs ++ (filled a b ys ++ rest)
filled_then a b xs ys rest = rw (filled_append a b xs ys, append_assoc (filled (past ys a) (past ys b) xs) (filled a b ys) rest)

pub past_settled : (k : ℕ) (xs : List Slot) (a : ℕ) → past (settled k xs) a ≡ past xs a
unfolding past settled
past_settled k [] a = refl
past_settled k (fixed i ∷ xs) a = ap suc (past_settled k xs a)
past_settled k (success i ∷ xs) a = ap suc (past_settled k xs a)
past_settled k (failure i ∷ xs) a = ap suc (past_settled k xs a)

-- Settled failures do not ask where failures lead.
pub filled_settled : (a b k : ℕ) (xs : List Slot) → filled a b (settled k xs) ≡ filled a k xs
unfolding filled settled
filled_settled a b k [] = refl
filled_settled a b k (fixed i ∷ xs) = rw (filled_settled a b k xs)
filled_settled a b k (success i ∷ xs) = rw (filled_settled a b k xs, past_settled k xs a)
filled_settled a b k (failure i ∷ xs) = rw (filled_settled a b k xs)

-- A piece that is jumped over.
pub on_past : {frame : List ℕ} {start v k : ℕ} {rest : List Insn} {r : Regs} (a b : ℕ) (xs : List Slot) → Ends frame start v k rest r
    → Ends frame start v (past xs k) (filled a b xs ++ rest) r
unfolding past filled
on_past a b [] h = h
on_past a b (fixed i ∷ xs) h = on_skip (on_past a b xs h)
on_past a b (success i ∷ xs) h = on_skip (on_past a b xs h)
on_past a b (failure i ∷ xs) h = on_skip (on_past a b xs h)

-- The distance of each jump is what it is set to.
pub off_imm : (d class operation dst imm : ℕ) → with_off d (jump_imm class operation dst imm 0) ≡ jump_imm class operation dst imm d
unfolding with_off new
off_imm d class operation dst imm = refl

pub off_reg : (d operation dst src : ℕ) → with_off d (jump_reg operation dst src 0) ≡ jump_reg operation dst src d
unfolding with_off new
off_reg d operation dst src = refl

pub off_always : (d : ℕ) → with_off d (jump_always 0) ≡ jump_always d
unfolding with_off new
off_always d = refl
