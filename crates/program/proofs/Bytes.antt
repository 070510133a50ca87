-- The bytes of a list of instructions: eight for each, and the k-th instruction is read back from the k-th eight.
use Prim.Native.Nat.{ℕ, zero, suc, ◌*◌, ◌^◌, ◌<◌}
use mathlib.Core.Path.{◌≡◌, refl, ◌∙◌}
use mathlib.Core.List.{List, [], ◌∷◌}
use native.Mathlib.Omega.{arith}
use native.Mathlib.Numerals.{towards_suc}
use lib.ListN.{length, get_or}
use Rattle.ebpf.specs.Insn.{new, to_le_bytes, insn_at, exit_insn}
use Rattle.ebpf.proofs.Coding.{split16, split32}
use Rattle.ebpf.specs.declared.insn.Insn.{Insn}
use Rattle.program.specs.Program.{code_of, Fit, Fits, none, one}

-- An instruction put together by `new` fits by its offset and its immediate.
pub fits_new : {rest : List Insn} (code dst src off imm : ℕ) → off < 2 ^ 15 → imm < 2 ^ 32
    → Fits rest → Fits (new code dst src off imm ∷ rest)
unfolding new
fits_new code dst src off imm o i fs = one (record { off15 = o; imm32 = i }) fs

pub code_length : (is : List Insn) → length (code_of is) ≡ 8 * length is
unfolding code_of to_le_bytes
code_length [] = refl
code_length (i ∷ rest) = omega (arith, code_length rest)

read_first : (i : Insn) (rest : List Insn) → Fit i → insn_at (code_of (i ∷ rest)) 0 ≡ i
unfolding code_of to_le_bytes insn_at
read_first i rest f =
    let off16 : i.off < 2 ^ 16 = omega (arith, f.off15) in
    rw (split16 i.off off16, split32 i.imm f.imm32)

read_later : (i : Insn) (rest : List Insn) (k : ℕ) → insn_at (code_of (i ∷ rest)) (8 * suc k) ≡ insn_at (code_of rest) (8 * k)
unfolding code_of to_le_bytes insn_at
read_later i rest k =
    let e : 8 * suc k ≡ suc (suc (suc (suc (suc (suc (suc (suc (8 * k)))))))) = omega arith in
    simp (e, towards_suc)

-- THEOREM: the instruction read at place k of the bytes is the k-th of the list.
pub insn_read : {is : List Insn} → Fits is → (k : ℕ) → k < length is → insn_at (code_of is) (8 * k) ≡ get_or is k exit_insn
insn_read none k h = absurd (omega arith)
insn_read (one {i} {rest} f fs) zero h = read_first i rest f
insn_read (one {i} {rest} f fs) (suc k) h = read_later i rest k ∙ insn_read fs k (omega arith)
