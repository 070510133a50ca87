-- Small programs, worked out by computation: primitive k is one jump, "R4 is not k", open on failure.
use Prim.Native.Nat.{ℕ, zero, suc, ◌+◌}
use mathlib.Core.Path.{◌≡◌, refl}
use mathlib.Core.List.{List, [], ◌∷◌, ◌++◌}
use mathlib.Core.Bool.{cond}
use lib.Dec.{eqb}
use Rattle.ebpf.specs.Opcode.{JMP, JNE, JGT, MOV, ADD, WORD, HALF}
use Rattle.ebpf.specs.Insn.{new, ldx, to_be, alu64_reg, alu64_imm, jump_reg, jump_imm, jump_always, exit_insn, stored_at, to_le_bytes}
use Rattle.ebpf.specs.declared.insn.Insn.{Insn}
use Rattle.ebpf.proofs.Examples.{k2_insns, k2}
use Rattle.tree.specs.Tree.Tree.{leaf, and, or, inv}
use Rattle.std.specs.Prelude.{Ok, Err}
use Rattle.patches.specs.Chain.{too_far, reach, resolved, put_off}
use Rattle.patches.specs.Code.{Slot, put_insn, outs, successes, failures}
use Rattle.patches.specs.Code.Slot.{fixed, failure}
use Rattle.patches.specs.Finish.{finish_ops}
use Rattle.patches.specs.Machine.{Tpl, emit_leaf, run}
use Rattle.patches.specs.Machine.Tpl.{code, refused}
use Rattle.patches.specs.Whole.{prologue, epilogue, ended, compiled}
use Rattle.patches.specs.Whole.Comp.{made}
use Rattle.patches.specs.Listing.{set_off, resolved_l, listed, emit_l, ended_l, compile_l}
use Rattle.patches.specs.Listing.CompL.{stopped_l, made_l}

abbrev jne : ℕ → ℕ → Insn
jne k off = jump_imm JMP JNE 4 k off

abbrev one : ℕ → Tpl
one k = code (failure (jne k 0) ∷ [])

-- A program is the prologue, what is between, and the two exits.
abbrev between : List Insn → List Insn
between [] = alu64_imm MOV 0 2 ∷ exit_insn ∷ alu64_imm MOV 0 1 ∷ exit_insn ∷ []
between (i ∷ is) = i ∷ between is

abbrev framed : List Insn → List Insn
framed is = ldx WORD 2 1 0 ∷ ldx WORD 3 1 4 ∷ between is

and_program : compile_l one (and leaf leaf) ≡ made_l (framed (jne 0 3 ∷ jne 1 2 ∷ []))
unfolding compile_l emit_l listed prologue epilogue ended_l resolved_l set_off reach successes failures new
and_program = refl

or_program : compile_l one (or leaf leaf) ≡ made_l (framed (jne 0 1 ∷ jump_always 1 ∷ jne 1 2 ∷ []))
unfolding compile_l emit_l listed prologue epilogue ended_l resolved_l set_off reach successes failures new
or_program = refl

not_program : compile_l one (inv leaf) ≡ made_l (framed (jne 0 1 ∷ jump_always 2 ∷ []))
unfolding compile_l emit_l listed prologue epilogue ended_l resolved_l set_off reach successes failures new
not_program = refl

-- "jump distance above 32767": from place 0 to 32768, and one further.
as_far : reach 32768 (0 ∷ []) ≡ Ok tt
unfolding reach
as_far = refl

beyond : reach 32769 (0 ∷ []) ≡ Err too_far
unfolding reach
beyond = refl

-- "Of 10 to 19 the one the Rust meets first is given", with the number of its primitive.
first_refused : compile_l (λ k. cond (eqb k 0) (one k) (refused (15 + k))) (or leaf (and leaf leaf)) ≡ stopped_l 16 1
unfolding compile_l emit_l listed prologue resolved_l set_off reach successes failures new
first_refused = refl

-- Document 01's K2, `ip` on Ethernet, byte for byte; the bytes behind the program stay.
abbrev ip : List Slot
ip =
    fixed (alu64_reg MOV 5 2) ∷ fixed (alu64_imm ADD 5 14) ∷ failure (jump_reg JGT 5 3 0)
    ∷ fixed (ldx HALF 4 2 12) ∷ fixed (to_be 16 4) ∷ failure (jne 0x0800 0) ∷ []

k2_listed : compile_l (λ k. code ip) leaf ≡ made_l k2_insns
unfolding compile_l emit_l listed prologue epilogue ended_l resolved_l set_off reach successes failures new
k2_listed = refl

abbrev nines : ℕ → List ℕ
nines zero = []
nines (suc n) = 9 ∷ nines n

k2_bytes : compiled (λ k. code ip) (0 ∷ []) (nines 98) ≡ made (k2 ++ nines 2)
unfolding compiled run emit_leaf finish_ops outs put_insn stored_at to_le_bytes prologue epilogue ended resolved put_off reach successes failures new
k2_bytes = refl
