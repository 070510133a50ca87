-- Code whose instructions fit: immediates of 32 bits, and distances that count forward.
use Rattle.std.specs.Prelude.{ℕ, ◌+◌, ◌^◌, ◌<◌, List, [], ◌∷◌}
use Rattle.ebpf.specs.declared.insn.Insn.{Insn}
use Rattle.tree.specs.Tree.{Tree, leaf, and, or, inv, leaves}
use Rattle.patches.specs.Code.{Slot}
use Rattle.patches.specs.Code.Slot.{fixed, success, failure}
use Rattle.pieces.specs.Fragments.{past}
use Rattle.program.specs.Program.{Fit}
use Rattle.sound.specs.Trees.{tree_code}

-- A whole instruction fits; of an open jump, whose distance is yet to be set, the immediate does.
pub data FitSlots : List Slot → Type 0 where
  no_slots : FitSlots []
  fit_fixed : {i : Insn} {xs : List Slot} → Fit i → FitSlots xs → FitSlots (fixed i ∷ xs)
  fit_success : {i : Insn} {xs : List Slot} → i.imm < 2 ^ 32 → FitSlots xs → FitSlots (success i ∷ xs)
  fit_failure : {i : Insn} {xs : List Slot} → i.imm < 2 ^ 32 → FitSlots xs → FitSlots (failure i ∷ xs)

-- Refusal 10 does not meet `resolve_all` of the successes, led k instructions past the end: no "jump distance above 32767".
abbrev pub SuccessNear : ℕ → List Slot → Type 0
SuccessNear k [] = Unit {0}
SuccessNear k (fixed i ∷ xs) = SuccessNear k xs
SuccessNear k (success i ∷ xs) = (past xs k < 2 ^ 15) × SuccessNear k xs
SuccessNear k (failure i ∷ xs) = SuccessNear k xs

-- The same of the failures.
abbrev pub FailureNear : ℕ → List Slot → Type 0
FailureNear k [] = Unit {0}
FailureNear k (fixed i ∷ xs) = FailureNear k xs
FailureNear k (success i ∷ xs) = FailureNear k xs
FailureNear k (failure i ∷ xs) = (past xs k < 2 ^ 15) × FailureNear k xs

-- Refusal 10 meets no `resolve_all` of `emit_expr`: And leads its left operand's successes to the right one, Or its failures, Not its failures past the JA.
abbrev pub TreeNear : (ℕ → List Slot) → Tree → ℕ → Type 0
TreeNear prim leaf k = Unit {0}
TreeNear prim (and a b) k = TreeNear prim a k × SuccessNear 0 (tree_code prim a k) × TreeNear prim b (k + leaves a)
TreeNear prim (or a b) k = TreeNear prim a k × FailureNear 1 (tree_code prim a k) × TreeNear prim b (k + leaves a)
TreeNear prim (inv a) k = TreeNear prim a k × FailureNear 1 (tree_code prim a k)
