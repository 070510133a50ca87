-- A piece of code with its open jumps filled in.
use Rattle.std.specs.Prelude.{ℕ, List, [], ◌∷◌}
use Rattle.ebpf.specs.declared.insn.Insn.{Insn}
use Rattle.patches.specs.Code.{Slot, with_off}
use Rattle.patches.specs.Code.Slot.{fixed, success, failure}
use Rattle.pieces.specs.Fragments.{past}

-- Successes lead a instructions past the end of the piece, failures b.
unfoldable pub filled : ℕ → ℕ → List Slot → List Insn
filled a b [] = []
filled a b (fixed i ∷ xs) = i ∷ filled a b xs
filled a b (success i ∷ xs) = with_off (past xs a) i ∷ filled a b xs
filled a b (failure i ∷ xs) = with_off (past xs b) i ∷ filled a b xs
