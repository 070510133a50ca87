-- The code of a tree, by the tree: each operand's code with its open jumps led on as `emit_expr` does, and the whole program as `compile` makes it.
use Rattle.std.specs.Prelude.{ℕ, ◌+◌, List, [], ◌∷◌, ◌++◌}
use Rattle.ebpf.specs.Opcode.{MOV, WORD}
use Rattle.ebpf.specs.Insn.{alu64_imm, ldx, jump_always, exit_insn}
use Rattle.ebpf.specs.declared.insn.Insn.{Insn}
use Rattle.tree.specs.Tree.{Tree, leaf, and, or, inv, leaves}
use Rattle.patches.specs.Code.{Slot, with_off}
use Rattle.patches.specs.Code.Slot.{fixed, success, failure}
use Rattle.pieces.specs.Fragments.{past, settled, one_of}
use Rattle.sound.specs.Filled.{filled}

-- `resolve_all(success)`: the open successes lead k instructions past the end of the piece.
unfoldable pub landed : ℕ → List Slot → List Slot
landed k [] = []
landed k (fixed i ∷ xs) = fixed i ∷ landed k xs
landed k (success i ∷ xs) = fixed (with_off (past xs k) i) ∷ landed k xs
landed k (failure i ∷ xs) = failure i ∷ landed k xs

-- NOT: "inner success .. are NOT's failure".
unfoldable pub swapped : List Slot → List Slot
swapped [] = []
swapped (fixed i ∷ xs) = fixed i ∷ swapped xs
swapped (success i ∷ xs) = failure i ∷ swapped xs
swapped (failure i ∷ xs) = success i ∷ swapped xs

-- "AND: left falls through to right on success."
unfoldable pub both_of : List Slot → List Slot → List Slot
both_of first second = landed 0 first ++ second

-- "NOT: inner failure is NOT's success; inner success and a JA after the inner fall-through are NOT's failure."
unfoldable pub none_of : List Slot → List Slot
none_of xs = swapped (settled 1 xs) ++ (failure (jump_always 0) ∷ [])

-- A tree whose first primitive has number k, when primitive i has the code `prim i`; OR is `one_of`.
unfoldable pub tree_code : (ℕ → List Slot) → Tree → ℕ → List Slot
tree_code prim leaf k = prim k
tree_code prim (and a b) k = both_of (tree_code prim a k) (tree_code prim b (k + leaves a))
tree_code prim (or a b) k = one_of (tree_code prim a k) (tree_code prim b (k + leaves a))
tree_code prim (inv a) k = none_of (tree_code prim a k)

-- "accept: r0 = XDP_PASS; exit", "drop: r0 = XDP_DROP; exit".
unfoldable pub epilogue : List Insn
epilogue = alu64_imm MOV 0 2 ∷ exit_insn ∷ alu64_imm MOV 0 1 ∷ exit_insn ∷ []

-- `compile`: "prologue: r2 = data; r3 = data_end", the filter, whose successes lead to accept and whose failures lead to drop.
unfoldable pub program : List Slot → List Insn
program xs = ldx WORD 2 1 0 ∷ ldx WORD 3 1 4 ∷ (filled 0 2 xs ++ epilogue)
