-- THEOREM: the code of a tree means what the tree says of its primitives; and the program ends with the verdict.
use Prim.Native.Nat.{ℕ, suc, ◌+◌, ◌<◌, ◌≤◌}
use mathlib.Core.Path.{◌≡◌, refl, ap}
use mathlib.Core.Bool.{Bool, not, cond, ◌&&◌, ◌||◌}
use mathlib.Core.List.{List, [], ◌∷◌, ◌++◌}
use native.Mathlib.Omega.{arith}
use Rattle.ebpf.specs.Insn.{jump_always}
use Rattle.ebpf.specs.Regs.{fresh}
use Rattle.tree.specs.Tree.{Tree, leaf, and, or, inv, leaves, holds}
use Rattle.patches.specs.Code.{Slot}
use Rattle.patches.specs.Code.Slot.{fixed, success, failure}
use Rattle.pieces.specs.Fragments.{past, settled}
use Rattle.program.specs.Ends.{Ends, Frame}
use Rattle.program.proofs.Registers.{r0}
use Rattle.program.proofs.Steps.{on_skip, on_ja, on_mov_imm, on_exit}
use Rattle.program.proofs.Whole.{on_prologue}
use Rattle.sound.specs.Filled.{filled}
use Rattle.sound.specs.Piece.{nothing, Goes, Means}
use Rattle.sound.specs.Trees.{landed, swapped, both_of, none_of, tree_code, epilogue, program}
use Rattle.sound.proofs.Filled.{filled_then, on_past, off_always}
use Rattle.sound.proofs.Pieces.{either}

pub past_landed : (k : ℕ) (xs : List Slot) (b : ℕ) → past (landed k xs) b ≡ past xs b
unfolding past landed
past_landed k [] b = refl
past_landed k (fixed i ∷ xs) b = ap suc (past_landed k xs b)
past_landed k (success i ∷ xs) b = ap suc (past_landed k xs b)
past_landed k (failure i ∷ xs) b = ap suc (past_landed k xs b)

filled_landed : (a b k : ℕ) (xs : List Slot) → filled a b (landed k xs) ≡ filled k b xs
unfolding filled landed
filled_landed a b k [] = refl
filled_landed a b k (fixed i ∷ xs) = rw (filled_landed a b k xs)
filled_landed a b k (success i ∷ xs) = rw (filled_landed a b k xs)
filled_landed a b k (failure i ∷ xs) = rw (filled_landed a b k xs, past_landed k xs b)

-- Where a turned piece's failures lead, the piece's own successes do.
past_swapped : (k : ℕ) (xs : List Slot) (b : ℕ) → past (swapped (settled k xs)) b ≡ past xs b
unfolding past swapped settled
past_swapped k [] b = refl
past_swapped k (fixed i ∷ xs) b = ap suc (past_swapped k xs b)
past_swapped k (success i ∷ xs) b = ap suc (past_swapped k xs b)
past_swapped k (failure i ∷ xs) b = ap suc (past_swapped k xs b)

filled_swapped : (a b k : ℕ) (xs : List Slot) → filled a b (swapped (settled k xs)) ≡ filled b k xs
unfolding filled swapped settled
filled_swapped a b k [] = refl
filled_swapped a b k (fixed i ∷ xs) = rw (filled_swapped a b k xs)
filled_swapped a b k (success i ∷ xs) = rw (filled_swapped a b k xs, past_swapped k xs b)
filled_swapped a b k (failure i ∷ xs) = rw (filled_swapped a b k xs)

module _ {frame : List ℕ} {start : ℕ} where
  pub and_means : {xs ys : List Slot} {p q : Bool} → Means frame start xs p → Means frame start ys q → Means frame start (both_of xs ys) (p && q)
  unfolding both_of
  and_means {xs} {ys} {p} {q} m n =
      record {
        runs = λ v a b rest h h'. rw (filled_then a b (landed 0 xs) ys rest, filled_landed (past ys a) (past ys b) 0 xs)
            (m.runs v 0 (past ys b) (filled a b ys ++ rest)
            (λ t. let next = n.runs v a b rest (λ u. h (rw (t, u))) (λ u. h' (rw (t, u))) in (next, next))
            (λ t c0 c4 c5 c6 k. on_past a b ys (h' (rw t) c0 c4 c5 c6 k)));
      }

  pub not_means : {xs : List Slot} {p : Bool} → Means frame start xs p → Means frame start (none_of xs) (not p)
  unfolding none_of filled past
  not_means {xs} {p} m =
      record {
        runs = λ v a b rest h h'.
            let last : List Slot = failure (jump_always 0) ∷ [] in
            rw (filled_then a b (swapped (settled 1 xs)) last rest, filled_swapped (past last a) (past last b) 1 xs, off_always b)
            (m.runs v (past last b) 1 (jump_always b ∷ rest)
            (λ t. (λ c0 c4 c5 c6 k. on_ja (h' (rw t) c0 c4 c5 c6 k), λ c0 c4 c5 c6 k. on_skip (h' (rw t) c0 c4 c5 c6 k)))
            (λ t c0 c4 c5 c6 k. on_skip ((h (rw t)).0 c0 c4 c5 c6 k)));
      }

  -- THEOREM: "And, Or, Not as in logic", where every primitive of the tree means its verdict.
  pub tree_means : (prim : ℕ → List Slot) (verdict : ℕ → Bool) (t : Tree) (k : ℕ)
      → ((i : ℕ) → k ≤ i → i < k + leaves t → Means frame start (prim i) (verdict i))
      → Means frame start (tree_code prim t k) (holds verdict t k)
  unfolding tree_code holds leaves
  tree_means prim verdict leaf k m = m k (omega arith) (omega arith)
  tree_means prim verdict (and a b) k m =
      and_means (tree_means prim verdict a k (λ i l l'. m i l (omega arith)))
      (tree_means prim verdict b (k + leaves a) (λ i l l'. m i (omega arith) (omega arith)))
  tree_means prim verdict (or a b) k m =
      either (tree_means prim verdict a k (λ i l l'. m i l (omega arith)))
      (tree_means prim verdict b (k + leaves a) (λ i l l'. m i (omega arith) (omega arith)))
  tree_means prim verdict (inv a) k m = not_means (tree_means prim verdict a k m)

  -- Where every primitive decides something, so does the tree.
  pub tree_decides : (prim : ℕ → List Slot) (t : Tree) (k : ℕ)
      → ((i : ℕ) → k ≤ i → i < k + leaves t → (q : Bool) × Means frame start (prim i) q)
      → (q : Bool) × Means frame start (tree_code prim t k) q
  unfolding tree_code leaves
  tree_decides prim leaf k m = m k (omega arith) (omega arith)
  tree_decides prim (and a b) k m =
      let left = tree_decides prim a k (λ i l l'. m i l (omega arith)) in
      let right = tree_decides prim b (k + leaves a) (λ i l l'. m i (omega arith) (omega arith)) in
      (left.0 && right.0, and_means left.1 right.1)
  tree_decides prim (or a b) k m =
      let left = tree_decides prim a k (λ i l l'. m i l (omega arith)) in
      let right = tree_decides prim b (k + leaves a) (λ i l l'. m i (omega arith) (omega arith)) in
      (left.0 || right.0, either left.1 right.1)
  tree_decides prim (inv a) k m = let inner = tree_decides prim a k m in (not inner.0, not_means inner.1)

  -- THEOREM: a program ends with 2, pass, where its filter holds, and with 1, drop, where not.
  pub program_ends : {xs : List Slot} {p : Bool} → Frame frame start → Means frame start xs p
      → Ends frame start (cond p 2 1) 0 (program xs) fresh
  unfolding program epilogue
  program_ends {xs} {p} w m =
      on_prologue w (λ c0 c4 c5 c6. m.runs (cond p 2 1) 0 2 epilogue
      (λ t. let pass : Goes frame start nothing (cond p 2 1) 0 epilogue = λ c0 c4 c5 c6 k. rw t (on_mov_imm r0 (omega arith) (on_exit r0)) in (pass, pass))
      (λ t c0 c4 c5 c6 k. rw t (on_skip (on_skip (on_mov_imm r0 (omega arith) (on_exit r0))))) c0 c4 c5 c6 (tt, tt))
