-- THEOREM: the program of a checked sheet has L instructions.
use Prim.Native.Nat.{ℕ, suc, ◌+◌, ◌*◌, ◌<◌, ◌≤◌}
use mathlib.Core.Path.{◌≡◌, refl, sym, ap, ◌∙◌}
use mathlib.Core.List.{List, [], ◌∷◌}
use native.Mathlib.Omega.{arith}
use lib.ListN.{length, length-append}
use lib.Seq.{take_all}
use Rattle.ebpf.specs.Insn.{jump_always}
use Rattle.tree.specs.Tree.{Tree, leaf, and, or, inv, leaves, jumps, tree_of}
use Rattle.tree.specs.Tokens.{count, is_jump}
use Rattle.tree.proofs.Counts.{count_jumps}
use Rattle.patches.specs.Code.{Slot}
use Rattle.patches.specs.Code.Slot.{fixed, success, failure}
use Rattle.pieces.specs.Fragments.{settled, one_of}
use Rattle.filter.specs.Record.{decode_at}
use Rattle.filter.specs.declared.ast.LinkType.{LinkType}
use Rattle.checks.specs.Check.{steps_before}
use Rattle.checks.specs.Length.{count_of, size_of, size_at, sizes_of, program_length}
use Rattle.checks.specs.Refusal.{refusal_at}
use Rattle.sound.specs.Filled.{filled}
use Rattle.sound.specs.Trees.{landed, swapped, both_of, none_of, tree_code, epilogue, program}
use Rattle.sound.specs.Sheets.{primitive_code, sheet_code, Allowed}
use Rattle.pieces.proofs.Leading.{settled_length}
use Rattle.codegen.proofs.Sizes.{primitive_length}

pub length_landed : (k : ℕ) (xs : List Slot) → length (landed k xs) ≡ length xs
unfolding landed
length_landed k [] = refl
length_landed k (fixed i ∷ xs) = ap suc (length_landed k xs)
length_landed k (success i ∷ xs) = ap suc (length_landed k xs)
length_landed k (failure i ∷ xs) = ap suc (length_landed k xs)

pub length_swapped : (xs : List Slot) → length (swapped xs) ≡ length xs
unfolding swapped
length_swapped [] = refl
length_swapped (fixed i ∷ xs) = ap suc (length_swapped xs)
length_swapped (success i ∷ xs) = ap suc (length_swapped xs)
length_swapped (failure i ∷ xs) = ap suc (length_swapped xs)

length_filled : (a b : ℕ) (xs : List Slot) → length (filled a b xs) ≡ length xs
unfolding filled
length_filled a b [] = refl
length_filled a b (fixed i ∷ xs) = ap suc (length_filled a b xs)
length_filled a b (success i ∷ xs) = ap suc (length_filled a b xs)
length_filled a b (failure i ∷ xs) = ap suc (length_filled a b xs)

and_length : (xs ys : List Slot) → length (both_of xs ys) ≡ length xs + length ys
unfolding both_of
and_length xs ys = length-append (landed 0 xs) ys ∙ ap (λ (n : ℕ). n + length ys) (length_landed 0 xs)

or_length : (xs ys : List Slot) → length (one_of xs ys) ≡ length xs + suc (length ys)
unfolding one_of
or_length xs ys = length-append (settled 1 xs) (success (jump_always 0) ∷ ys) ∙ ap (λ (n : ℕ). n + suc (length ys)) (settled_length 1 xs)

not_length : (xs : List Slot) → length (none_of xs) ≡ length xs + 1
unfolding none_of
not_length xs =
    length-append (swapped (settled 1 xs)) (failure (jump_always 0) ∷ [])
    ∙ ap (λ (n : ℕ). n + 1) (length_swapped (settled 1 xs) ∙ settled_length 1 xs)

-- "one for each Or and Not plus the Rust's count for each primitive": `total i` is what the primitives before i have.
tree_length : (prim : ℕ → List Slot) (total : ℕ → ℕ) (t : Tree) (k : ℕ)
    → ((i : ℕ) → k ≤ i → i < k + leaves t → total (suc i) ≡ total i + length (prim i))
    → length (tree_code prim t k) + total k ≡ total (k + leaves t) + jumps t
unfolding tree_code leaves jumps
tree_length prim total leaf k m =
    let e = m k (omega arith) (omega arith) in
    let s : k + 1 ≡ suc k = omega arith in
    rw s (omega arith)
tree_length prim total (and a b) k m =
    let l = tree_length prim total a k (λ i l l'. m i l (omega arith)) in
    let r = tree_length prim total b (k + leaves a) (λ i l l'. m i (omega arith) (omega arith)) in
    let h = and_length (tree_code prim a k) (tree_code prim b (k + leaves a)) in
    let s : k + (leaves a + leaves b) ≡ k + leaves a + leaves b = omega arith in
    rw s (omega arith)
tree_length prim total (or a b) k m =
    let l = tree_length prim total a k (λ i l l'. m i l (omega arith)) in
    let r = tree_length prim total b (k + leaves a) (λ i l l'. m i (omega arith) (omega arith)) in
    let h = or_length (tree_code prim a k) (tree_code prim b (k + leaves a)) in
    let s : k + (leaves a + leaves b) ≡ k + leaves a + leaves b = omega arith in
    rw s (omega arith)
tree_length prim total (inv a) k m =
    let l = tree_length prim total a k m in
    let h = not_length (tree_code prim a k) in
    omega arith

program_length_lem : (xs : List Slot) → length (program xs) ≡ 6 + length xs
unfolding program epilogue
program_length_lem xs = let h = length-append (filled 0 2 xs) epilogue in let g = length_filled 0 2 xs in omega arith

-- A primitive that is not refused has its count.
counted : (link : LinkType) (steps prims : List ℕ) (i : ℕ) → refusal_at link steps prims i ≡ 0 → size_at link steps prims i ≡ count_of link (decode_at prims (24 * i))
unfolding size_at size_of refusal_at
counted link steps prims i e = rw e

-- THEOREM: "L is 6 plus one for each Or and Not plus the Rust's count for each primitive".
pub sheet_length : (mode : ℕ) {link : LinkType} {steps prims tokens : List ℕ} {b : ℕ} (c : ℕ) → Allowed link steps prims tokens b
    → length tokens ≤ c → length (program (sheet_code mode link steps prims tokens)) ≡ program_length link steps prims tokens b c
unfolding sheet_code primitive_code program_length sizes_of refusal_at
sheet_length mode {link} {steps} {prims} {tokens} {b} c s l =
    let t = tree_of tokens in
    let total : ℕ → ℕ = λ i. sizes_of link steps prims i in
    let e = tree_length (primitive_code mode link steps prims) total t 0
    (λ i l l'. let i-in : i < b = omega (arith, s.whole) in
    ap (λ (n : ℕ). total i + n) (counted link steps prims i (s.not_refused i i-in)
    ∙ sym (primitive_length mode link steps (steps_before prims i) (decode_at prims (24 * i)) (s.not_refused i i-in)))) in
    let j : count is_jump tokens ≡ jumps t = ap (count is_jump) (sym s.one_tree) ∙ count_jumps t in
    let all : 0 + leaves t ≡ b = omega (arith, s.whole) in
    let k : total (0 + leaves t) ≡ total b = ap total all in
    let z : total 0 ≡ 0 = refl in
    rw (program_length_lem (tree_code (primitive_code mode link steps prims) t 0), take_all c tokens l, j) (omega arith)
