-- Fitting code put together, and filled in.
use Prim.Native.Nat.{ℕ, ◌+◌, ◌^◌, ◌<◌, ◌≤◌}
use mathlib.Core.List.{List, [], ◌∷◌, ◌++◌}
use native.Mathlib.Omega.{arith}
use Rattle.ebpf.specs.Insn.{new}
use Rattle.ebpf.specs.declared.insn.Insn.{Insn}
use Rattle.tree.specs.Tree.{Tree, leaf, and, or, inv, leaves}
use Rattle.patches.specs.Code.{Slot, with_off}
use Rattle.patches.specs.Code.Slot.{fixed, success, failure}
use Rattle.pieces.specs.Fragments.{past, settled, one_of}
use Rattle.program.specs.Program.{Fit, Fits, none, one}
use Rattle.program.proofs.Bytes.{fits_new}
use Rattle.sound.specs.Filled.{filled}
use Rattle.sound.specs.Trees.{landed, swapped, both_of, none_of, tree_code, epilogue, program}
use Rattle.sound.specs.Fitting.{FitSlots, no_slots, fit_fixed, fit_success, fit_failure, SuccessNear, FailureNear, TreeNear}

pub fixed_fits : {xs : List Slot} (code dst src off imm : ℕ) → off < 2 ^ 15 → imm < 2 ^ 32 → FitSlots xs
    → FitSlots (fixed (new code dst src off imm) ∷ xs)
unfolding new
fixed_fits code dst src off imm o m fs = fit_fixed (record { off15 = o; imm32 = m }) fs

pub success_fits : {xs : List Slot} (code dst src off imm : ℕ) → imm < 2 ^ 32 → FitSlots xs → FitSlots (success (new code dst src off imm) ∷ xs)
unfolding new
success_fits code dst src off imm m fs = fit_success m fs

pub failure_fits : {xs : List Slot} (code dst src off imm : ℕ) → imm < 2 ^ 32 → FitSlots xs → FitSlots (failure (new code dst src off imm) ∷ xs)
unfolding new
failure_fits code dst src off imm m fs = fit_failure m fs

pub append_fits : {xs ys : List Slot} → FitSlots xs → FitSlots ys → FitSlots (xs ++ ys)
append_fits no_slots gs = gs
append_fits (fit_fixed f fs) gs = fit_fixed f (append_fits fs gs)
append_fits (fit_success m fs) gs = fit_success m (append_fits fs gs)
append_fits (fit_failure m fs) gs = fit_failure m (append_fits fs gs)

-- A distance that is set is one that fits.
set_fits : (d : ℕ) (i : Insn) → d < 2 ^ 15 → i.imm < 2 ^ 32 → Fit (with_off d i)
unfolding with_off
set_fits d i l m = record { off15 = l; imm32 = m }

pub settled_fits : (k : ℕ) {xs : List Slot} → FitSlots xs → FailureNear k xs → FitSlots (settled k xs)
unfolding settled
settled_fits k no_slots n = no_slots
settled_fits k (fit_fixed f fs) n = fit_fixed f (settled_fits k fs n)
settled_fits k (fit_success m fs) n = fit_success m (settled_fits k fs n)
settled_fits k (fit_failure {i} {xs} m fs) n = fit_fixed (set_fits (past xs k) i n.0 m) (settled_fits k fs n.1)

landed_fits : (k : ℕ) {xs : List Slot} → FitSlots xs → SuccessNear k xs → FitSlots (landed k xs)
unfolding landed
landed_fits k no_slots n = no_slots
landed_fits k (fit_fixed f fs) n = fit_fixed f (landed_fits k fs n)
landed_fits k (fit_success {i} {xs} m fs) n = fit_fixed (set_fits (past xs k) i n.0 m) (landed_fits k fs n.1)
landed_fits k (fit_failure m fs) n = fit_failure m (landed_fits k fs n)

swapped_fits : {xs : List Slot} → FitSlots xs → FitSlots (swapped xs)
unfolding swapped
swapped_fits no_slots = no_slots
swapped_fits (fit_fixed f fs) = fit_fixed f (swapped_fits fs)
swapped_fits (fit_success m fs) = fit_failure m (swapped_fits fs)
swapped_fits (fit_failure m fs) = fit_success m (swapped_fits fs)

pub one_of_fits : {xs ys : List Slot} → FitSlots xs → FailureNear 1 xs → FitSlots ys → FitSlots (one_of xs ys)
unfolding one_of
one_of_fits fs n gs = append_fits (settled_fits 1 fs n) (success_fits _ _ _ _ _ (omega arith) gs)

-- In a short piece every failure is near.
pub short_near : (k : ℕ) (xs : List Slot) → past xs k < 2 ^ 15 → FailureNear k xs
unfolding past
short_near k [] l = tt
short_near k (fixed i ∷ xs) l = short_near k xs (omega arith)
short_near k (success i ∷ xs) l = short_near k xs (omega arith)
short_near k (failure i ∷ xs) l = (omega arith, short_near k xs (omega arith))

-- A tree of fitting code whose jumps are near fits.
pub tree_fits : (prim : ℕ → List Slot) (t : Tree) (k : ℕ) → ((i : ℕ) → k ≤ i → i < k + leaves t → FitSlots (prim i)) → TreeNear prim t k
    → FitSlots (tree_code prim t k)
unfolding tree_code leaves both_of none_of
tree_fits prim leaf k f n = f k (omega arith) (omega arith)
tree_fits prim (and a b) k f n =
    append_fits (landed_fits 0 (tree_fits prim a k (λ i l l'. f i l (omega arith)) n.0) n.1)
    (tree_fits prim b (k + leaves a) (λ i l l'. f i (omega arith) (omega arith)) n.2)
tree_fits prim (or a b) k f n =
    one_of_fits (tree_fits prim a k (λ i l l'. f i l (omega arith)) n.0) n.1
    (tree_fits prim b (k + leaves a) (λ i l l'. f i (omega arith) (omega arith)) n.2)
tree_fits prim (inv a) k f n =
    append_fits (swapped_fits (settled_fits 1 (tree_fits prim a k f n.0) n.1)) (failure_fits _ _ _ _ _ (omega arith) no_slots)

-- Filled in, with what follows.
filled_fits : (a b : ℕ) {xs : List Slot} {rest : List Insn} → FitSlots xs → SuccessNear a xs → FailureNear b xs → Fits rest → Fits (filled a b xs ++ rest)
unfolding filled
filled_fits a b no_slots s f rs = rs
filled_fits a b (fit_fixed g fs) s f rs = one g (filled_fits a b fs s f rs)
filled_fits a b (fit_success {i} {xs} m fs) s f rs = one (set_fits (past xs a) i s.0 m) (filled_fits a b fs s.1 f rs)
filled_fits a b (fit_failure {i} {xs} m fs) s f rs = one (set_fits (past xs b) i f.0 m) (filled_fits a b fs s f.1 rs)

-- THEOREM: the program fits, where the last two `resolve_all` are not refused either.
pub program_fits : {xs : List Slot} → FitSlots xs → SuccessNear 0 xs → FailureNear 2 xs → Fits (program xs)
unfolding program epilogue
program_fits fs s f =
    fits_new _ _ _ _ _ (omega arith) (omega arith) (fits_new _ _ _ _ _ (omega arith) (omega arith) (filled_fits 0 2 fs s f
    (fits_new _ _ _ _ _ (omega arith) (omega arith) (fits_new _ _ _ _ _ (omega arith) (omega arith)
    (fits_new _ _ _ _ _ (omega arith) (omega arith) (fits_new _ _ _ _ _ (omega arith) (omega arith) none))))))
