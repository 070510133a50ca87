-- The walk over the tokens with its pending operators, over any templates of the primitives.
use Rattle.std.specs.Prelude.{ℕ, Result, zero, suc, ◌+◌, ◌≤◌, List, [], ◌∷◌, cond, eqb, length}
use Rattle.patches.specs.Code.{Slot, Emission, outs, successes, failures}
use Rattle.refusals.specs.declared.Refusal.{Refusal}
use Rattle.patches.specs.Rel.{Frame, Rel, due, owed}
use Rattle.patches.specs.Rel.Frame.{frame}
use Rattle.patches.specs.Finish.{Ending, EndingOk, finish_ops}
use Rattle.patches.specs.Finish.Ending.{refuse, wait, whole}

-- What a primitive comes to: its instructions with their open jumps, or the refusal that it earns.
pub data Tpl : Type 0 where
  code : List Slot → Tpl
  refused : ℕ → Tpl

-- "The Rust's count for each primitive, 0 for one that earns 11 to 19."
abbrev pub size_of : Tpl → ℕ
size_of (code xs) = length xs
size_of (refused c) = 0

-- "Of 10 to 19 the one the Rust meets first is given", with the number of the primitive.
abbrev pub on_tpl : Tpl → ℕ → (List Slot → Ending) → Ending
on_tpl (code xs) k more = more xs
on_tpl (refused c) k more = refuse c k

-- Primitive k, at place pos, and the operators that it ends.
unfoldable pub emit_leaf : Tpl → ℕ → List Frame → ℕ → List ℕ → Ending
emit_leaf t k fs pos out = on_tpl t k (λ xs. finish_ops fs (pos + length xs) (outs xs pos out) (successes pos xs []) (failures pos xs []))

-- The answer, and what is written then, are as `emit_leaf` says, in every reading of the numbers at the start.
abbrev pub LeafOk : ℕ → ℕ → ℕ → Tpl → Emission → Result ℕ Refusal → Emission → Type 0
LeafOk l n k t e r e' =
    (fs : List Frame) → Rel l e.work n e.patches fs [] [] e.patches.pos → e.patches.pos + size_of t + owed fs ≤ l
    → EndingOk l (emit_leaf t k fs e.patches.pos e.out) r e'

-- Further only where operators wait.
abbrev pub go_on : Ending → (List ℕ → ℕ → List Frame → Ending) → Ending
go_on (refuse c i) more = refuse c i
go_on (wait out pos fs) more = more out pos fs
go_on (whole out pos sp fp) more = whole out pos sp fp

-- The templates, the tokens that are left, the number of the next primitive, the next place, the bytes, the operators that wait. A token other than 0 is an operator that begins to wait; tokens that end too early are refusal 4.
unfoldable pub run : (ℕ → Tpl) → List ℕ → ℕ → ℕ → List ℕ → List Frame → Ending
run tpl [] k pos out fs = refuse 4 0
run tpl (t ∷ ts) k pos out fs =
    cond (eqb t 0)
    (go_on (emit_leaf (tpl k) k fs pos out) (λ out' pos' fs'. run tpl ts (suc k) pos' out' fs'))
    (run tpl ts k pos out (frame t pos [] ∷ fs))

-- "One for each Or and Not plus the Rust's count for each primitive": the instructions that the tokens ask for, from primitive k on.
unfoldable pub cost : (ℕ → Tpl) → List ℕ → ℕ → ℕ
cost tpl [] k = 0
cost tpl (t ∷ ts) k = cond (eqb t 0) (size_of (tpl k) + cost tpl ts (suc k)) (due t + cost tpl ts k)

-- The Rust's count for n primitives, from primitive k on.
unfoldable pub sizes : (ℕ → Tpl) → ℕ → ℕ → ℕ
sizes tpl k zero = 0
sizes tpl k (suc n) = size_of (tpl k) + sizes tpl (suc k) n
