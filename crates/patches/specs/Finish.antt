-- What the Rust does when an operand is done: the operators that waited for it, the innermost first.
use Rattle.std.specs.Prelude.{ℕ, suc, ◌+◌, ◌<◌, ◌≤◌, ◌≡◌, List, [], ◌∷◌, ◌++◌, cond, eqb}
use Rattle.std.specs.Prelude.{Result, Ok, Err}
use Rattle.patches.specs.declared.Closed.{Closed}
use Rattle.patches.specs.declared.Closed.TheVariants.{Up, Stay}
use Rattle.refusals.specs.declared.Refusal.{Refusal}
use Rattle.refusals.specs.Refusal.{told}
use Rattle.refusals.specs.Refusal.Answer.{Refused}
use Rattle.patches.specs.declared.TooFar.{TooFar}
use Rattle.patches.specs.Chain.{Patched, too_far, reach, resolved}
use Rattle.patches.specs.Operators.{ja}
use Rattle.patches.specs.Code.{Emission, put_insn}
use Rattle.patches.specs.Rel.{AND_RIGHT, OR_RIGHT, AND_DONE, OR_DONE, Frame, Rel, owed, due}
use Rattle.patches.specs.Rel.Frame.{frame}

-- A jump is too far; or the operator is done (bytes, next place, successes, failures); or it waits for its other operand (bytes, next place, what it waits as, the places that it keeps).
pub data Step : Type 0 where
  far : Step
  up : List ℕ → ℕ → List ℕ → List ℕ → Step
  stay : List ℕ → ℕ → ℕ → List ℕ → Step

-- The step, if all jumps reach.
abbrev pub near : Patched → Step → Step
near (Err _) s = far
near (Ok _) s = s

-- One operator that waits as op and keeps ps, its operand done up to place pos, with successes sp and failures fp. In the Rust's words:
--   AndDone: the failures of both; OrDone: the successes of both; AndRight: "left falls through to right on success";
--   OrRight: "left's failures try right; left's fall-through success jumps past right";
--   NotDone: "inner failure is NOT's success; inner success and a JA after the inner fall-through are NOT's failure".
unfoldable pub close_op : ℕ → List ℕ → ℕ → List ℕ → List ℕ → List ℕ → Step
close_op op ps pos out sp fp =
    cond (eqb op AND_DONE) (up out pos sp (fp ++ ps))
    (cond (eqb op OR_DONE) (up out pos (sp ++ ps) fp)
    (cond (eqb op AND_RIGHT) (near (reach pos sp) (stay (resolved pos sp out) pos AND_DONE fp))
    (cond (eqb op OR_RIGHT) (near (reach (pos + 1) fp) (stay (resolved (pos + 1) fp (put_insn out pos ja)) (pos + 1) OR_DONE (pos ∷ sp)))
    (near (reach (pos + 1) fp) (up (resolved (pos + 1) fp (put_insn out pos ja)) (pos + 1) [] (pos ∷ sp))))))

-- A refusal and its place; operators that wait (bytes, next place, operators); or all is done (bytes, next place, successes, failures).
pub data Ending : Type 0 where
  refuse : ℕ → ℕ → Ending
  wait : List ℕ → ℕ → List Frame → Ending
  whole : List ℕ → ℕ → List ℕ → List ℕ → Ending

-- Refusal 10 has place 0.
abbrev pub on_step : Step → (List ℕ → ℕ → List ℕ → List ℕ → Ending) → (List ℕ → ℕ → ℕ → List ℕ → Ending) → Ending
on_step far more rest = refuse 10 0
on_step (up out pos sp fp) more rest = more out pos sp fp
on_step (stay out pos op ps) more rest = rest out pos op ps

-- An operator that is done is itself the operand of the next.
unfoldable pub finish_ops : List Frame → ℕ → List ℕ → List ℕ → List ℕ → Ending
finish_ops [] pos out sp fp = whole out pos sp fp
finish_ops (frame op lo ps ∷ fs) pos out sp fp =
    on_step (close_op op ps pos out sp fp) (λ out' pos' sp' fp'. finish_ops fs pos' out' sp' fp') (λ out' pos' op' ps'. wait out' pos' (frame op' lo ps' ∷ fs))

-- The answer r, and the numbers and patches after, stand for an operator that is done.
pub record Ups (l n lo : ℕ) (fs : List Frame) (pos : ℕ) (sp fp : List ℕ) (r : Result Closed TooFar) (e : Emission) : Type 0 where
  pub is : r ≡ Ok Up
  pub at : e.patches.pos ≡ pos
  pub rel : Rel l e.work n e.patches fs sp fp lo

-- They stand for an operator that waits for its other operand.
pub record Stays (l n : ℕ) (fs : List Frame) (pos : ℕ) (r : Result Closed TooFar) (e : Emission) : Type 0 where
  pub is : r ≡ Ok Stay
  pub at : e.patches.pos ≡ pos
  pub rel : Rel l e.work n e.patches fs [] [] pos

-- The answer, and what is written then, are as the step says.
abbrev pub StepOk : ℕ → ℕ → ℕ → List Frame → Step → Result Closed TooFar → Emission → Type 0
StepOk l n lo fs far r e = r ≡ Err too_far
StepOk l n lo fs (up out pos sp fp) r e = (e.out ≡ out) × Ups l n lo fs pos sp fp r e
StepOk l n lo fs (stay out pos op ps) r e = (e.out ≡ out) × Stays l (suc n) (frame op lo ps ∷ fs) pos r e

-- In every reading of the numbers at the start.
abbrev pub CloseOk : ℕ → ℕ → ℕ → Emission → Result Closed TooFar → Emission → Type 0
CloseOk l n op e r e' =
    (lo lo' : ℕ) (ps : List ℕ) (fs : List Frame) (sp fp : List ℕ) → Rel l e.work (suc n) e.patches (frame op lo' ps ∷ fs) sp fp lo → e.patches.pos + due op ≤ l
    → StepOk l n lo' fs (close_op op ps e.patches.pos e.out sp fp) r e'

-- The same for all operators that the operand ends: n of them wait still,
pub record Waits (l : ℕ) (fs : List Frame) (pos : ℕ) (r : Result ℕ Refusal) (e : Emission) : Type 0 where
  pub n : ℕ
  pub some : 0 < n
  pub is : r ≡ Ok n
  pub at : e.patches.pos ≡ pos
  pub rel : Rel l e.work n e.patches fs [] [] pos

-- or none is left.
pub record Wholes (l : ℕ) (sp fp : List ℕ) (pos : ℕ) (r : Result ℕ Refusal) (e : Emission) : Type 0 where
  pub lo : ℕ
  pub is : r ≡ Ok 0
  pub at : e.patches.pos ≡ pos
  pub rel : Rel l e.work 0 e.patches [] sp fp lo

abbrev pub EndingOk : ℕ → Ending → Result ℕ Refusal → Emission → Type 0
EndingOk l (refuse number place) r e = told r ≡ Refused number place
EndingOk l (wait out pos fs) r e = (e.out ≡ out) × Waits l fs pos r e
EndingOk l (whole out pos sp fp) r e = (e.out ≡ out) × Wholes l sp fp pos r e

abbrev pub FinishOk : ℕ → ℕ → Emission → Result ℕ Refusal → Emission → Type 0
FinishOk l n e r e' =
    (fs : List Frame) (sp fp : List ℕ) (lo : ℕ) → Rel l e.work n e.patches fs sp fp lo → e.patches.pos + owed fs ≤ l
    → EndingOk l (finish_ops fs e.patches.pos e.out sp fp) r e'
