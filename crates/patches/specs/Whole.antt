-- The whole program: the Rust's `compile`.
use Rattle.std.specs.Prelude.{ℕ, ◌+◌, List, [], ◌∷◌}
use Rattle.ebpf.specs.Opcode.{MOV, WORD}
use Rattle.ebpf.specs.Insn.{ldx, alu64_imm, exit_insn}
use Rattle.patches.specs.Chain.{Patched}
use Rattle.std.specs.Prelude.{Ok, Err}
use Rattle.patches.specs.Chain.{reach, resolved}
use Rattle.patches.specs.Code.{Slot, outs}
use Rattle.patches.specs.Code.Slot.{fixed}
use Rattle.patches.specs.Finish.{Ending}
use Rattle.patches.specs.Finish.Ending.{refuse, wait, whole}
use Rattle.patches.specs.Machine.{Tpl, run}

-- The Rust's `emit_prologue`: "load `data` into R2, `data_end` into R3".
unfoldable pub prologue : List Slot
prologue = fixed (ldx WORD 2 1 0) ∷ fixed (ldx WORD 3 1 4) ∷ []

-- The two exits: XDP_PASS is 2, XDP_DROP is 1.
unfoldable pub epilogue : List Slot
epilogue = fixed (alu64_imm MOV 0 2) ∷ fixed exit_insn ∷ fixed (alu64_imm MOV 0 1) ∷ fixed exit_insn ∷ []

-- A refusal with its place, or the bytes.
pub data Comp : Type 0 where
  stopped : ℕ → ℕ → Comp
  made : List ℕ → Comp

-- The bytes, if both lists reach.
abbrev pub end_of : Patched → Patched → List ℕ → Comp
end_of (Err _) b out = stopped 10 0
end_of (Ok _) (Err _) out = stopped 10 0
end_of (Ok _) (Ok _) out = made out

-- The exits are written; successes go to the first, failures to the second.
unfoldable pub ended : List ℕ → ℕ → List ℕ → List ℕ → Comp
ended out pos sp fp = end_of (reach pos sp) (reach (pos + 2) fp) (resolved (pos + 2) fp (resolved pos sp (outs epilogue pos out)))

abbrev pub final_of : Ending → Comp
final_of (refuse c i) = stopped c i
final_of (wait out pos fs) = stopped 4 0
final_of (whole out pos sp fp) = ended out pos sp fp

-- The program of the tokens, written over the bytes given.
unfoldable pub compiled : (ℕ → Tpl) → List ℕ → List ℕ → Comp
compiled tpl ts out = final_of (run tpl ts 0 2 (outs prologue 0 out) [])
