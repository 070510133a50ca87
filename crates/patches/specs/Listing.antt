-- The same over a list of instructions, as the Rust has it: what the bytes stand for.
use Rattle.std.specs.Prelude.{ℕ, zero, suc, ◌+◌, ◌-◌, ◌≡◌, List, [], ◌∷◌, ◌++◌, cond, ltb, length}
use Rattle.ebpf.specs.declared.insn.Insn.{Insn}
use Rattle.program.specs.Program.{code_of}
use Rattle.tree.specs.Tree.{Tree}
use Rattle.tree.specs.Tree.Tree.{leaf, and, or, inv}
use Rattle.patches.specs.Chain.{Patched}
use Rattle.std.specs.Prelude.{Ok, Err}
use Rattle.patches.specs.Chain.{reach}
use Rattle.patches.specs.Code.{Slot, insn, successes, failures}
use Rattle.patches.specs.Operators.{ja}
use Rattle.patches.specs.Machine.{Tpl}
use Rattle.patches.specs.Machine.Tpl.{code, refused}
use Rattle.patches.specs.Whole.{prologue, epilogue}

-- `insns[p].off = distance`.
unfoldable pub set_off : List Insn → ℕ → ℕ → List Insn
set_off [] p distance = []
set_off (i ∷ is) zero distance = record { code = i.code; regs = i.regs; off = distance; imm = i.imm } ∷ is
set_off (i ∷ is) (suc p) distance = i ∷ set_off is p distance

-- The Rust's `resolve_all`.
unfoldable pub resolved_l : ℕ → List ℕ → List Insn → List Insn
resolved_l target [] is = is
resolved_l target (p ∷ ps) is =
    cond (ltb 32767 (target - suc p)) is (resolved_l target ps (set_off is p (target - suc p)))

-- The instructions of a run of slots behind those given.
unfoldable pub listed : List Slot → List Insn → List Insn
listed [] is = is
listed (x ∷ xs) is = listed xs (is ++ (insn x ∷ []))

-- A refusal and its place; or the instructions, the number of the next primitive, successes and failures, the last first.
pub data ResL : Type 0 where
  fail_l : ℕ → ℕ → ResL
  ok_l : List Insn → ℕ → List ℕ → List ℕ → ResL

abbrev pub when_l : Patched → ResL → ResL
when_l (Err _) e = fail_l 10 0
when_l (Ok _) e = e

abbrev pub on_leaf_l : Tpl → ℕ → List Insn → ResL
on_leaf_l (code xs) k is = ok_l (listed xs is) (suc k) (successes (length is) xs []) (failures (length is) xs [])
on_leaf_l (refused c) k is = fail_l c k

-- AND, OR and NOT as in Trees; the next place is the number of instructions so far.
abbrev pub and_done_l : List ℕ → ResL → ResL
and_done_l kept (fail_l c i) = fail_l c i
and_done_l kept (ok_l is k sp fp) = ok_l is k sp (fp ++ kept)

abbrev pub and_right_l : ResL → (ℕ → List Insn → ResL) → ResL
and_right_l (fail_l c i) right = fail_l c i
and_right_l (ok_l is k sp fp) right = when_l (reach (length is) sp) (and_done_l fp (right k (resolved_l (length is) sp is)))

abbrev pub or_done_l : List ℕ → ResL → ResL
or_done_l kept (fail_l c i) = fail_l c i
or_done_l kept (ok_l is k sp fp) = ok_l is k (sp ++ kept) fp

abbrev pub or_right_l : ResL → (ℕ → List Insn → ResL) → ResL
or_right_l (fail_l c i) right = fail_l c i
or_right_l (ok_l is k sp fp) right =
    when_l (reach (length is + 1) fp) (or_done_l (length is ∷ sp) (right k (resolved_l (length is + 1) fp (is ++ (ja ∷ [])))))

abbrev pub not_done_l : ResL → ResL
not_done_l (fail_l c i) = fail_l c i
not_done_l (ok_l is k sp fp) =
    when_l (reach (length is + 1) fp) (ok_l (resolved_l (length is + 1) fp (is ++ (ja ∷ []))) k [] (length is ∷ sp))

-- The Rust's `emit_expr`: the tree whose first primitive has number k, behind the instructions given.
unfoldable pub emit_l : (ℕ → Tpl) → Tree → ℕ → List Insn → ResL
emit_l tpl leaf k is = on_leaf_l (tpl k) k is
emit_l tpl (and a b) k is = and_right_l (emit_l tpl a k is) (λ k' is'. emit_l tpl b k' is')
emit_l tpl (or a b) k is = or_right_l (emit_l tpl a k is) (λ k' is'. emit_l tpl b k' is')
emit_l tpl (inv a) k is = not_done_l (emit_l tpl a k is)

-- A refusal with its place, or the instructions.
pub data CompL : Type 0 where
  stopped_l : ℕ → ℕ → CompL
  made_l : List Insn → CompL

abbrev pub end_l : Patched → Patched → List Insn → CompL
end_l (Err _) b is = stopped_l 10 0
end_l (Ok _) (Err _) is = stopped_l 10 0
end_l (Ok _) (Ok _) is = made_l is

-- The exits are added; successes go to the first, failures to the second.
unfoldable pub ended_l : List Insn → List ℕ → List ℕ → CompL
ended_l is sp fp = end_l (reach (length is) sp) (reach (length is + 2) fp) (resolved_l (length is + 2) fp (resolved_l (length is) sp (listed epilogue is)))

abbrev pub res_comp_l : ResL → CompL
res_comp_l (fail_l c i) = stopped_l c i
res_comp_l (ok_l is k sp fp) = ended_l is sp fp

-- The Rust's `compile`.
unfoldable pub compile_l : (ℕ → Tpl) → Tree → CompL
compile_l tpl t = res_comp_l (emit_l tpl t 0 (listed prologue []))

-- The bytes begin with these instructions.
pub record Begins (out : List ℕ) (is : List Insn) : Type 0 where
  pub rest : List ℕ
  pub eq : out ≡ code_of is ++ rest
