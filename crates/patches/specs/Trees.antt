-- The same by recursion on the tree: what the Rust's `emit_expr` does, its work list aside.
use Rattle.std.specs.Prelude.{ℕ, suc, ◌+◌, List, [], ◌∷◌, ◌++◌, length}
use Rattle.tree.specs.Tree.{Tree}
use Rattle.tree.specs.Tree.Tree.{leaf, and, or, inv}
use Rattle.patches.specs.Chain.{Patched}
use Rattle.std.specs.Prelude.{Ok, Err}
use Rattle.patches.specs.Chain.{reach, resolved}
use Rattle.patches.specs.Code.{outs, successes, failures, put_insn}
use Rattle.patches.specs.Operators.{ja}
use Rattle.patches.specs.Machine.{Tpl}
use Rattle.patches.specs.Machine.Tpl.{code, refused}
use Rattle.patches.specs.Whole.{Comp, ended, prologue}
use Rattle.patches.specs.Whole.Comp.{stopped}

-- A refusal and its place; or the bytes, the number of the next primitive, the next place, successes and failures, the last first.
pub data Res : Type 0 where
  fail : ℕ → ℕ → Res
  ok : List ℕ → ℕ → ℕ → List ℕ → List ℕ → Res

-- Further only if all jumps reach.
abbrev pub when : Patched → Res → Res
when (Err _) e = fail 10 0
when (Ok _) e = e

-- "Of 10 to 19 the one the Rust meets first is given", with the number of the primitive.
abbrev pub on_leaf : Tpl → ℕ → ℕ → List ℕ → Res
on_leaf (code xs) k pos out = ok (outs xs pos out) (suc k) (pos + length xs) (successes pos xs []) (failures pos xs [])
on_leaf (refused c) k pos out = fail c k

-- "AND: left falls through to right on success", and its failures join those of right.
abbrev pub and_done : List ℕ → Res → Res
and_done kept (fail c i) = fail c i
and_done kept (ok out k pos sp fp) = ok out k pos sp (fp ++ kept)

abbrev pub and_right : Res → (ℕ → ℕ → List ℕ → Res) → Res
and_right (fail c i) right = fail c i
and_right (ok out k pos sp fp) right = when (reach pos sp) (and_done fp (right k pos (resolved pos sp out)))

-- "OR: left's failures try right; left's fall-through success jumps past right", and its successes join those of right.
abbrev pub or_done : List ℕ → Res → Res
or_done kept (fail c i) = fail c i
or_done kept (ok out k pos sp fp) = ok out k pos (sp ++ kept) fp

abbrev pub or_right : Res → (ℕ → ℕ → List ℕ → Res) → Res
or_right (fail c i) right = fail c i
or_right (ok out k pos sp fp) right =
    when (reach (pos + 1) fp) (or_done (pos ∷ sp) (right k (pos + 1) (resolved (pos + 1) fp (put_insn out pos ja))))

-- "NOT: inner failure is NOT's success; inner success and a JA after the inner fall-through are NOT's failure."
abbrev pub not_done : Res → Res
not_done (fail c i) = fail c i
not_done (ok out k pos sp fp) =
    when (reach (pos + 1) fp) (ok (resolved (pos + 1) fp (put_insn out pos ja)) k (pos + 1) [] (pos ∷ sp))

-- The tree whose first primitive has number k, at place pos.
unfoldable pub emit : (ℕ → Tpl) → Tree → ℕ → ℕ → List ℕ → Res
emit tpl leaf k pos out = on_leaf (tpl k) k pos out
emit tpl (and a b) k pos out = and_right (emit tpl a k pos out) (λ k' pos' out'. emit tpl b k' pos' out')
emit tpl (or a b) k pos out = or_right (emit tpl a k pos out) (λ k' pos' out'. emit tpl b k' pos' out')
emit tpl (inv a) k pos out = not_done (emit tpl a k pos out)

abbrev pub res_comp : Res → Comp
res_comp (fail c i) = stopped c i
res_comp (ok out k pos sp fp) = ended out pos sp fp

-- The program of the tree, written over the bytes given.
unfoldable pub compile_tree : (ℕ → Tpl) → Tree → List ℕ → Comp
compile_tree tpl t out = res_comp (emit tpl t 0 2 (outs prologue 0 out))
