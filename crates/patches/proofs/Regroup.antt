-- Regrouping leaves the instructions as they are, and a refusal of 10 to 19 with its place.
use Prim.Native.Nat.{ℕ}
use mathlib.Core.Path.{◌≡◌, refl, sym, ap, ◌∙◌}
use mathlib.Core.List.{List, []}
use Rattle.ebpf.specs.declared.insn.Insn.{Insn}
use Rattle.tree.specs.Tree.{Tree}
use Rattle.tree.specs.Regroup.{Regrouped}
use Rattle.tree.specs.Regroup.Regrouped.{and_chain, or_chain, in_and, in_or, in_not, same, back, next}
use Rattle.patches.specs.Machine.{Tpl}
use Rattle.patches.specs.Listing.{and_right_l, or_right_l, not_done_l, emit_l, listed, res_comp_l, compile_l}
use Rattle.patches.specs.Whole.{prologue}
use Rattle.patches.proofs.Associative.{and_assoc, or_assoc, and_more, or_more}

-- THEOREM: regrouped trees come to the same instructions, open jumps and refusal, behind any instructions.
pub emit_regroups : (tpl : ℕ → Tpl) {t u : Tree} → Regrouped t u → (k : ℕ) (is : List Insn) → emit_l tpl t k is ≡ emit_l tpl u k is
unfolding emit_l
emit_regroups tpl (and_chain a b c) k is = and_assoc (emit_l tpl a k is) (λ k is. emit_l tpl b k is) (λ k is. emit_l tpl c k is)
emit_regroups tpl (or_chain a b c) k is = or_assoc (emit_l tpl a k is) (λ k is. emit_l tpl b k is) (λ k is. emit_l tpl c k is)
emit_regroups tpl (in_and {a = a} {b = b} {c = c} {d = d} p q) k is =
    ap (λ r. and_right_l r (λ k is. emit_l tpl c k is)) (emit_regroups tpl p k is)
    ∙ and_more (emit_l tpl b k is) (λ k is. emit_l tpl c k is) (λ k is. emit_l tpl d k is) (λ k is. emit_regroups tpl q k is)
emit_regroups tpl (in_or {a = a} {b = b} {c = c} {d = d} p q) k is =
    ap (λ r. or_right_l r (λ k is. emit_l tpl c k is)) (emit_regroups tpl p k is)
    ∙ or_more (emit_l tpl b k is) (λ k is. emit_l tpl c k is) (λ k is. emit_l tpl d k is) (λ k is. emit_regroups tpl q k is)
emit_regroups tpl (in_not p) k is = ap not_done_l (emit_regroups tpl p k is)
emit_regroups tpl (same a) k is = refl
emit_regroups tpl (back p) k is = sym (emit_regroups tpl p k is)
emit_regroups tpl (next p q) k is = emit_regroups tpl p k is ∙ emit_regroups tpl q k is

-- THEOREM: the same program, or the same refusal at the same place.
pub compile_regroups : (tpl : ℕ → Tpl) {t u : Tree} → Regrouped t u → compile_l tpl t ≡ compile_l tpl u
unfolding compile_l
compile_regroups tpl p = ap res_comp_l (emit_regroups tpl p 0 (listed prologue []))
