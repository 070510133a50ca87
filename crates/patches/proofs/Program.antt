-- The bytes that a tree leaves are those of the instructions that the recursion over lists gives; both refuse alike.
use Prim.Native.Nat.{ℕ, suc, ◌+◌, ◌*◌, ◌≤◌}
use mathlib.Core.Path.{◌≡◌, refl, sym, ◌∙◌, subst}
use mathlib.Core.List.{List, [], ◌∷◌, ◌++◌}
use native.Mathlib.Omega.{arith}
use lib.ListN.{length}
use Rattle.ebpf.specs.declared.insn.Insn.{Insn}
use Rattle.tree.specs.Tree.{Tree, flat}
use Rattle.tree.specs.Tree.Tree.{leaf, and, or, inv}
use Rattle.patches.specs.Chain.{Patched}
use Rattle.std.specs.Prelude.{Ok, Err}
use Rattle.patches.specs.Chain.{reach, resolved}
use Rattle.patches.specs.Code.{Slot, outs, put_insn, successes, failures}
use Rattle.patches.specs.Operators.{ja}
use Rattle.patches.specs.Machine.{Tpl}
use Rattle.patches.specs.Machine.Tpl.{code, refused}
use Rattle.patches.specs.Whole.{Comp, compiled, ended, end_of, prologue, epilogue}
use Rattle.patches.specs.Whole.Comp.{stopped, made}
use Rattle.patches.specs.Trees.{Res, when, on_leaf, and_done, and_right, or_done, or_right, not_done, emit, res_comp, compile_tree}
use Rattle.patches.specs.Trees.Res.{fail, ok}
use Rattle.program.specs.Program.{code_of}
use Rattle.patches.specs.Listing.{resolved_l, listed, ResL, when_l, on_leaf_l, and_done_l, and_right_l, or_done_l, or_right_l, not_done_l, emit_l}
use Rattle.patches.specs.Listing.{CompL, end_l, ended_l, res_comp_l, compile_l, Begins}
use Rattle.patches.specs.Listing.ResL.{fail_l, ok_l}
use Rattle.patches.specs.Listing.CompL.{stopped_l, made_l}
use Rattle.patches.proofs.Bytes.{put_begins, resolved_begins, outs_begins, length_resolved_l, length_resolved, length_put, length_snoc, length_listed, length_outs}
use Rattle.patches.proofs.Trees.{compile_tree_lem}

-- The next place is behind the instructions, and the bytes, `len` of them, begin with these where there is room.
record Written (len p : ℕ) (o : List ℕ) (is : List Insn) : Type 0 where
  at : p ≡ length is
  bytes : length o ≡ len
  begins : 8 * p ≤ len → Begins o is

written_resolved : {len p : ℕ} {o : List ℕ} {is : List Insn} (t : ℕ) (ps : List ℕ) → Written len p o is → Written len p (resolved t ps o) (resolved_l t ps is)
written_resolved {o = o} {is = is} t ps w = record {
  at = w.at ∙ sym (length_resolved_l t ps is);
  bytes = length_resolved t ps o ∙ w.bytes;
  begins = λ h. resolved_begins t ps is o (w.begins h);
}

written_ja : {len p : ℕ} {o : List ℕ} {is : List Insn} → Written len p o is → Written len (p + 1) (put_insn o p ja) (is ++ (ja ∷ []))
written_ja {p = p} {o = o} {is = is} w = record {
  at = omega (arith, w.at, length_snoc is ja);
  bytes = length_put o p ja ∙ w.bytes;
  begins = λ h. subst (λ (n : ℕ). Begins (put_insn o n ja) (is ++ (ja ∷ []))) (sym w.at) (put_begins ja is o (omega (arith, w.at, w.bytes)) (w.begins (omega arith)));
}

written_outs : {len p : ℕ} {o : List ℕ} {is : List Insn} (xs : List Slot) → Written len p o is → Written len (p + length xs) (outs xs p o) (listed xs is)
written_outs {p = p} {o = o} {is = is} xs w = record {
  at = omega (arith, w.at, length_listed xs is);
  bytes = length_outs xs p o ∙ w.bytes;
  begins = λ h. subst (λ (n : ℕ). Begins (outs xs n o) (listed xs is)) (sym w.at) (outs_begins xs is o (omega (arith, w.at, w.bytes)) (w.begins (omega arith)));
}

-- The same answer, no earlier than place lo.
data Sim (len lo : ℕ) : Res → ResL → Type 0 where
  both_fail : {c i : ℕ} → Sim len lo (fail c i) (fail_l c i)
  both_ok : {o : List ℕ} {k p : ℕ} {sp fp : List ℕ} {is : List Insn} → lo ≤ p → Written len p o is → Sim len lo (ok o k p sp fp) (ok_l is k sp fp)

-- The law for one tree, behind any instructions.
abbrev Law : (ℕ → Tpl) → Tree → Type 0
Law tpl t = (k len p : ℕ) (o : List ℕ) (is : List Insn) → Written len p o is → Sim len p (emit tpl t k p o) (emit_l tpl t k is)

le_le : {a b c : ℕ} → a ≤ b → b ≤ c → a ≤ c
le_le h k = omega arith

on_leaf_lem : (t : Tpl) (k len p : ℕ) (o : List ℕ) (is : List Insn) → Written len p o is → Sim len p (on_leaf t k p o) (on_leaf_l t k is)
on_leaf_lem (refused c) k len p o is w = both_fail
on_leaf_lem (code xs) k len p o is w =
    subst
    (λ (n : ℕ). Sim len p (ok (outs xs p o) (suc k) (p + length xs) (successes p xs []) (failures p xs [])) (ok_l (listed xs is) (suc k) (successes n xs []) (failures n xs [])))
    w.at
    (both_ok grows (written_outs xs w))
  where
    grows : p ≤ p + length xs
    grows = omega arith

and_done_lem : (len lo p : ℕ) (kept : List ℕ) (e : Res) (l : ResL) → lo ≤ p → Sim len p e l → Sim len lo (and_done kept e) (and_done_l kept l)
and_done_lem len lo p kept e l h both_fail = both_fail
and_done_lem len lo p kept e l h (both_ok g w) = both_ok (le_le h g) w

or_done_lem : (len lo p : ℕ) (kept : List ℕ) (e : Res) (l : ResL) → lo ≤ p → Sim len p e l → Sim len lo (or_done kept e) (or_done_l kept l)
or_done_lem len lo p kept e l h both_fail = both_fail
or_done_lem len lo p kept e l h (both_ok g w) = both_ok (le_le h g) w

module _ (tpl : ℕ → Tpl) (len lo : ℕ) where
  and_right_lem : (b : Tree) → Law tpl b → (e : Res) (l : ResL) → Sim len lo e l
      → Sim len lo (and_right e (λ k p o. emit tpl b k p o)) (and_right_l l (λ k is. emit_l tpl b k is))
  and_right_lem b ih e l both_fail = both_fail
  and_right_lem b ih e l (both_ok {o = o} {k = k} {p = p} {sp = sp} {fp = fp} {is = is} h w) =
      subst
      (λ (n : ℕ). Sim len lo (when (reach p sp) (and_done fp (emit tpl b k p (resolved p sp o)))) (when_l (reach n sp) (and_done_l fp (emit_l tpl b k (resolved_l n sp is)))))
      w.at
      (go (reach p sp))
    where
      go : (r : Patched) → Sim len lo (when r (and_done fp (emit tpl b k p (resolved p sp o)))) (when_l r (and_done_l fp (emit_l tpl b k (resolved_l p sp is))))
      go (Err _) = both_fail
      go (Ok _) = and_done_lem len lo p fp _ _ h (ih k len p (resolved p sp o) (resolved_l p sp is) (written_resolved p sp w))

  or_right_lem : (b : Tree) → Law tpl b → (e : Res) (l : ResL) → Sim len lo e l
      → Sim len lo (or_right e (λ k p o. emit tpl b k p o)) (or_right_l l (λ k is. emit_l tpl b k is))
  or_right_lem b ih e l both_fail = both_fail
  or_right_lem b ih e l (both_ok {o = o} {k = k} {p = p} {sp = sp} {fp = fp} {is = is} h w) =
      subst
      (λ (n : ℕ). Sim len lo (when (reach (p + 1) fp) (or_done (p ∷ sp) (emit tpl b k (p + 1) o2)))
      (when_l (reach (n + 1) fp) (or_done_l (n ∷ sp) (emit_l tpl b k (resolved_l (n + 1) fp (is ++ (ja ∷ [])))))))
      w.at
      (go (reach (p + 1) fp))
    where
      o2 : List ℕ
      o2 = resolved (p + 1) fp (put_insn o p ja)

      is2 : List Insn
      is2 = resolved_l (p + 1) fp (is ++ (ja ∷ []))

      later : lo ≤ p + 1
      later = omega arith

      go : (r : Patched) → Sim len lo (when r (or_done (p ∷ sp) (emit tpl b k (p + 1) o2))) (when_l r (or_done_l (p ∷ sp) (emit_l tpl b k is2)))
      go (Err _) = both_fail
      go (Ok _) = or_done_lem len lo (p + 1) (p ∷ sp) _ _ later (ih k len (p + 1) o2 is2 (written_resolved (p + 1) fp (written_ja w)))

  not_done_lem : (e : Res) (l : ResL) → Sim len lo e l → Sim len lo (not_done e) (not_done_l l)
  not_done_lem e l both_fail = both_fail
  not_done_lem e l (both_ok {o = o} {k = k} {p = p} {sp = sp} {fp = fp} {is = is} h w) =
      subst
      (λ (n : ℕ). Sim len lo (when (reach (p + 1) fp) (ok (resolved (p + 1) fp (put_insn o p ja)) k (p + 1) [] (p ∷ sp)))
      (when_l (reach (n + 1) fp) (ok_l (resolved_l (n + 1) fp (is ++ (ja ∷ []))) k [] (n ∷ sp))))
      w.at
      (go (reach (p + 1) fp))
    where
      later : lo ≤ p + 1
      later = omega arith

      go : (r : Patched) → Sim len lo (when r (ok (resolved (p + 1) fp (put_insn o p ja)) k (p + 1) [] (p ∷ sp)))
          (when_l r (ok_l (resolved_l (p + 1) fp (is ++ (ja ∷ []))) k [] (p ∷ sp)))
      go (Err _) = both_fail
      go (Ok _) = both_ok later (written_resolved (p + 1) fp (written_ja w))

emit_sim : (tpl : ℕ → Tpl) (t : Tree) → Law tpl t
unfolding emit emit_l
emit_sim tpl leaf k len p o is w = on_leaf_lem (tpl k) k len p o is w
emit_sim tpl (and a b) k len p o is w =
    and_right_lem tpl len p b (λ k len p o is w. emit_sim tpl b k len p o is w) (emit tpl a k p o) (emit_l tpl a k is) (emit_sim tpl a k len p o is w)
emit_sim tpl (or a b) k len p o is w =
    or_right_lem tpl len p b (λ k len p o is w. emit_sim tpl b k len p o is w) (emit tpl a k p o) (emit_l tpl a k is) (emit_sim tpl a k len p o is w)
emit_sim tpl (inv a) k len p o is w = not_done_lem tpl len p (emit tpl a k p o) (emit_l tpl a k is) (emit_sim tpl a k len p o is w)

-- The same refusal and place; or bytes that begin with the instructions, where `len` bytes are room for them.
pub data Same (len : ℕ) : Comp → CompL → Type 0 where
  no_code : {c i : ℕ} → Same len (stopped c i) (stopped_l c i)
  program : {o : List ℕ} {is : List Insn} → (8 * length is ≤ len → Begins o is) → Same len (made o) (made_l is)

end_sim : (len lo : ℕ) (e : Res) (l : ResL) → Sim len lo e l → Same len (res_comp e) (res_comp_l l)
unfolding ended ended_l
end_sim len lo e l both_fail = no_code
end_sim len lo e l (both_ok {o = o} {p = p} {sp = sp} {fp = fp} {is = is} h w) =
    subst
    (λ (n : ℕ). Same len (end_of (reach p sp) (reach (p + 2) fp) o2) (end_l (reach n sp) (reach (n + 2) fp) (resolved_l (n + 2) fp (resolved_l n sp (listed epilogue is)))))
    w.at
    (go (reach p sp) (reach (p + 2) fp))
  where
    o2 : List ℕ
    o2 = resolved (p + 2) fp (resolved p sp (outs epilogue p o))

    is2 : List Insn
    is2 = resolved_l (p + 2) fp (resolved_l p sp (listed epilogue is))

    w2 : Written len (p + length epilogue) o2 is2
    w2 = written_resolved (p + 2) fp (written_resolved p sp (written_outs epilogue w))

    begins : 8 * length is2 ≤ len → Begins o2 is2
    begins h = w2.begins (omega (arith, w2.at))

    go : (x y : Patched) → Same len (end_of x y o2) (end_l x y is2)
    go (Err _) y = no_code
    go (Ok _) (Err _) = no_code
    go (Ok _) (Ok _) = program begins

-- Nothing is written yet.
written_none : (o : List ℕ) → Written (length o) 0 o []
unfolding code_of
written_none o = record { at = refl; bytes = refl; begins = λ h. record { rest = o; eq = refl } }

two : 0 + length prologue ≡ 2
unfolding prologue
two = refl

-- THEOREM: the program of a tree's tokens is the list of instructions that the recursion over lists gives, refusals alike.
pub listing : (tpl : ℕ → Tpl) (t : Tree) (o : List ℕ) → Same (length o) (compiled tpl (flat t) o) (compile_l tpl t)
unfolding compile_tree compile_l
listing tpl t o =
    let o2 = outs prologue 0 o in
    let is2 = listed prologue [] in
    let w : Written (length o) 2 o2 is2 = subst (λ (n : ℕ). Written (length o) n o2 is2) two (written_outs prologue (written_none o)) in
    subst (λ (x : Comp). Same (length o) x (compile_l tpl t)) (sym (compile_tree_lem tpl t o))
    (end_sim (length o) 2 (emit tpl t 0 2 o2) (emit_l tpl t 0 is2) (emit_sim tpl t 0 (length o) 2 o2 is2 w))
