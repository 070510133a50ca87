-- What it means that `compile` accepts: the program that it made is the program by the tree, of an allowed sheet.
use Prim.Native.Nat.{ℕ, ◌*◌, ◌≤◌}
use mathlib.Core.Path.{◌≡◌, refl, ap, ◌∙◌}
use mathlib.Core.Bool.{Bool, true, false, not, cond}
use mathlib.Core.List.{List, ◌++◌}
use native.Mathlib.Omega.{arith}
use borrow.Author.Tests.{eqb-true, eq-eqb, le-ltb}
use lib.Dec.{eqb, ltb}
use lib.ListN.{length, take, drop}
use lib.Seq.{take-append_seam}
use Rattle.ebpf.specs.declared.insn.Insn.{Insn}
use Rattle.filter.specs.Ast.{link_of}
use Rattle.filter.specs.First.{first}
use Rattle.filter.specs.Record.{decode_at}
use Rattle.filter.specs.Sheet.{counts, step_count, prim_count, token_count, steps_part, prims_part, tokens_part}
use Rattle.filter.specs.declared.ast.LinkType.{LinkType}
use Rattle.filter.proofs.Firsts.{first_is}
use Rattle.filter.proofs.Sheets.{found}
use Rattle.tree.specs.Tree.{leaves, tree_of}
use Rattle.checks.specs.Check.{steps_before, check_of}
use Rattle.checks.specs.Length.{program_length}
use Rattle.checks.specs.Measure.{admit_of}
use Rattle.checks.specs.Refusal.{refusal, refusal_at}
use Rattle.refusals.specs.Refusal.{Answer}
use Rattle.refusals.specs.Refusal.Answer.{Refused, Given}
use Rattle.checks.specs.Measure.{asks}
use Rattle.checks.specs.declared.measure.Measured.{Measured}
use Rattle.checks.proofs.Bounds.{good}
use Rattle.meaning.specs.Evaluate.{first_refused}
use Rattle.program.specs.Program.{code_of}
use Rattle.program.proofs.Bytes.{code_length}
use Rattle.patches.specs.Code.{Slot}
use Rattle.patches.specs.Listing.{CompL, compile_l}
use Rattle.patches.specs.Listing.CompL.{stopped_l, made_l}
use Rattle.patches.specs.Machine.Tpl.{code, refused}
use Rattle.codegen.specs.Primitives.{emit_primitive}
use Rattle.generator.specs.Template.{template_of, template}
use Rattle.generator.specs.Compile.{outcome, outcome_of, answer_of, output_after}
use Rattle.generator.specs.Compile.Outcome.{late}
use Rattle.generator.proofs.Admitted.{admitted}
use Rattle.sound.specs.Trees.{program}
use Rattle.sound.specs.Sheets.{primitive_code, sheet_code, Near}
use Rattle.sound.specs.Demand.{Bytes}
use Rattle.sound.proofs.Checked.{whole_tree, sheet_allowed, tokens_few}
use Rattle.sound.proofs.ProgramLength.{sheet_length}
use Rattle.sound.proofs.Listed.{made_by_tree}

-- A primitive has its code exactly where it is not refused.
module _ (mode : ℕ) (link : LinkType) (steps prims : List ℕ) (i : ℕ) where
  own_code : (xs : List Slot) → template mode link steps prims i ≡ code xs → xs ≡ primitive_code mode link steps prims i
  unfolding template template_of primitive_code
  own_code xs = go (eqb (refusal link steps (steps_before prims i) (decode_at prims (24 * i))) 0)
    where
      go : (t : Bool) → cond t (code (emit_primitive mode link steps (steps_before prims i) (decode_at prims (24 * i)))) (refused (refusal link steps (steps_before prims i) (decode_at prims (24 * i)))) ≡ code xs
          → xs ≡ emit_primitive mode link steps (steps_before prims i) (decode_at prims (24 * i))
      go true e = cc
      go false e = let never : ◌≡◌ {A = ℕ} 0 1 = cc in absurd (omega arith)

  unrefused : (xs : List Slot) → template mode link steps prims i ≡ code xs → refusal_at link steps prims i ≡ 0
  unfolding template template_of refusal_at
  unrefused xs = go (eqb (refusal link steps (steps_before prims i) (decode_at prims (24 * i))) 0) refl
    where
      go : (t : Bool) → eqb (refusal link steps (steps_before prims i) (decode_at prims (24 * i))) 0 ≡ t
          → cond t (code (emit_primitive mode link steps (steps_before prims i) (decode_at prims (24 * i)))) (refused (refusal link steps (steps_before prims i) (decode_at prims (24 * i)))) ≡ code xs
          → refusal link steps (steps_before prims i) (decode_at prims (24 * i)) ≡ 0
      go true z e = eqb-true _ _ z
      go false z e = let never : ◌≡◌ {A = ℕ} 0 1 = cc in absurd (omega arith)

-- An accepted sheet's counts, and the instructions that were made.
record Made (s : List ℕ) (link mode output work l : ℕ) : Type 0 where
  a : ℕ
  b : ℕ
  c : ℕ
  is : List Insn
  admits : admit_of s link mode output work ≡ Given (asks (counts a b c) l)
  made : compile_l (template mode (link_of link) (steps_part s a) (prims_part s a b)) (tree_of (tokens_part s a b c)) ≡ made_l is
  whole : outcome_of s link mode output work ≡ late l c (made_l is)

made_of : (s : List ℕ) (link mode output work l : ℕ) → answer_of (outcome_of s link mode output work) ≡ Given l → Made s link mode output work l
unfolding outcome_of outcome answer_of
made_of s link mode output work l = on_measured (admit_of s link mode output work) refl
  where
    on_comp : (a b c k : ℕ) → admit_of s link mode output work ≡ Given (asks (counts a b c) k) → (r : CompL)
        → compile_l (template mode (link_of link) (steps_part s a) (prims_part s a b)) (tree_of (tokens_part s a b c)) ≡ r → answer_of (late k c r) ≡ Given l → Made s link mode output work l
    on_comp a b c k m (stopped_l n p) q e = let never : ◌≡◌ {A = ℕ} 0 1 = cc in absurd (omega arith)
    on_comp a b c k m (made_l is) q e =
        let same : k ≡ l = cc in
        record { a = a; b = b; c = c; is = is; admits = m ∙ ap (λ (n : ℕ). Given (asks (counts a b c) n)) same; made = q; whole = rw (m, q, same) refl }

    on_measured : (m : Answer Measured) → admit_of s link mode output work ≡ m → answer_of (outcome m s link mode) ≡ Given l → Made s link mode output work l
    on_measured (Refused n p) m e = let never : ◌≡◌ {A = ℕ} 0 1 = cc in absurd (omega arith)
    on_measured (Given x) m e = on_comp x.counts.steps x.counts.prims x.counts.tokens x.length m _ refl e

-- The first n of two lists, of which the first has n.
front : (n : ℕ) (xs ys : List ℕ) → length xs ≡ n → take n (xs ++ ys) ≡ xs
front n xs ys e = rw (← e) (take-append_seam xs ys)

-- THEOREM: accepted, the first 8 x L bytes of the output are the program by the tree; no primitive is refused, no jump is too far.
pub record Accepted (s : List ℕ) (link mode work l : ℕ) (out : List ℕ) : Type 0 where
  pub a : ℕ
  pub b : ℕ
  pub c : ℕ
  pub checked : check_of s link ≡ Given (counts a b c)
  pub counts : (step_count s ≡ a) × (prim_count s ≡ b) × (token_count s ≡ c)
  pub length_is : l ≡ program_length (link_of link) (steps_part s a) (prims_part s a b) (tokens_part s a b c) b c
  pub room : 8 * l ≤ length out
  pub is : List Insn
  pub outcome_is : outcome_of s link mode (length out) work ≡ late l c (made_l is)
  pub by_tree : is ≡ program (sheet_code mode (link_of link) (steps_part s a) (prims_part s a b) (tokens_part s a b c))
  pub size : length (code_of is) ≡ 8 * l
  pub allowed : ltb (first_refused (link_of link) (steps_part s a) (prims_part s a b) b) b ≡ false
  pub near : Near mode (link_of link) (steps_part s a) (prims_part s a b) (tokens_part s a b c)
  pub written : take (8 * l) (output_after (outcome_of s link mode (length out) work) out)
      ≡ code_of (program (sheet_code mode (link_of link) (steps_part s a) (prims_part s a b) (tokens_part s a b c)))

pub accepted : (s : List ℕ) (link mode work l : ℕ) (out : List ℕ) → Bytes s → answer_of (outcome_of s link mode (length out) work) ≡ Given l → Accepted s link mode work l out
unfolding output_after first_refused sheet_code
accepted s link mode work l out byte e =
    let m = made_of s link mode (length out) work l e in
    let v = admitted s link mode (length out) work m.a m.b m.c l m.admits in
    let t = good s link v.checked in
    let steps = steps_part s m.a in
    let prims = prims_part s m.a m.b in
    let tokens = tokens_part s m.a m.b m.c in
    let all : leaves (tree_of tokens) ≡ m.b = (whole_tree tokens m.b t.parts.whole).1 in
    let by_tree = made_by_tree (template mode (link_of link) steps prims) (primitive_code mode (link_of link) steps prims) (tree_of tokens)
    (λ i h xs. own_code mode (link_of link) steps prims i xs) m.is m.made in
    let none : first (λ k. not (eqb (refusal_at (link_of link) steps prims k) 0)) m.b 0 ≡ m.b = first_is _ m.b m.b (omega arith)
    (λ j h. ap not (eq-eqb _ _ (unrefused mode (link_of link) steps prims j _ (by_tree.2 j (omega arith))))) (λ h. absurd (omega arith)) in
    let allowed = le-ltb (first (λ k. not (eqb (refusal_at (link_of link) steps prims k) 0)) m.b 0) m.b (omega (arith, none)) in
    let long : length (code_of m.is) ≡ 8 * l = omega (
      arith,
      code_length m.is,
      ap length by_tree.0,
      sheet_length mode m.c (sheet_allowed s link m.a m.b m.c byte v.checked allowed) (tokens_few s m.a m.b m.c),
      v.is,
    ) in
    record {
      a = m.a;
      b = m.b;
      c = m.c;
      checked = v.checked;
      counts = (let f = found s t.found in (f.steps, f.prims, f.tokens));
      length_is = v.is;
      room = v.bytes;
      is = m.is;
      outcome_is = m.whole;
      by_tree = by_tree.0;
      size = long;
      allowed = allowed;
      near = record { inside = by_tree.1.inside; to_accept = by_tree.1.to_accept; to_drop = by_tree.1.to_drop };
      written = rw m.whole (front (8 * l) (code_of m.is) (drop (8 * l) out) long ∙ ap code_of by_tree.0);
    }
