-- From the bytes as they fall to the answer, the output and the work that are left.
use Prim.Native.Nat.{ℕ, ◌+◌, ◌*◌, ◌≤◌}
use mathlib.Core.Path.{◌≡◌, refl, sym, ap, ◌∙◌}
use mathlib.Core.List.{List, ◌++◌}
use native.Mathlib.Omega.{arith}
use lib.ListN.{length, drop, length-drop}
use lib.Seq.{ext_get_or, get_or-drop, drop-append_seam}
use Rattle.filter.specs.declared.ast.LinkType.{LinkType}
use Rattle.tree.specs.Tree.{tree_of}
use Rattle.ebpf.specs.declared.insn.Insn.{Insn}
use Rattle.program.specs.Program.{code_of}
use Rattle.program.proofs.Bytes.{code_length}
use Rattle.patches.specs.Chain.{Descends}
use Rattle.patches.specs.Listing.{CompL, compile_l, Begins}
use Rattle.patches.specs.Listing.CompL.{stopped_l}
use Rattle.patches.specs.Same.{SameFrom, zeroed}
use Rattle.patches.specs.Whole.{Comp, compiled}
use Rattle.patches.specs.Whole.Comp.{stopped, made}
use Rattle.patches.proofs.Program.{Same}
use Rattle.patches.proofs.Program.Same.{no_code, program}
use Rattle.patches.proofs.Unchanged.{from_trans, from_more}
use Rattle.patches.proofs.WholeTrees.{cost_tokens, tokens_same, tokens_accepted}
use Rattle.patches.specs.Machine.{cost}
use Rattle.patches.proofs.Zeros.{length_zeroed, zeroed_at, zeroed_from, zeroed_same}
use Rattle.std.specs.Prelude.{Result, Ok, Err}
use Rattle.refusals.specs.Refusal.{Answer, number_of, told}
use Rattle.refusals.specs.Refusal.Answer.{Refused, Given}
use Rattle.refusals.specs.declared.Refusal.{Refusal}
use Rattle.generator.specs.Template.{template}
use Rattle.generator.specs.Compile.{TryOk, Sized, answer_of, output_after}
use Rattle.generator.specs.Compile.Outcome.{late}

-- Zeros are the ends of empty lists.
pub zeros_descend : (l m : ℕ) (w : List ℕ) → l ≤ m → m ≤ length w → Descends l (zeroed m w)
zeros_descend l m w h k p i = omega (arith, zeroed_at m w p k (omega arith))

-- Cleared, written below n, and cleared again.
pub cleared : (m n : ℕ) (w w1 w2 w3 : List ℕ) → n ≤ m → m ≤ length w → w1 ≡ zeroed m w → length w2 ≡ length w1 → SameFrom n w1 w2 → w3 ≡ zeroed m w2 → w3 ≡ zeroed m w
cleared m n w w1 w2 w3 h k e len f g =
    let e1 : length w1 ≡ length w = ap length e ∙ length_zeroed m w in
    let f1 : SameFrom m w w1 = rw e (zeroed_from m w) in
    g ∙ zeroed_same m w w2 (len ∙ e1) k (from_trans m w w1 w2 f1 (from_more n m w1 w2 h f))

-- What the answer tells of the bytes.
try_made : (f : Comp) (r : Result (Unit {0}) Refusal) (o : List ℕ) → TryOk f r o → r ≡ Ok tt → f ≡ made o
try_made (stopped c i) r o k e = let t : told r ≡ Given tt = ap told e in let z : ◌≡◌ {A = ℕ} 0 1 = cc in absurd (omega arith)
try_made (made o') r o (k, h) e = ap made (sym h)

try_stopped : (f : Comp) (r : Result (Unit {0}) Refusal) (o : List ℕ) (x : Refusal) → TryOk f r o → r ≡ Err x → f ≡ stopped (number_of x.reason) x.place
try_stopped (stopped d j) r o x k e =
    let t : told r ≡ Refused (number_of x.reason) x.place = ap told e in
    let a : d ≡ number_of x.reason = cc in
    let b : j ≡ x.place = cc in
    rw (a, b) refl
try_stopped (made o') r o x (k, h) e = let z : ◌≡◌ {A = ℕ} 0 1 = cc in absurd (omega arith)

-- Bytes that begin with the program and are as before from its end on.
begun : (is : List Insn) (l : ℕ) (o o1 : List ℕ) → length is ≡ l → length o1 ≡ length o → SameFrom (8 * l) o o1 → Begins o1 is → o1 ≡ code_of is ++ drop (8 * l) o
begun is l o o1 e len same b =
    let long : length (code_of is) ≡ 8 * l = omega (arith, code_length is) in
    let rest : drop (8 * l) o1 ≡ b.rest = rw (b.eq, ← long) (drop-append_seam (code_of is) b.rest) in
    let tail : drop (8 * l) o1 ≡ drop (8 * l) o = ext_get_or 0 (drop (8 * l) o1) (drop (8 * l) o) (length-drop (8 * l) o1 ∙ rw len (sym (length-drop (8 * l) o)))
    (λ p h. get_or-drop (8 * l) o1 p 0 ∙ same (8 * l + p) (omega arith) ∙ sym (get_or-drop (8 * l) o p 0)) in
    b.eq ∙ ap (λ (v : List ℕ). code_of is ++ v) (sym rest ∙ tail)

module _ (mode : ℕ) (link : LinkType) (steps prims tokens : List ℕ) (l : ℕ) (z : Sized mode link steps prims tokens l) where
  pub enough : 2 + cost (template mode link steps prims) tokens 0 + 4 ≤ l
  enough = omega (arith, cost_tokens (template mode link steps prims) tokens z.leaves z.one_tree, z.exact)

  abbrev result : CompL
  result = compile_l (template mode link steps prims) (tree_of tokens)

  module _ (o o1 : List ℕ) (r : Result (Unit {0}) Refusal) (ok : TryOk (compiled (template mode link steps prims) tokens o) r o1) (room : 8 * l ≤ length o) (len : length o1 ≡ length o)
      (same : SameFrom (8 * l) o o1) where
    pub answer_made : r ≡ Ok tt → (◌≡◌ {A = Answer ℕ} (Given l) (answer_of (late l (length tokens) result))) × (o1 ≡ output_after (late l (length tokens) result) o)
    unfolding answer_of output_after
    answer_made e =
        let t = try_made (compiled (template mode link steps prims) tokens o) r o1 ok e in
        let a = tokens_accepted (template mode link steps prims) tokens z.leaves z.one_tree o o1 l z.exact room t in
        (rw a.eq refl, rw a.eq (begun a.is l o o1 a.len len same a.begins))

    pub answer_stopped : (x : Refusal) → r ≡ Err x → (o2 : List ℕ) → o2 ≡ zeroed (8 * l) o1
        → (◌≡◌ {A = Answer ℕ} (Refused (number_of x.reason) x.place) (answer_of (late l (length tokens) result))) × (o2 ≡ output_after (late l (length tokens) result) o)
    unfolding answer_of output_after
    answer_stopped x e o2 q =
        let t = try_stopped (compiled (template mode link steps prims) tokens o) r o1 x ok e in
        let s = refused_same (compiled (template mode link steps prims) tokens o) result (tokens_same (template mode link steps prims) tokens z.leaves z.one_tree o) t in
        (rw s refl, rw s (q ∙ zeroed_same (8 * l) o o1 len room same))
      where
        refused_same : (u : Comp) (y : CompL) → Same (length o) u y → u ≡ stopped (number_of x.reason) x.place → y ≡ stopped_l (number_of x.reason) x.place
        refused_same u y (no_code {c = d} {i = j}) w = let a : d ≡ number_of x.reason = cc in let b : j ≡ x.place = cc in rw (a, b) refl
        refused_same u y (program k) w = let never : ◌≡◌ {A = ℕ} 0 1 = cc in absurd (omega arith)
