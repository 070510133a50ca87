-- THEOREM, document 02's A7, from the sheet's bytes: "Double Not is another matter: where both sheets are accepted, same verdict on each frame, two more instructions."
use Prim.Native.Nat.{ℕ, ◌+◌, ◌*◌, ◌<◌, ◌≤◌, ◌^◌}
use mathlib.Core.Path.{◌≡◌, refl, sym, ap, ◌∙◌, subst}
use mathlib.Core.Bool.{Bool, true, false, not, cond, ◌&&◌, ◌||◌}
use mathlib.Core.List.{List}
use native.Mathlib.Omega.{arith}
use lib.ListN.{length, take}
use Rattle.ebpf.specs.Run.{run_of}
use Rattle.filter.specs.Ast.{link_of}
use Rattle.filter.specs.Sheet.{counts, step_count, prim_count, steps_part, prims_part, tokens_part}
use Rattle.filter.specs.Written.{Front, written}
use Rattle.tree.specs.Tree.{Tree, flat, leaves, tree_of}
use Rattle.tree.specs.Tree.Tree.{inv}
use Rattle.tree.specs.Regroup.{Doubled}
use Rattle.tree.specs.Regroup.Doubled.{here, and_left, and_right, or_left, or_right, under_not}
use Rattle.tree.proofs.DoubleNot.{doubled_leaves, doubled_jumps}
use Rattle.checks.specs.Check.{check_of}
use Rattle.checks.specs.Length.{program_length}
use Rattle.refusals.specs.Refusal.Answer.{Given}
use Rattle.filter.specs.declared.sheet.Counts.{Counts}
use Rattle.patches.specs.Code.{Slot}
use Rattle.program.specs.Program.{code_of}
use Rattle.program.specs.Ends.{Exits, Frame}
use Rattle.generator.specs.Compile.{outcome_of, answer_of, output_after}
use Rattle.sound.specs.Demand.{Bytes}
use Rattle.sound.specs.Piece.{Means}
use Rattle.sound.specs.Trees.{tree_code, program}
use Rattle.sound.specs.Sheets.{primitive_code, sheet_code, Allowed, Near}
use Rattle.sound.proofs.Accepted.{accepted}
use Rattle.sound.proofs.Checked.{sheet_allowed, sheet_short, tokens_few}
use Rattle.sound.proofs.Pieces.{either}
use Rattle.sound.proofs.ProgramLength.{sheet_length}
use Rattle.sound.proofs.Regrouped.{SameButTree, length_is, same_but_tree, written_tree}
use Rattle.sound.proofs.Sheets.{primitives_decide, sheet_exits_as}
use Rattle.sound.proofs.Trees.{and_means, not_means, tree_decides}

-- `compile` accepts the sheet, with some output and work, and leaves this program of l instructions.
pub record Makes (s : List ℕ) (link mode l : ℕ) (code : List ℕ) : Type 0 where
  pub work : ℕ
  pub output : List ℕ
  pub answer : answer_of (outcome_of s link mode (length output) work) ≡ Given l
  pub left : take (8 * l) (output_after (outcome_of s link mode (length output) work) output) ≡ code

not_not : (q : Bool) → not (not q) ≡ q
not_not true = refl
not_not false = refl

-- Both pieces of code decide one thing.
record Alike (frame : List ℕ) (start : ℕ) (xs ys : List Slot) : Type 0 where
  verdict : Bool
  first : Means frame start xs verdict
  second : Means frame start ys verdict

-- The two trees, primitive by primitive the same.
alike : {frame : List ℕ} {start : ℕ} (prim : ℕ → List Slot) (k : ℕ) {t u : Tree} → Doubled t u
    → ((i : ℕ) → k ≤ i → i < k + leaves t → (q : Bool) × Means frame start (prim i) q) → Alike frame start (tree_code prim t k) (tree_code prim u k)
unfolding tree_code leaves
alike {frame} {start} prim k (here a) m =
    let x = tree_decides prim a k m in
    record { verdict = x.0; first = x.1; second = subst (λ (q : Bool). Means frame start (tree_code prim (inv (inv a)) k) q) (not_not x.0) (not_means (not_means x.1)) }
alike prim k (and_left {a} {b} c d) m =
    let x = alike prim k d (λ i l l'. m i l (omega arith)) in
    let y = tree_decides prim c (k + leaves a) (λ i l l'. m i (omega arith) (omega arith)) in
    record { verdict = x.verdict && y.0; first = and_means x.first y.1; second = rw (← doubled_leaves d) (and_means x.second y.1) }
alike prim k (and_right {a} {b} c d) m =
    let x = tree_decides prim c k (λ i l l'. m i l (omega arith)) in
    let y = alike prim (k + leaves c) d (λ i l l'. m i (omega arith) (omega arith)) in
    record { verdict = x.0 && y.verdict; first = and_means x.1 y.first; second = and_means x.1 y.second }
alike prim k (or_left {a} {b} c d) m =
    let x = alike prim k d (λ i l l'. m i l (omega arith)) in
    let y = tree_decides prim c (k + leaves a) (λ i l l'. m i (omega arith) (omega arith)) in
    record { verdict = x.verdict || y.0; first = either x.first y.1; second = rw (← doubled_leaves d) (either x.second y.1) }
alike prim k (or_right {a} {b} c d) m =
    let x = tree_decides prim c k (λ i l l'. m i l (omega arith)) in
    let y = alike prim (k + leaves c) d (λ i l l'. m i (omega arith) (omega arith)) in
    record { verdict = x.0 || y.verdict; first = either x.1 y.first; second = either x.1 y.second }
alike prim k (under_not d) m =
    let x = alike prim k d m in
    record { verdict = not x.verdict; first = not_means x.first; second = not_means x.second }

-- What `accepted` says, by the counts that are given.
record At (s : List ℕ) (link mode l : ℕ) (code : List ℕ) (a b c : ℕ) : Type 0 where
  allowed : Allowed (link_of link) (steps_part s a) (prims_part s a b) (tokens_part s a b c) b
  near : Near mode (link_of link) (steps_part s a) (prims_part s a b) (tokens_part s a b c)
  long : l ≡ program_length (link_of link) (steps_part s a) (prims_part s a b) (tokens_part s a b c) b c
  by_tree : code ≡ code_of (program (sheet_code mode (link_of link) (steps_part s a) (prims_part s a b) (tokens_part s a b c)))

at_counts : (s : List ℕ) (link mode l : ℕ) (code : List ℕ) (a b c : ℕ) → Bytes s → check_of s link ≡ Given (counts a b c) → Makes s link mode l code → At s link mode l code a b c
at_counts s link mode l code a b c byte e m =
    let x = accepted s link mode m.work l m.output byte m.answer in
    let g : Given (counts x.a x.b x.c) ≡ Given (counts a b c) = sym x.checked ∙ e in
    let n : counts x.a x.b x.c ≡ counts a b c = cc in
    let ea : x.a ≡ a = ap (λ (k : Counts). k.steps) n in
    let eb : x.b ≡ b = ap (λ (k : Counts). k.prims) n in
    let ec : x.c ≡ c = ap (λ (k : Counts). k.tokens) n in
    record {
      allowed = sheet_allowed s link a b c byte e (rw (ea, eb) at x.allowed);
      near = rw (ea, eb, ec) at x.near;
      long = rw (ea, eb, ec) at x.length_is;
      by_tree = sym m.left ∙ (rw (ea, eb, ec) at x.written);
    }

-- An accepted program exits with what its code decides.
module _ {frame : List ℕ} {start : ℕ} (w : Frame frame start) (s : List ℕ) (link mode l : ℕ) (code : List ℕ) (a b c : ℕ) (byte : Bytes s) (e : check_of s link ≡ Given (counts a b c))
    (x : At s link mode l code a b c) where
  abbrev slots : List Slot
  slots = sheet_code mode (link_of link) (steps_part s a) (prims_part s a b) (tokens_part s a b c)

  size : length (program slots) ≡ l
  size = sheet_length mode c x.allowed (tokens_few s a b c) ∙ sym x.long

  short : length (program slots) < 2 ^ 32
  short = omega (arith, size, x.long, sheet_short s link a b c byte e)

  exits : (q : Bool) → Means frame start slots q → Exits (cond q 2 1) l (run_of code frame start l)
  exits q m =
      rw x.by_tree
      (subst (λ (n : ℕ). Exits (cond q 2 1) n (run_of (code_of (program slots)) frame start n)) size (sheet_exits_as w mode x.allowed x.near short m))

-- One verdict for two programs, of l and l' instructions, on a frame: each exits, within as many steps, with 2 (pass) or each with 1 (drop).
abbrev pub Agree : List ℕ → ℕ → List ℕ → ℕ → List ℕ → ℕ → Type 0
Agree code l code' l' frame start = (pass : Bool) × (Exits (cond pass 2 1) l (run_of code frame start l) × Exits (cond pass 2 1) l' (run_of code' frame start l'))

-- Sheets past refusals 1 to 6 with the same steps and primitives, the second tree with one double Not more; both are accepted, with any constants.
module _ (s s' : List ℕ) (link mode a b c c' : ℕ) (v : SameButTree s s' link a b c c') (d : Doubled (tree_of (tokens_part s a b c)) (tree_of (tokens_part s' a b c')))
    (byte : Bytes s) (byte' : Bytes s') (l l' : ℕ) (code code' : List ℕ) (m : Makes s link mode l code) (m' : Makes s' link mode l' code') where
  x : At s link mode l code a b c
  x = at_counts s link mode l code a b c byte v.checked m

  x' : At s' link mode l' code' a b c'
  x' = at_counts s' link mode l' code' a b c' byte' v.checked' m'

  -- THEOREM: "two more instructions".
  pub two_more : l' ≡ l + 2
  two_more =
      let p = length_is s link a b c v.checked (steps_part s a) (prims_part s a b) in
      let p' = length_is s' link a b c' v.checked' (steps_part s a) (prims_part s a b) in
      let q : l' ≡ program_length (link_of link) (steps_part s a) (prims_part s a b) (tokens_part s' a b c') b c' = rw (v.steps, v.prims) at x'.long in
      omega (arith, x.long, q, p, p', doubled_jumps d)

  -- THEOREM: "same verdict on each frame", in either mode.
  pub same_verdict : {frame : List ℕ} {start : ℕ} → Frame frame start → Agree code l code' l' frame start
  unfolding sheet_code
  same_verdict w =
      let y = alike (primitive_code mode (link_of link) (steps_part s a) (prims_part s a b)) 0 d (λ i low high. primitives_decide w mode x.allowed i (omega (arith, x.allowed.whole))) in (
        y.verdict,
        (
          exits w s link mode l code a b c byte v.checked x y.verdict y.first,
          exits w s' link mode l' code' a b c' byte' v.checked' x' y.verdict (rw (v.steps, v.prims) y.second),
        ),
      )

-- THEOREM: the same of two sheets written with the same steps and primitives and the tokens of the two trees, where both are accepted.
module _ (front : List ℕ) (whole : Front front) {t u : Tree} (d : Doubled t u) (link mode : ℕ) (byte : Bytes (written front (flat t))) (byte' : Bytes (written front (flat u)))
    (l l' : ℕ) (code code' : List ℕ) (m : Makes (written front (flat t)) link mode l code) (m' : Makes (written front (flat u)) link mode l' code') where
  abbrev s : List ℕ
  s = written front (flat t)

  abbrev s' : List ℕ
  s' = written front (flat u)

  both_checked : SameButTree s s' link (step_count front) (prim_count front) (length (flat t)) (length (flat u))
  both_checked =
      same_but_tree front whole (flat t) (flat u) link _ _ _ _ _ _
      (accepted s link mode m.work l m.output byte m.answer).checked (accepted s' link mode m'.work l' m'.output byte' m'.answer).checked

  both_trees : Doubled (tree_of (tokens_part s (step_count front) (prim_count front) (length (flat t)))) (tree_of (tokens_part s' (step_count front) (prim_count front) (length (flat u))))
  both_trees = rw (written_tree front whole t, written_tree front whole u) d

  pub written_two_more : l' ≡ l + 2
  written_two_more = two_more s s' link mode (step_count front) (prim_count front) (length (flat t)) (length (flat u)) both_checked both_trees byte byte' l l' code code' m m'

  pub written_same_verdict : {frame : List ℕ} {start : ℕ} → Frame frame start → Agree code l code' l' frame start
  written_same_verdict w =
      same_verdict s s' link mode (step_count front) (prim_count front) (length (flat t)) (length (flat u)) both_checked both_trees byte byte' l l' code code' m m' w
