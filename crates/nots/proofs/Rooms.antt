-- Refusals 9, 50 and 7, by the size that was counted; and the parts of a sheet that passes 2 to 4.
use Prim.Native.Nat.{ℕ, ◌+◌, ◌-◌, ◌*◌, ◌/◌, ◌%◌, ◌<◌, ◌≤◌}
use mathlib.Core.Path.{◌≡◌, sym, ap, ◌∙◌}
use mathlib.Core.List.{List, [], ◌∷◌, append-nil}
use mathlib.Core.Bool.{false}
use native.Mathlib.Omega.{arith}
use borrow.Author.Tests.{lt-ltb, le-ltb}
use lib.ListN.{length, take, drop, length-append, length-drop}
use lib.Seq.{length-take-le}
use Rattle.filter.specs.Sheet.{counts, tokens_part}
use Rattle.filter.specs.Written.{written}
use Rattle.filter.proofs.Sheets.{found, sized}
use Rattle.tree.specs.Tree.{Tree, flat, leaves, depth, tree_of}
use Rattle.tree.proofs.Exact.{flat_whole}
use Rattle.checks.specs.Check.{whole_of}
use Rattle.refusals.specs.Refusal.{Answer}
use Rattle.refusals.specs.Refusal.Answer.{Refused, Given}
use Rattle.checks.proofs.Bounds.{whole_shape}
use Rattle.checks.proofs.Wholes.{Sorted}
use Rattle.nots.specs.Nots.{wanted_part}
use Rattle.nots.specs.Push.{tree_in, front_of, new_sheet, roomed, pushed, push_of, sheet_after}
use Rattle.nots.specs.Turn.{tree_at, Begins, turned_at, wanted_at, fits, size_of}
use Rattle.nots.specs.Turn.Begins.{begins}
use Rattle.std.specs.Prelude.{None}
use Rattle.nots.proofs.Turns.{size_told, deep_told}

pub written_length : (front tokens : List ℕ) → length (written front tokens) ≡ length front + length tokens + 2
unfolding written
written_length front tokens = omega (arith, length-append front (length tokens / 256 ∷ length tokens % 256 ∷ tokens))

-- What was counted from the first token on.
module _ (front ts : List ℕ) (output : ℕ) where
  pub room_deep : size_of ts 0 256 false ≡ None → Refused 9 0 ≡ roomed front (tree_of ts) output
  unfolding roomed tree_of tree_at
  room_deep e = rw (lt-ltb 256 (depth (tree_of ts)) (deep_told ts false 0 256 e))

  module _ {n s : ℕ} (e : size_of ts 0 256 false ≡ fits n s) where
    pub counted : s ≡ length (wanted_at ts 0)
    unfolding turned_at
    counted = (size_told ts false 0 256 e).2

    tokens_are : length (flat (wanted_part (tree_of ts))) ≡ s
    unfolding wanted_at tree_of tree_at
    tokens_are = sym counted

    shallow : depth (tree_of ts) ≤ 256
    unfolding tree_of tree_at
    shallow = (size_told ts false 0 256 e).0

    long : length (written front (flat (wanted_part (tree_of ts)))) ≡ length front + s + 2
    long = written_length front (flat (wanted_part (tree_of ts))) ∙ ap (λ (k : ℕ). length front + k + 2) tokens_are

    pub room_many : 65535 < s → Refused 50 0 ≡ roomed front (tree_of ts) output
    unfolding roomed
    room_many h = rw (le-ltb 256 (depth (tree_of ts)) shallow, tokens_are, lt-ltb 65535 s h)

    pub room_short : s ≤ 65535 → output < length front + s + 2 → Refused 7 0 ≡ roomed front (tree_of ts) output
    unfolding roomed
    room_short h k = rw (le-ltb 256 (depth (tree_of ts)) shallow, tokens_are, le-ltb 65535 s h, long, lt-ltb output (length front + s + 2) k)

    pub room_enough : {k : ℕ} → length front ≡ k → s ≤ 65535 → k + s + 2 ≤ output → Given (k + s + 2) ≡ roomed front (tree_of ts) output
    unfolding roomed
    room_enough {k} n h room = rw (le-ltb 256 (depth (tree_of ts)) shallow, tokens_are, le-ltb 65535 s h, long, n, le-ltb output (k + s + 2) room)

module _ (s : List ℕ) {a b c : ℕ} (t : Sorted s a b c) where
  pub tokens_length : length (tokens_part s a b c) ≡ c
  unfolding tokens_part
  tokens_length =
      let n : 5 * a + 24 * b + c + 6 - (5 * a + 24 * b + 6) ≡ c = omega arith in
      ap (λ (k : ℕ). length (take k (drop (5 * a + 24 * b + 6) s))) n
      ∙ length-take-le c (drop (5 * a + 24 * b + 6) s) (omega (arith, length-drop (5 * a + 24 * b + 6) s, sized s t.found))

  pub one_tree : (u : Tree) × (flat u ≡ tokens_part s a b c) × (leaves u ≡ b)
  one_tree = flat_whole (tokens_part s a b c) b (whole_shape _ _ t.parts.whole)

  pub tokens_begin : Begins (tokens_part s a b c) 0
  tokens_begin = begins one_tree.0 [] (sym one_tree.1 ∙ sym (append-nil (flat one_tree.0)))

  pub tree_is : tree_in s ≡ tree_of (tokens_part s a b c)
  unfolding tree_in
  tree_is = let n = found s t.found in rw (n.steps, n.prims, n.tokens)

  pub front_is : front_of s ≡ take (5 * a + 24 * b + 4) s
  unfolding front_of
  front_is = let n = found s t.found in rw (n.steps, n.prims)

  pub new_is : new_sheet s ≡ written (take (5 * a + 24 * b + 4) s) (flat (wanted_part (tree_of (tokens_part s a b c))))
  unfolding new_sheet
  new_is = rw (tree_is, front_is)

  pub pushed_is : (output : ℕ) → whole_of s ≡ Given (counts a b c) → push_of s output ≡ roomed (take (5 * a + 24 * b + 4) s) (tree_of (tokens_part s a b c)) output
  unfolding push_of pushed
  pushed_is output e = rw (e, tree_is, front_is)

  -- The answer and the output, from those of the parts.
  pub both_are : (o : List ℕ) {r : Answer ℕ} {o1 : List ℕ} → whole_of s ≡ Given (counts a b c)
      → r ≡ roomed (take (5 * a + 24 * b + 4) s) (tree_of (tokens_part s a b c)) (length o)
      → o1 ≡ sheet_after r (written (take (5 * a + 24 * b + 4) s) (flat (wanted_part (tree_of (tokens_part s a b c))))) o
      → (r ≡ push_of s (length o)) × (o1 ≡ sheet_after (push_of s (length o)) (new_sheet s) o)
  both_are o e er eo =
      let new = written (take (5 * a + 24 * b + 4) s) (flat (wanted_part (tree_of (tokens_part s a b c)))) in
      let same = er ∙ sym (pushed_is (length o) e) in
      (same, eo ∙ ap (λ (q : Answer ℕ). sheet_after q new o) same ∙ ap (λ (n : List ℕ). sheet_after (push_of s (length o)) n o) (sym new_is))
