-- Refusal 4, "tokens are not one whole tree", is exact: the scan takes a run of tokens exactly when one tree, and no other, has these tokens.
use Prim.Native.Nat.{ℕ, zero, suc, ◌+◌}
use mathlib.Core.Path.{◌≡◌, refl, sym, ap, ◌∙◌}
use mathlib.Core.Logic.{◌↔◌}
use mathlib.Core.List.{List, [], ◌∷◌, ◌++◌, append_assoc, append-nil}
use mathlib.Core.Bool.{true}
use native.Mathlib.Omega.{arith}
use native.Mathlib.Nat.{add_assoc}
use borrow.Author.Tests.{lt-ltb}
use lib.Dec.{ltb}
use Rattle.std.specs.Prelude.{Option, Some, None}
use Rattle.tree.specs.Shape.{scan, shape_of, wanted, met_by}
use Rattle.tree.specs.Tokens.{count, is_primitive}
use Rattle.tree.specs.Tree.{Tree, flat, leaves}
use Rattle.tree.specs.Tree.Tree.{leaf, and, or, inv}
use Rattle.tree.proofs.Counts.{count_leaves}
use Rattle.tree.proofs.Prefix.{flat_injective}

-- The scan passes over the tokens of t: one tree fewer is wanted, and t's primitives are met.
abbrev Passed : Tree → Type 0
Passed t = (rest : List ℕ) (others met : ℕ) → scan (flat t ++ rest) (suc others) met ≡ scan rest others (met + leaves t)

-- Two operands, passed one after the other.
both : (a b : Tree) (rest : List ℕ) (others met : ℕ) → Passed a → Passed b
    → scan ((flat a ++ flat b) ++ rest) (suc (suc others)) met ≡ scan rest others (met + (leaves a + leaves b))
both a b rest others met first second =
    let sum : met + leaves a + leaves b ≡ met + (leaves a + leaves b) = omega arith in
    rw (append_assoc (flat a) (flat b) rest, first (flat b ++ rest) (suc others) met, second rest others (met + leaves a), sum)

-- Every tree is passed so.
pub scan_flat : (t : Tree) (rest : List ℕ) (others met : ℕ)
    → scan (flat t ++ rest) (suc others) met ≡ scan rest others (met + leaves t)
unfolding scan flat leaves wanted met_by
scan_flat leaf rest others met = refl
scan_flat (and a b) rest others met = both a b rest others met (scan_flat a) (scan_flat b)
scan_flat (or a b) rest others met = both a b rest others met (scan_flat a) (scan_flat b)
scan_flat (inv a) rest others met = scan_flat a rest others met

-- A tree's tokens are one whole tree, with the tree's primitives.
pub whole_flat : (t : Tree) → shape_of (flat t) ≡ Some (leaves t)
unfolding shape_of scan
whole_flat t =
    let none : 0 + leaves t ≡ leaves t = omega arith in
    rw (← append-nil (flat t)) (scan_flat t [] 0 0 ∙ ap Some none)

-- An answer is not both.
broken : {n : ℕ} → None ≡ Some n → ⊥
broken e = let clash : ◌≡◌ {A = ℕ} 0 1 = cc in omega arith

-- The tokens of w trees one after another, n primitives being met at their end when m were met before them.
data Forest (n : ℕ) : List ℕ → ℕ → ℕ → Type 0 where
  none : {m : ℕ} → m ≡ n → Forest n [] zero m
  tree : (t : Tree) {ts : List ℕ} {w m : ℕ} → Forest n ts w (m + leaves t) → Forest n (flat t ++ ts) (suc w) m

-- One token more in front: it makes a tree of the first trees behind it, as many as it asks for.
grow_leaf : {n : ℕ} {ts : List ℕ} {w m : ℕ} → Forest n ts w (m + 1) → Forest n (0 ∷ ts) (suc w) m
unfolding flat leaves
grow_leaf f = tree leaf f

grow_inv : {n : ℕ} {ts : List ℕ} {w m : ℕ} → Forest n ts (suc w) m → Forest n (3 ∷ ts) (suc w) m
unfolding flat leaves
grow_inv (tree a f) = tree (inv a) f

grow_and : {n : ℕ} {ts : List ℕ} {w m : ℕ} → Forest n ts (suc (suc w)) m → Forest n (1 ∷ ts) (suc w) m
unfolding flat leaves
grow_and (tree a (tree b f)) = rw (← append_assoc) (tree (and a b) (rw add_assoc at f))

grow_or : {n : ℕ} {ts : List ℕ} {w m : ℕ} → Forest n ts (suc (suc w)) m → Forest n (2 ∷ ts) (suc w) m
unfolding flat leaves
grow_or (tree a (tree b f)) = rw (← append_assoc) (tree (or a b) (rw add_assoc at f))

-- What the scan takes is a forest.
scan_forest : (ts : List ℕ) (w m n : ℕ) → scan ts w m ≡ Some n → Forest n ts w m
unfolding scan wanted met_by
scan_forest [] zero m n e = let same : m ≡ n = cc in none same
scan_forest [] (suc w) m n e = absurd (broken e)
scan_forest (t ∷ ts) zero m n e = absurd (broken e)
scan_forest (zero ∷ ts) (suc w) m n e = grow_leaf (scan_forest ts w (m + 1) n e)
scan_forest (suc zero ∷ ts) (suc w) m n e = grow_and (scan_forest ts (suc (suc w)) m n e)
scan_forest (suc (suc zero) ∷ ts) (suc w) m n e = grow_or (scan_forest ts (suc (suc w)) m n e)
scan_forest (suc (suc (suc zero)) ∷ ts) (suc w) m n e = grow_inv (scan_forest ts (suc w) m n e)
scan_forest (suc (suc (suc (suc t))) ∷ ts) (suc w) m n e =
    let above : ltb 3 (suc (suc (suc (suc t)))) ≡ true = lt-ltb 3 (suc (suc (suc (suc t)))) (omega arith) in
    absurd (broken (rw above at e))

-- The tokens the scan takes are a tree's.
pub flat_whole : (ts : List ℕ) (n : ℕ) → shape_of ts ≡ Some n → (t : Tree) × (flat t ≡ ts) × (leaves t ≡ n)
unfolding shape_of
flat_whole ts n e = go (scan_forest ts 1 0 n e)
  where
    go : {ts : List ℕ} → Forest n ts 1 0 → (t : Tree) × (flat t ≡ ts) × (leaves t ≡ n)
    go (tree t (none e)) = (t, sym (append-nil (flat t)), omega arith)

-- The tree that has these tokens, and no other has them.
pub record OneTree (ts : List ℕ) (n : ℕ) : Type 0 where
  pub tree : Tree
  pub tokens : flat tree ≡ ts
  pub primitives : leaves tree ≡ n
  pub only : (u : Tree) → flat u ≡ ts → u ≡ tree

-- Tokens are one whole tree exactly when exactly one tree has these tokens.
pub whole_exactly : (ts : List ℕ) (n : ℕ) → (shape_of ts ≡ Some n) ↔ OneTree ts n
whole_exactly ts n = (found, taken)
  where
    found : shape_of ts ≡ Some n → OneTree ts n
    found e =
        let t = flat_whole ts n e in
        record { tree = t.0; tokens = t.1; primitives = t.2; only = λ u h. flat_injective u t.0 (h ∙ sym t.1) }

    taken : OneTree ts n → shape_of ts ≡ Some n
    taken o = rw (← o.tokens) (whole_flat o.tree ∙ ap Some o.primitives)

-- Tokens are broken exactly when no tree has them.
pub broken_exactly : (ts : List ℕ) → (shape_of ts ≡ None) ↔ ((t : Tree) → flat t ≡ ts → ⊥)
broken_exactly ts = (never, refused (shape_of ts) refl)
  where
    never : shape_of ts ≡ None → (t : Tree) → flat t ≡ ts → ⊥
    never e t h = broken (sym e ∙ ap shape_of (sym h) ∙ whole_flat t)

    refused : (s : Option ℕ) → shape_of ts ≡ s → ((t : Tree) → flat t ≡ ts → ⊥) → shape_of ts ≡ None
    refused None e lacks = e
    refused (Some n) e lacks = let t = flat_whole ts n e in absurd (lacks t.0 t.1)

-- The number that comes with a whole tree is the number of its 0 tokens.
pub whole_count : (ts : List ℕ) (n : ℕ) → shape_of ts ≡ Some n → count is_primitive ts ≡ n
whole_count ts n e =
    let t = flat_whole ts n e in
    ap (count is_primitive) (sym t.1) ∙ count_leaves t.0 ∙ t.2

-- "Prove that any two results allowed are equal": those of `whole_tree`.
pub one_answer : (ts : List ℕ) (r s : Option ℕ) → r ≡ shape_of ts → s ≡ shape_of ts → r ≡ s
one_answer ts r s p q = p ∙ sym q
