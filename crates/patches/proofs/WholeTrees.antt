-- Tokens that are one whole tree: how long their program is, and that it is the program of their tree.
use Prim.Native.Nat.{ℕ, zero, suc, ◌+◌, ◌*◌, ◌≤◌}
use mathlib.Core.Path.{◌≡◌, refl, sym, ap, ◌∙◌, subst}
use mathlib.Core.List.{List, [], ◌++◌, append_assoc, append-nil}
use native.Mathlib.Omega.{arith}
use native.Mathlib.Numerals.{add-one}
use lib.ListN.{length}
use Rattle.std.specs.Prelude.{Some}
use Rattle.tree.specs.Shape.{shape_of}
use Rattle.tree.specs.Tokens.{count, is_jump}
use Rattle.tree.specs.Tree.{Tree, flat, tree_of, leaves, jumps}
use Rattle.tree.specs.Tree.Tree.{leaf, and, or, inv}
use Rattle.tree.proofs.Counts.{count_jumps}
use Rattle.tree.proofs.Exact.{flat_whole}
use Rattle.tree.proofs.Prefix.{tree_flat}
use Rattle.patches.specs.Rel.{due}
use Rattle.patches.specs.Machine.{Tpl, size_of, cost, sizes}
use Rattle.patches.specs.Whole.{compiled}
use Rattle.patches.specs.Whole.Comp.{made}
use Rattle.patches.specs.Listing.{compile_l}
use Rattle.patches.proofs.Program.{Same, listing}
use Rattle.patches.proofs.Exact.{Accepted, accepted}

sizes_add : (tpl : ℕ → Tpl) (k m n : ℕ) → sizes tpl k (m + n) ≡ sizes tpl k m + sizes tpl (k + m) n
unfolding sizes
sizes_add tpl k zero n = let a : 0 + n ≡ n = omega arith in let b : k + 0 ≡ k = omega arith in rw (a, b) (omega arith)
sizes_add tpl k (suc m) n =
    let a : suc m + n ≡ suc (m + n) = omega arith in
    let b : k + suc m ≡ suc k + m = omega arith in
    rw (a, b) (omega (arith, sizes_add tpl (suc k) m n))

-- The tokens of a tree ask for its primitives and a jump for each Or and Not; then comes what follows.
abbrev Law : (ℕ → Tpl) → Tree → Type 0
Law tpl t = (rest : List ℕ) (k : ℕ) → cost tpl (flat t ++ rest) k ≡ jumps t + sizes tpl k (leaves t) + cost tpl rest (k + leaves t)

both : (tpl : ℕ → Tpl) (a b : Tree) (rest : List ℕ) (k : ℕ) → Law tpl a → Law tpl b
    → cost tpl ((flat a ++ flat b) ++ rest) k ≡ jumps a + jumps b + sizes tpl k (leaves a + leaves b) + cost tpl rest (k + (leaves a + leaves b))
both tpl a b rest k x y =
    let e : k + leaves a + leaves b ≡ k + (leaves a + leaves b) = omega arith in
    let z : cost tpl rest (k + leaves a + leaves b) ≡ cost tpl rest (k + (leaves a + leaves b)) = ap (cost tpl rest) e in
    rw (append_assoc (flat a) (flat b) rest) (omega (arith, x (flat b ++ rest) k, y rest (k + leaves a), sizes_add tpl k (leaves a) (leaves b), z))

one : (tpl : ℕ → Tpl) (rest : List ℕ) (k : ℕ) → size_of (tpl k) + cost tpl rest (suc k) ≡ 0 + sizes tpl k 1 + cost tpl rest (k + 1)
unfolding sizes
one tpl rest k = rw (add-one k) (omega arith)

cost_tree : (tpl : ℕ → Tpl) (t : Tree) → Law tpl t
unfolding cost flat jumps leaves due
cost_tree tpl leaf rest k = one tpl rest k
cost_tree tpl (and a b) rest k = omega (arith, both tpl a b rest k (cost_tree tpl a) (cost_tree tpl b))
cost_tree tpl (or a b) rest k = omega (arith, both tpl a b rest k (cost_tree tpl a) (cost_tree tpl b))
cost_tree tpl (inv a) rest k = omega (arith, cost_tree tpl a rest k)

nil : (tpl : ℕ → Tpl) (k : ℕ) → cost tpl [] k ≡ 0
unfolding cost
nil tpl k = refl

-- "one for each Or and Not plus the Rust's count for each primitive".
pub cost_flat : (tpl : ℕ → Tpl) (t : Tree) → cost tpl (flat t) 0 ≡ jumps t + sizes tpl 0 (leaves t)
cost_flat tpl t =
    let e : cost tpl (flat t ++ []) 0 ≡ cost tpl (flat t) 0 = ap (λ ts. cost tpl ts 0) (append-nil (flat t)) in
    omega (arith, e, cost_tree tpl t [] 0, nil tpl (0 + leaves t))

module _ (tpl : ℕ → Tpl) (ts : List ℕ) (n : ℕ) (whole : shape_of ts ≡ Some n) where
  tree : (t : Tree) × (flat t ≡ ts) × (leaves t ≡ n)
  tree = flat_whole ts n whole

  tree_is : tree.0 ≡ tree_of ts
  tree_is = sym (tree_flat tree.0) ∙ ap tree_of tree.1

  -- THEOREM: what tokens that are one whole tree ask for.
  pub cost_tokens : cost tpl ts 0 ≡ count is_jump ts + sizes tpl 0 n
  cost_tokens =
      ap (λ x. cost tpl x 0) (sym tree.1) ∙ cost_flat tpl tree.0
      ∙ ap (λ (x : ℕ). x + sizes tpl 0 (leaves tree.0)) (sym (count_jumps tree.0) ∙ ap (count is_jump) tree.1)
      ∙ ap (λ (x : ℕ). count is_jump ts + sizes tpl 0 x) tree.2

  -- THEOREM: the walk over the tokens and the recursion on their tree refuse alike, and give the same program where there is room for it.
  pub tokens_same : (o : List ℕ) → Same (length o) (compiled tpl ts o) (compile_l tpl (tree_of ts))
  tokens_same o =
      subst (λ (x : List ℕ). Same (length o) (compiled tpl x o) (compile_l tpl (tree_of ts))) tree.1
      (subst (λ (t : Tree). Same (length o) (compiled tpl (flat tree.0) o) (compile_l tpl t)) tree_is (listing tpl tree.0 o))

  -- THEOREM: accepted, the first 8 x L bytes are the program, L as document 01 counts it.
  pub tokens_accepted : (o o' : List ℕ) (l : ℕ) → l ≡ 6 + count is_jump ts + sizes tpl 0 n → 8 * l ≤ length o → compiled tpl ts o ≡ made o'
      → Accepted l o' (compile_l tpl (tree_of ts))
  tokens_accepted o o' l e h c =
      subst (λ (t : Tree). Accepted l o' (compile_l tpl t)) tree_is
      (accepted tpl tree.0 o o' l (length_is) h (ap (λ x. compiled tpl x o) tree.1 ∙ c))
    where
      length_is : l ≡ 2 + cost tpl (flat tree.0) 0 + 4
      length_is = let q : cost tpl (flat tree.0) 0 ≡ cost tpl ts 0 = ap (λ x. cost tpl x 0) tree.1 in omega (arith, e, q, cost_tokens)
