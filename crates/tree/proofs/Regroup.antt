-- Brackets do not change what refusals 3, 4, 7 and 8 and L count.
use Prim.Native.Nat.{ℕ, zero, suc, ◌+◌, ◌≤◌}
use mathlib.Core.Path.{◌≡◌, refl, sym, ◌∙◌}
use mathlib.Core.List.{List, [], ◌∷◌, ◌++◌}
use native.Mathlib.Omega.{arith}
use lib.ListN.{length, get_or, length-append}
use Rattle.tree.specs.Tree.{Tree, flat, leaves, jumps}
use Rattle.tree.specs.Tree.Tree.{leaf, and, or, inv}
use Rattle.tree.specs.Regroup.{Regrouped}
use Rattle.tree.specs.Regroup.Regrouped.{and_chain, or_chain, in_and, in_or, in_not, same, back, next}

-- Refusal 4 counts primitives.
pub same_leaves : {t u : Tree} → Regrouped t u → leaves t ≡ leaves u
unfolding leaves
same_leaves (and_chain a b c) = omega arith
same_leaves (or_chain a b c) = omega arith
same_leaves (in_and p q) = omega (arith, same_leaves p, same_leaves q)
same_leaves (in_or p q) = omega (arith, same_leaves p, same_leaves q)
same_leaves (in_not p) = same_leaves p
same_leaves (same a) = refl
same_leaves (back p) = sym (same_leaves p)
same_leaves (next p q) = same_leaves p ∙ same_leaves q

-- L, and so refusals 7 and 8, counts Or and Not.
pub same_jumps : {t u : Tree} → Regrouped t u → jumps t ≡ jumps u
unfolding jumps
same_jumps (and_chain a b c) = omega arith
same_jumps (or_chain a b c) = omega arith
same_jumps (in_and p q) = omega (arith, same_jumps p, same_jumps q)
same_jumps (in_or p q) = omega (arith, same_jumps p, same_jumps q)
same_jumps (in_not p) = omega (arith, same_jumps p)
same_jumps (same a) = refl
same_jumps (back p) = sym (same_jumps p)
same_jumps (next p q) = same_jumps p ∙ same_jumps q

two_tokens : (a b : Tree) → length (flat a ++ flat b) ≡ length (flat a) + length (flat b)
two_tokens a b = length-append (flat a) (flat b)

-- Refusal 8 counts tokens.
pub same_tokens : {t u : Tree} → Regrouped t u → length (flat t) ≡ length (flat u)
unfolding flat
same_tokens (and_chain a b c) = simp length-append (omega arith)
same_tokens (or_chain a b c) = simp length-append (omega arith)
same_tokens (in_and {a = a} {b = b} {c = c} {d = d} p q) = omega (arith, two_tokens a c, two_tokens b d, same_tokens p, same_tokens q)
same_tokens (in_or {a = a} {b = b} {c = c} {d = d} p q) = omega (arith, two_tokens a c, two_tokens b d, same_tokens p, same_tokens q)
same_tokens (in_not p) = omega (arith, same_tokens p)
same_tokens (same a) = refl
same_tokens (back p) = sym (same_tokens p)
same_tokens (next p q) = same_tokens p ∙ same_tokens q

low_append : (x y : List ℕ) → ((j : ℕ) → get_or x j 0 ≤ 3) → ((j : ℕ) → get_or y j 0 ≤ 3) → (j : ℕ) → get_or (x ++ y) j 0 ≤ 3
low_append [] y l m j = m j
low_append (t ∷ x) y l m zero = l 0
low_append (t ∷ x) y l m (suc j) = low_append x y (λ i. l (suc i)) m j

-- Refusal 3 is for tokens above 3, which no tree has.
pub tokens_low : (t : Tree) (j : ℕ) → get_or (flat t) j 0 ≤ 3
unfolding flat
tokens_low leaf zero = omega arith
tokens_low leaf (suc j) = omega arith
tokens_low (and a b) zero = omega arith
tokens_low (and a b) (suc j) = low_append (flat a) (flat b) (tokens_low a) (tokens_low b) j
tokens_low (or a b) zero = omega arith
tokens_low (or a b) (suc j) = low_append (flat a) (flat b) (tokens_low a) (tokens_low b) j
tokens_low (inv a) zero = omega arith
tokens_low (inv a) (suc j) = tokens_low a j
