-- Which trees document 02's A7 compares.
use Rattle.tree.specs.Tree.{Tree}
use Rattle.tree.specs.Tree.Tree.{and, or, inv}

-- "Two installers type the same chain with other brackets": "(a and b) and c", "a and (b and c)"; "Or does too, wherever in the tree it stands". In either direction, in any number of places.
pub data Regrouped : Tree → Tree → Type 0 where
  and_chain : (a b c : Tree) → Regrouped (and (and a b) c) (and a (and b c))
  or_chain : (a b c : Tree) → Regrouped (or (or a b) c) (or a (or b c))
  in_and : {a b c d : Tree} → Regrouped a b → Regrouped c d → Regrouped (and a c) (and b d)
  in_or : {a b c d : Tree} → Regrouped a b → Regrouped c d → Regrouped (or a c) (or b d)
  in_not : {a b : Tree} → Regrouped a b → Regrouped (inv a) (inv b)
  same : (a : Tree) → Regrouped a a
  back : {a b : Tree} → Regrouped a b → Regrouped b a
  next : {a b c : Tree} → Regrouped a b → Regrouped b c → Regrouped a c

-- "Double Not": the second tree has one more, somewhere.
pub data Doubled : Tree → Tree → Type 0 where
  here : (a : Tree) → Doubled a (inv (inv a))
  and_left : {a b : Tree} (c : Tree) → Doubled a b → Doubled (and a c) (and b c)
  and_right : {a b : Tree} (c : Tree) → Doubled a b → Doubled (and c a) (and c b)
  or_left : {a b : Tree} (c : Tree) → Doubled a b → Doubled (or a c) (or b c)
  or_right : {a b : Tree} (c : Tree) → Doubled a b → Doubled (or c a) (or c b)
  under_not : {a b : Tree} → Doubled a b → Doubled (inv a) (inv b)
