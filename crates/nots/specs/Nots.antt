-- Document 02's A4 over trees.
use Rattle.std.specs.Prelude.{Bool, true, false, ◌&&◌}
use Rattle.tree.specs.Tree.{Tree}
use Rattle.tree.specs.Tree.Tree.{leaf, and, or, inv}

-- "Turning a wanted part and turning a denied part each hand their children to the other under a Not." And and Or change places under a denied one.
unfoldable mutual
  pub wanted_part : Tree → Tree
  wanted_part leaf = leaf
  wanted_part (and a b) = and (wanted_part a) (wanted_part b)
  wanted_part (or a b) = or (wanted_part a) (wanted_part b)
  wanted_part (inv a) = denied_part a

  pub denied_part : Tree → Tree
  denied_part leaf = inv leaf
  denied_part (and a b) = or (denied_part a) (denied_part b)
  denied_part (or a b) = and (denied_part a) (denied_part b)
  denied_part (inv a) = wanted_part a

-- "Not stands only directly above a primitive and never twice".
unfoldable pub low_nots : Tree → Bool
low_nots leaf = true
low_nots (and a b) = low_nots a && low_nots b
low_nots (or a b) = low_nots a && low_nots b
low_nots (inv leaf) = true
low_nots (inv (and a b)) = false
low_nots (inv (or a b)) = false
low_nots (inv (inv a)) = false
