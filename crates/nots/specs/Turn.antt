-- How the new tree is counted and written: by places in the tokens, with no tree built. Steps of proofs.
use Rattle.std.specs.Prelude.{ℕ, ◌+◌, ◌≡◌, List, ◌++◌, Bool, cond, eqb, ltb, length, drop, Option, Some, None}
use Rattle.std.proofs.lemmas.List.Edits.{sets}
use Rattle.tree.specs.Tree.{Tree, flat, depth, trees_of, front}
use Rattle.nots.specs.Nots.{wanted_part, denied_part}
use Rattle.nots.specs.declared.Reached.{Reached}
use Rattle.nots.specs.declared.Turned.{Turned}

-- The tree whose tokens begin at a place.
unfoldable pub tree_at : List ℕ → ℕ → Tree
tree_at ts at = front (trees_of (drop at ts))

-- A tree's tokens do begin there.
pub data Begins (ts : List ℕ) (at : ℕ) : Type 0 where
  begins : (t : Tree) (rest : List ℕ) → drop at ts ≡ flat t ++ rest → Begins ts at

-- The place behind them.
unfoldable pub past : List ℕ → ℕ → ℕ
past ts at = at + length (flat (tree_at ts at))

-- The tokens of what the part at a place is turned into.
unfoldable pub wanted_at : List ℕ → ℕ → List ℕ
wanted_at ts at = flat (wanted_part (tree_at ts at))

unfoldable pub denied_at : List ℕ → ℕ → List ℕ
denied_at ts at = flat (denied_part (tree_at ts at))

unfoldable pub turned_at : Bool → List ℕ → ℕ → List ℕ
turned_at denied ts at = cond denied (denied_at ts at) (wanted_at ts at)

-- "And and Or change places": 1 for 2 and 2 for 1.
unfoldable pub other_of : ℕ → ℕ
other_of t = cond (eqb t 1) 2 1

-- Bytes stored one after another from a place on.
unfoldable pub laid : List ℕ → ℕ → List ℕ → List ℕ
laid output to bytes = sets output to bytes

-- Both places after a part is turned.
unfoldable pub reached_of : ℕ → ℕ → List ℕ → Reached
reached_of next to bytes = record { token = next; to = to + length bytes }

-- Where the tokens behind a part begin, and how many tokens the turned part needs.
abbrev pub fits : ℕ → ℕ → Option Turned
fits next size = Some (record { next = next; size = size })

-- A primitive is one token, under a Not two.
unfoldable pub leaf_size : ℕ → Bool → Option Turned
leaf_size next denied = fits next (cond denied 2 1)

-- None where the part has more levels.
unfoldable pub size_of : List ℕ → ℕ → ℕ → Bool → Option Turned
size_of ts at levels denied = cond (ltb levels (depth (tree_at ts at))) None (fits (past ts at) (length (turned_at denied ts at)))
