-- Lists of patches by head and tail, and what a pending operator keeps.
use Rattle.std.specs.Prelude.{ℕ, ◌+◌, List, [], ◌∷◌, cond, eqb, get_or, set}
use Rattle.patches.specs.declared.PatchList.{PatchList}

-- No patches.
abbrev pub empty : PatchList
empty = record { head = 0; tail = 0 }

-- A patch at place p before those of the list, and the links then.
unfoldable pub pushed : PatchList → ℕ → PatchList
pushed list p = record { head = p + 1; tail = cond (eqb list.head 0) p list.tail }

unfoldable pub pushed_links : List ℕ → PatchList → ℕ → List ℕ
pushed_links links list p = set links p list.head

-- The Rust's `concat`: the later patches, then the earlier, and the links then.
unfoldable pub joined : PatchList → PatchList → PatchList
joined later earlier =
    cond (eqb later.head 0) earlier
    (cond (eqb earlier.head 0) later (record { head = later.head; tail = earlier.tail }))

unfoldable pub joined_links : List ℕ → PatchList → PatchList → List ℕ
joined_links links later earlier =
    cond (eqb later.head 0) links
    (cond (eqb earlier.head 0) links (set links later.tail earlier.head))

-- A pending operator is three numbers from `base` on: what it waits for, and the list that it keeps.
unfoldable pub saved_at : List ℕ → ℕ → PatchList
saved_at work base = record { head = get_or work (base + 1) 0; tail = get_or work (base + 2) 0 }

unfoldable pub save_at : List ℕ → ℕ → ℕ → PatchList → List ℕ
save_at work base op kept = set (set (set work base op) (base + 1) kept.head) (base + 2) kept.tail

-- The last place of a list, or the one given.
unfoldable pub last_or : ℕ → List ℕ → ℕ
last_or p [] = p
last_or p (q ∷ ps) = last_or q ps
