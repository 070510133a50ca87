-- One token of the walk: what the part that begins there is turned into, and how many tokens that needs.
use Prim.Native.Nat.{ℕ, suc, ◌+◌, ◌-◌, ◌*◌, ◌<◌, ◌≤◌, max}
use mathlib.Core.Path.{◌≡◌, refl, sym, ap, ◌∙◌}
use mathlib.Core.Logic.{⊎_elim}
use mathlib.Core.List.{List, [], ◌∷◌, ◌++◌}
use mathlib.Core.Bool.{Bool, true, false, cond, not}
use native.Mathlib.Omega.{arith}
use borrow.Author.Tests.{lt-ltb, le-ltb}
use lib.ListN.{length, get_or, length-append, length-drop}
use Rattle.tree.specs.Tree.{Tree, flat, depth}
use Rattle.tree.specs.Tree.Tree.{leaf, and, or, inv}
use Rattle.meaning.proofs.Walks.{at_most_or_above}
use Rattle.nots.specs.Nots.{wanted_part, denied_part}
use Rattle.nots.specs.Turn.{tree_at, Begins, past, wanted_at, denied_at, turned_at, other_of, fits, leaf_size, size_of}
use Rattle.nots.specs.Turn.Begins.{begins}
use Rattle.std.specs.Prelude.{None}
use Rattle.nots.specs.declared.Turned.{Turned}
use Rattle.nots.proofs.Trees.{wanted_size, denied_size}
use Rattle.nots.proofs.Places.{Part, part, tree_there}
use Rattle.nots.proofs.Places.Part.{lone, under, with_and, with_or}

some_depth : (t : Tree) → 0 < depth t
unfolding depth
some_depth leaf = omega arith
some_depth (and a b) = omega arith
some_depth (or a b) = omega arith
some_depth (inv a) = omega arith

-- A primitive.
pub record Lone (ts : List ℕ) (at : ℕ) : Type 0 where
  pub deep : depth (tree_at ts at) ≡ 1
  pub next : past ts at ≡ at + 1
  pub wants : wanted_at ts at ≡ 0 ∷ []
  pub denies : denied_at ts at ≡ 3 ∷ 0 ∷ []

-- A Not: the part below it is turned the other way.
pub record Under (ts : List ℕ) (at : ℕ) : Type 0 where
  pub below : Begins ts (at + 1)
  pub deep : depth (tree_at ts at) ≡ suc (depth (tree_at ts (at + 1)))
  pub next : past ts at ≡ past ts (at + 1)
  pub wants : wanted_at ts at ≡ denied_at ts (at + 1)
  pub denies : denied_at ts at ≡ wanted_at ts (at + 1)

-- And or Or: under a denied part they change places.
pub record Two (ts : List ℕ) (at : ℕ) : Type 0 where
  pub first : Begins ts (at + 1)
  pub second : Begins ts (past ts (at + 1))
  pub deep : depth (tree_at ts at) ≡ suc (max (depth (tree_at ts (at + 1))) (depth (tree_at ts (past ts (at + 1)))))
  pub next : past ts at ≡ past ts (past ts (at + 1))
  pub wants : wanted_at ts at ≡ get_or ts at 0 ∷ (wanted_at ts (at + 1) ++ wanted_at ts (past ts (at + 1)))
  pub denies : denied_at ts at ≡ other_of (get_or ts at 0) ∷ (denied_at ts (at + 1) ++ denied_at ts (past ts (at + 1)))

module _ (ts : List ℕ) where
  lone_is : (at : ℕ) → tree_at ts at ≡ leaf → Lone ts at
  unfolding past wanted_at denied_at wanted_part flat depth
  lone_is at e = record { deep = rw e; next = rw e; wants = rw e; denies = rw e }

  under_is : (at : ℕ) → tree_at ts at ≡ inv (tree_at ts (at + 1)) → Begins ts (at + 1) → Under ts at
  unfolding past wanted_at denied_at wanted_part flat depth
  under_is at e b = record { below = b; deep = rw e; next = rw e (omega arith); wants = rw e; denies = rw e }

  joined_next : (at : ℕ) (a b : Tree) → at + suc (length (flat a ++ flat b)) ≡ at + 1 + length (flat a) + length (flat b)
  joined_next at a b = omega (arith, length-append (flat a) (flat b))

  and_is : (at : ℕ) → get_or ts at 0 ≡ 1 → tree_at ts at ≡ and (tree_at ts (at + 1)) (tree_at ts (past ts (at + 1))) → Begins ts (at + 1) → Begins ts (past ts (at + 1)) → Two ts at
  unfolding past wanted_at denied_at wanted_part flat depth other_of
  and_is at t e a b = record {
    first = a;
    second = b;
    deep = rw e;
    next = ap (λ x. at + length (flat x)) e ∙ joined_next at (tree_at ts (at + 1)) (tree_at ts (past ts (at + 1)));
    wants = rw (t, e);
    denies = rw (t, e);
  }

  or_is : (at : ℕ) → get_or ts at 0 ≡ 2 → tree_at ts at ≡ or (tree_at ts (at + 1)) (tree_at ts (past ts (at + 1))) → Begins ts (at + 1) → Begins ts (past ts (at + 1)) → Two ts at
  unfolding past wanted_at denied_at wanted_part flat depth other_of
  or_is at t e a b = record {
    first = a;
    second = b;
    deep = rw e;
    next = ap (λ x. at + length (flat x)) e ∙ joined_next at (tree_at ts (at + 1)) (tree_at ts (past ts (at + 1)));
    wants = rw (t, e);
    denies = rw (t, e);
  }

  -- By the token that is read.
  pub lone_at : (at : ℕ) → Begins ts at → get_or ts at 0 ≡ 0 → Lone ts at
  lone_at at b z = go (part ts at b)
    where
      go : Part ts at → Lone ts at
      go (lone t e) = lone_is at e
      go (under t e f) = absurd (omega (arith, t, z))
      go (with_and t e f g) = absurd (omega (arith, t, z))
      go (with_or t e f g) = absurd (omega (arith, t, z))

  pub under_at : (at : ℕ) → Begins ts at → get_or ts at 0 ≡ 3 → Under ts at
  under_at at b z = go (part ts at b)
    where
      go : Part ts at → Under ts at
      go (lone t e) = absurd (omega (arith, t, z))
      go (under t e f) = under_is at e f
      go (with_and t e f g) = absurd (omega (arith, t, z))
      go (with_or t e f g) = absurd (omega (arith, t, z))

  pub two_at : (at : ℕ) → Begins ts at → (get_or ts at 0 ≡ 0 → ⊥) → (get_or ts at 0 ≡ 3 → ⊥) → Two ts at
  two_at at b n0 n3 = go (part ts at b)
    where
      go : Part ts at → Two ts at
      go (lone t e) = absurd (n0 t)
      go (under t e f) = absurd (n3 t)
      go (with_and t e f g) = and_is at t e f g
      go (with_or t e f g) = or_is at t e f g

  -- No more tokens than twice those that were there.
  pub turned_most : (d : Bool) (at : ℕ) → Begins ts at → length (turned_at d ts at) ≤ 2 * length ts
  unfolding turned_at wanted_at denied_at
  turned_most d at (begins t r e) = go d
    where
      room : length (flat t) ≤ length ts
      room = omega (arith, ap length e, length-append (flat t) r, length-drop at ts)

      go : (d : Bool) → length (cond d (flat (denied_part (tree_at ts at))) (flat (wanted_part (tree_at ts at)))) ≤ 2 * length ts
      go true = rw (tree_there ts t at r e) (omega (arith, room, denied_size t))
      go false = rw (tree_there ts t at r e) (omega (arith, room, wanted_size t))

  module _ (d : Bool) where
    turned_under : (at : ℕ) → Under ts at → turned_at d ts at ≡ turned_at (not d) ts (at + 1)
    unfolding turned_at
    turned_under at u = go d
      where
        go : (d : Bool) → cond d (denied_at ts at) (wanted_at ts at) ≡ cond (not d) (denied_at ts (at + 1)) (wanted_at ts (at + 1))
        go true = u.denies
        go false = u.wants

    turned_two : (at : ℕ) → Two ts at → length (turned_at d ts at) ≡ length (turned_at d ts (at + 1)) + length (turned_at d ts (past ts (at + 1))) + 1
    unfolding turned_at
    turned_two at w = go d
      where
        go : (d : Bool) → length (cond d (denied_at ts at) (wanted_at ts at))
            ≡ length (cond d (denied_at ts (at + 1)) (wanted_at ts (at + 1))) + length (cond d (denied_at ts (past ts (at + 1))) (wanted_at ts (past ts (at + 1)))) + 1
        go true = ap length w.denies ∙ omega (arith, length-append (denied_at ts (at + 1)) (denied_at ts (past ts (at + 1))))
        go false = ap length w.wants ∙ omega (arith, length-append (wanted_at ts (at + 1)) (wanted_at ts (past ts (at + 1))))

    -- Both ways round: deep or not, and what is then told.
    pub size_fits : (at levels : ℕ) → depth (tree_at ts at) ≤ levels → size_of ts at levels d ≡ fits (past ts at) (length (turned_at d ts at))
    unfolding size_of
    size_fits at levels h = rw (le-ltb levels (depth (tree_at ts at)) h)

    pub size_deep : (at levels : ℕ) → levels < depth (tree_at ts at) → size_of ts at levels d ≡ None
    unfolding size_of
    size_deep at levels h = rw (lt-ltb levels (depth (tree_at ts at)) h)

    pub size_told : (at levels : ℕ) {n s : ℕ} → size_of ts at levels d ≡ fits n s → (depth (tree_at ts at) ≤ levels) × (n ≡ past ts at) × (s ≡ length (turned_at d ts at))
    size_told at levels {n} {s} e =
        ⊎_elim
        (λ (h : depth (tree_at ts at) ≤ levels).
        let f = size_fits at levels h in
        let q : ◌≡◌ {A = Turned} (record { next = n; size = s }) (record { next = past ts at; size = length (turned_at d ts at) }) = cc in
        (h, ap (λ (x : Turned). x.next) q, ap (λ (x : Turned). x.size) q))
        (λ (h : levels < depth (tree_at ts at)). let f = size_deep at levels h in let clash : ◌≡◌ {A = ℕ} 0 1 = cc in absurd (omega arith))
        (at_most_or_above (depth (tree_at ts at)) levels)

    pub deep_told : (at levels : ℕ) → size_of ts at levels d ≡ None → levels < depth (tree_at ts at)
    deep_told at levels e =
        ⊎_elim
        (λ (h : depth (tree_at ts at) ≤ levels). let f = size_fits at levels h in let clash : ◌≡◌ {A = ℕ} 0 1 = cc in absurd (omega arith))
        (λ (h : levels < depth (tree_at ts at)). h)
        (at_most_or_above (depth (tree_at ts at)) levels)

    pub no_levels : (at levels : ℕ) → levels ≡ 0 → None ≡ size_of ts at levels d
    no_levels at levels e = sym (size_deep at levels (omega (arith, some_depth (tree_at ts at))))

    pub size_lone : (at levels : ℕ) → Begins ts at → (levels ≡ 0 → ⊥) → get_or ts at 0 ≡ 0 → leaf_size (at + 1) d ≡ size_of ts at levels d
    unfolding leaf_size turned_at
    size_lone at levels b n z =
        let l = lone_at at b z in
        sym (size_fits at levels (omega (arith, n, l.deep)) ∙ rw (l.next, l.wants, l.denies) (go d))
      where
        go : (d : Bool) → fits (at + 1) (length {A = ℕ} (cond d (3 ∷ 0 ∷ []) (0 ∷ []))) ≡ fits (at + 1) (cond d 2 1)
        go true = refl
        go false = refl

    pub size_bound : (at levels : ℕ) {n s : ℕ} → Begins ts at → length ts < 65536 → size_of ts at levels d ≡ fits n s → s < 131072
    size_bound at levels b h e = omega (arith, (size_told at levels e).2, turned_most d at b)

    module _ (at levels : ℕ) (n : levels ≡ 0 → ⊥) (w : Two ts at) where
      pub deep_first : size_of ts (at + 1) (levels - 1) d ≡ None → None ≡ size_of ts at levels d
      deep_first e = sym (size_deep at levels (omega (arith, n, w.deep, deep_told (at + 1) (levels - 1) e)))

      pub deep_second : {m s : ℕ} → size_of ts (at + 1) (levels - 1) d ≡ fits m s → size_of ts m (levels - 1) d ≡ None → None ≡ size_of ts at levels d
      deep_second e f =
          let here = (size_told (at + 1) (levels - 1) e).1 in
          let g : size_of ts (past ts (at + 1)) (levels - 1) d ≡ None = ap (λ (k : ℕ). size_of ts k (levels - 1) d) (sym here) ∙ f in
          sym (size_deep at levels (omega (arith, n, w.deep, deep_told (past ts (at + 1)) (levels - 1) g)))

      pub size_two : {m s k r : ℕ} → size_of ts (at + 1) (levels - 1) d ≡ fits m s → size_of ts m (levels - 1) d ≡ fits k r → fits k (s + r + 1) ≡ size_of ts at levels d
      size_two {m} {s} {k} {r} e f =
          let one = size_told (at + 1) (levels - 1) e in
          let g : size_of ts (past ts (at + 1)) (levels - 1) d ≡ fits k r = ap (λ (j : ℕ). size_of ts j (levels - 1) d) (sym one.1) ∙ f in
          let two = size_told (past ts (at + 1)) (levels - 1) g in
          let ends : k ≡ past ts at = two.1 ∙ sym w.next in
          let sum : s + r + 1 ≡ length (turned_at d ts at) = omega (arith, one.2, two.2, turned_two at w) in
          ap (λ (j : ℕ). fits j (s + r + 1)) ends ∙ ap (fits (past ts at)) sum
          ∙ sym (size_fits at levels (omega (arith, n, w.deep, one.0, two.0)))

  pub size_under : (d : Bool) (at levels : ℕ) → (levels ≡ 0 → ⊥) → Under ts at → size_of ts (at + 1) (levels - 1) (not d) ≡ size_of ts at levels d
  size_under d at levels n u =
      ⊎_elim
      (λ (h : depth (tree_at ts (at + 1)) ≤ levels - 1).
      size_fits (not d) (at + 1) (levels - 1) h ∙ ap (λ (k : ℕ). fits k (length (turned_at (not d) ts (at + 1)))) (sym u.next)
      ∙ ap (λ x. fits (past ts at) (length x)) (sym (turned_under d at u)) ∙ sym (size_fits d at levels (omega (arith, n, u.deep))))
      (λ (h : levels - 1 < depth (tree_at ts (at + 1))). size_deep (not d) (at + 1) (levels - 1) h ∙ sym (size_deep d at levels (omega (arith, n, u.deep))))
      (at_most_or_above (depth (tree_at ts (at + 1))) (levels - 1))
