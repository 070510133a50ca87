-- The two loops over an IPv6 address: what is left to write comes to the same as the whole did at the start.
use Prim.Native.Nat.{ℕ, zero, suc, ◌+◌, ◌-◌, ◌*◌, ◌^◌, ◌<◌, ◌≤◌}
use mathlib.Core.Path.{◌≡◌, refl, sym, ap, ◌∙◌, subst}
use mathlib.Core.Logic.{◌⊎◌, ⊎_elim}
use mathlib.Core.List.{List, [], ◌++◌, append-nil}
use native.Mathlib.Omega.{arith}
use borrow.Author.Tests.{le-leb, lt-leb, ne_eqb}
use lib.ListN.{length, length-append}
use Rattle.patches.specs.declared.Codegen.{Codegen}
use Rattle.patches.specs.Code.{Slot, emission, block}
use Rattle.filter.specs.declared.ast.LinkType.{LinkType}
use Rattle.filter.specs.declared.ast.Ipv6Addr.{Ipv6Addr}
use Rattle.filter.specs.declared.ast.Dir.{Dir}
use Rattle.filter.specs.declared.ast.Dir.TheVariants.{SrcOrDst, Src, Dst, SrcAndDst}
use Rattle.pieces.specs.Fragments.{Fits, Leads, lead, one_of, sides}
use Rattle.codegen.specs.Primitives.{first_side, past_sides, side_end, over, check_segment, check_net6}
use Rattle.pieces.proofs.Leading.{lead_none, lead_length, lead_settled, first_to, second_to, then_to}
use Rattle.pieces.proofs.Pieces.{first, second, then, mode_of, link_of}

-- The inner loop, over the halves of one address.
module _ (mode : ℕ) (link : LinkType) (addr : Ipv6Addr) (prefix at end : ℕ) where
  -- The halves from half i on.
  abbrev from : ℕ → List Slot
  from i = check_net6 mode link addr prefix at (8 - i) i

  pub record Inner (c₀ c : Codegen) (i : ℕ) : Type 0 where
    pub made : block (lead end c.patches.pos (from i)) (emission c) ≡ block (lead end c₀.patches.pos (from 0)) (emission c₀)
    pub leads : Leads end (from i) c.patches
    pub i_in : i ≤ 8
    pub mode_is : c.mode ≡ mode
    pub link_is : c.link ≡ link

  -- A half that starts below the prefix, and one that does not.
  next_half : (i : ℕ) → i < 8 → 16 * i < prefix → from i ≡ check_segment mode link addr prefix at i ++ from (i + 1)
  unfolding check_net6
  next_half i h k =
      let n : 8 - i ≡ suc (8 - (i + 1)) = omega arith in
      let s : suc i ≡ i + 1 = omega arith in
      rw (n, lt-leb prefix (16 * i) k, s)

  no_half : (n i : ℕ) → prefix ≤ 16 * i → check_net6 mode link addr prefix at n i ≡ []
  unfolding check_net6
  no_half zero i h = refl
  no_half (suc n) i h = rw (le-leb prefix (16 * i) h)

  all_halves : (i : ℕ) → 8 ≤ i → from i ≡ []
  unfolding check_net6
  all_halves i h = let n : 8 - i ≡ 0 = omega arith in rw n

  module _ (c₀ : Codegen) where
    pub half_leads : (c : Codegen) (i : ℕ) → Inner c₀ c i → i < 8 → 16 * i < prefix → Leads end (check_segment c.mode c.link addr prefix at i) c.patches
    half_leads c i v h k =
        subst (λ (m : ℕ). Leads end (check_segment m c.link addr prefix at i) c.patches) (sym v.mode_is)
        (subst (λ (l : LinkType). Leads end (check_segment mode l addr prefix at i) c.patches) (sym v.link_is)
        (first_to end (check_segment mode link addr prefix at i) (from (i + 1)) c.patches (subst (λ (xs : List Slot). Leads end xs c.patches) (next_half i h k) v.leads)))

    pub half_next : (c : Codegen) (i : ℕ) (c1 : Codegen) → Inner c₀ c i → i < 8 → 16 * i < prefix
        → emission c1 ≡ block (lead end c.patches.pos (check_segment c.mode c.link addr prefix at i)) (emission c) → Inner c₀ c1 (i + 1)
    half_next c i c1 v h k f =
        let e : emission c1 ≡ block (lead end c.patches.pos (check_segment mode link addr prefix at i)) (emission c) =
        f ∙ ap (λ (m : ℕ). block (lead end c.patches.pos (check_segment m c.link addr prefix at i)) (emission c)) v.mode_is
        ∙ ap (λ (l : LinkType). block (lead end c.patches.pos (check_segment mode l addr prefix at i)) (emission c)) v.link_is in
        record {
          made = then_to end (check_segment mode link addr prefix at i) (from (i + 1)) c c1 (block (lead end c1.patches.pos (from (i + 1))) (emission c1)) e refl
              ∙ ap (λ (xs : List Slot). block (lead end c.patches.pos xs) (emission c)) (sym (next_half i h k)) ∙ v.made;
          leads = second_to end (check_segment mode link addr prefix at i) (from (i + 1)) c c1 (subst (λ (xs : List Slot). Leads end xs c.patches) (next_half i h k) v.leads) e;
          i_in = omega arith;
          mode_is = mode_of (lead end c.patches.pos (check_segment mode link addr prefix at i)) c c1 e ∙ v.mode_is;
          link_is = link_of (lead end c.patches.pos (check_segment mode link addr prefix at i)) c c1 e ∙ v.link_is;
        }

    -- Out of the loop: all eight halves, or the prefix's end.
    left_none : (i : ℕ) → (8 ≤ i) ⊎ (prefix ≤ 16 * i) → from i ≡ []
    left_none i h = ⊎_elim (λ (e : 8 ≤ i). all_halves i e) (λ (e : prefix ≤ 16 * i). no_half (8 - i) i e) h

    pub halves_done : (c : Codegen) (i : ℕ) → Inner c₀ c i → (8 ≤ i) ⊎ (prefix ≤ 16 * i)
        → emission c ≡ block (lead end c₀.patches.pos (from 0)) (emission c₀)
    unfolding block lead
    halves_done c i v h = sym (ap (λ (xs : List Slot). block (lead end c.patches.pos xs) (emission c)) (left_none i h)) ∙ v.made

-- The outer loop, over the chosen addresses: what is left from this one on, where `part` gives the code of each.
pub left : Dir → (ℕ → List Slot) → ℕ → List Slot
left dir part zero = sides dir (part 0) (part 1)
left SrcOrDst part (suc zero) = part 1
left Src part (suc zero) = []
left Dst part (suc zero) = part 1
left SrcAndDst part (suc zero) = part 1
left dir part (suc (suc side)) = []

-- A side whose failures stay open, and what follows it.
open_side : (p : ℕ) (xs ys : List Slot) → xs ++ ys ≡ lead 0 p xs ++ (over 0 ++ ys)
unfolding over
open_side p xs ys = ap (λ (zs : List Slot). zs ++ ys) (sym (lead_none p xs))

-- A source whose failures lead to the destination.
closed_side : (p : ℕ) (xs ys : List Slot) → one_of xs ys ≡ lead (p + length xs + 1) p xs ++ (over (p + length xs + 1) ++ ys)
unfolding one_of over
closed_side p xs ys = rw (lead_settled p 1 xs (p + length xs + 1) (omega arith) refl, ne_eqb (p + length xs + 1) 0 (λ e. omega (arith, e)))

module _ (dir : Dir) (part : ℕ → List Slot) where
  pub record Outer (c₀ c : Codegen) (side : ℕ) : Type 0 where
    pub made : block (left dir part side) (emission c) ≡ block (sides dir (part 0) (part 1)) (emission c₀)
    pub fit : Fits (left dir part side) c.patches
    pub low : first_side dir ≤ side
    pub high : side ≤ past_sides dir
    pub mode_is : c.mode ≡ c₀.mode
    pub link_is : c.link ≡ c₀.link

-- The side at hand, its JA and the rest.
turn : (dir : Dir) (part : ℕ → List Slot) (side p n : ℕ) → length (part 0) ≡ n → first_side dir ≤ side → side < past_sides dir
    → left dir part side ≡ lead (side_end dir side p n) p (part side) ++ (over (side_end dir side p n) ++ left dir part (suc side))
unfolding left sides first_side past_sides side_end
turn SrcOrDst part zero p n e a b = rw (← e) (closed_side p (part 0) (part 1))
turn SrcOrDst part (suc zero) p n e a b = sym (append-nil (part 1)) ∙ open_side p (part 1) []
turn SrcOrDst part (suc (suc side)) p n e a b = absurd (omega arith)
turn Src part zero p n e a b = sym (append-nil (part 0)) ∙ open_side p (part 0) []
turn Src part (suc side) p n e a b = absurd (omega arith)
turn Dst part zero p n e a b = absurd (omega arith)
turn Dst part (suc zero) p n e a b = sym (append-nil (part 1)) ∙ open_side p (part 1) []
turn Dst part (suc (suc side)) p n e a b = absurd (omega arith)
turn SrcAndDst part zero p n e a b = open_side p (part 0) (part 1)
turn SrcAndDst part (suc zero) p n e a b = sym (append-nil (part 1)) ∙ open_side p (part 1) []
turn SrcAndDst part (suc (suc side)) p n e a b = absurd (omega arith)

-- The destination has no place to lead to.
later_end : (side p n : ℕ) → side_end SrcOrDst (suc side) p n ≡ 0
unfolding side_end
later_end side p n = rw (ne_eqb (suc side) 0 (λ e. omega (arith, e)))

-- The place to lead to is near, and no further than the JA's end.
side_near : (dir : Dir) (side p n : ℕ) → side_end dir side p n ≤ p + n + 1
unfolding side_end
side_near SrcOrDst zero p n = omega arith
side_near SrcOrDst (suc side) p n = omega (arith, later_end side p n)
side_near Src side p n = omega arith
side_near Dst side p n = omega arith
side_near SrcAndDst side p n = omega arith

side_low : (dir : Dir) (part : ℕ → List Slot) (side p n : ℕ) → length (part 0) ≡ n
    → side_end dir side p n ≤ p + length (lead (side_end dir side p n) p (part side)) + length (over (side_end dir side p n))
unfolding side_end over
side_low SrcOrDst part zero p n e = rw (lead_length (p + n + 1) p (part 0), ne_eqb (p + n + 1) 0 (λ z. omega (arith, z)), e) (omega arith)
side_low SrcOrDst part (suc side) p n e = omega (arith, later_end side p n)
side_low Src part side p n e = omega arith
side_low Dst part side p n e = omega arith
side_low SrcAndDst part side p n e = omega arith

pub start : (dir : Dir) (part : ℕ → List Slot) (c : Codegen) → Fits (sides dir (part 0) (part 1)) c.patches → Outer dir part c c (first_side dir)
unfolding left sides first_side past_sides
start SrcOrDst part c f = record { made = refl; fit = f; low = omega arith; high = omega arith; mode_is = refl; link_is = refl }
start Src part c f = record { made = refl; fit = f; low = omega arith; high = omega arith; mode_is = refl; link_is = refl }
start Dst part c f = record { made = refl; fit = f; low = omega arith; high = omega arith; mode_is = refl; link_is = refl }
start SrcAndDst part c f = record { made = refl; fit = f; low = omega arith; high = omega arith; mode_is = refl; link_is = refl }

none_left : (dir : Dir) (part : ℕ → List Slot) (side : ℕ) → past_sides dir ≤ side → left dir part side ≡ []
unfolding left past_sides
none_left SrcOrDst part zero h = absurd (omega arith)
none_left SrcOrDst part (suc zero) h = absurd (omega arith)
none_left SrcOrDst part (suc (suc side)) h = refl
none_left Src part zero h = absurd (omega arith)
none_left Src part (suc zero) h = refl
none_left Src part (suc (suc side)) h = refl
none_left Dst part zero h = absurd (omega arith)
none_left Dst part (suc zero) h = absurd (omega arith)
none_left Dst part (suc (suc side)) h = refl
none_left SrcAndDst part zero h = absurd (omega arith)
none_left SrcAndDst part (suc zero) h = absurd (omega arith)
none_left SrcAndDst part (suc (suc side)) h = refl

module _ (dir : Dir) (part : ℕ → List Slot) (n : ℕ) (size : length (part 0) ≡ n) (c₀ : Codegen) where
  -- Out of the loop.
  pub sides_done : (c : Codegen) (side : ℕ) → Outer dir part c₀ c side → past_sides dir ≤ side
      → emission c ≡ block (sides dir (part 0) (part 1)) (emission c₀)
  unfolding block
  sides_done c side v h = sym (ap (λ (xs : List Slot). block xs (emission c)) (none_left dir part side h)) ∙ v.made

  module _ (c : Codegen) (side : ℕ) (v : Outer dir part c₀ c side) (h : side < past_sides dir) where
    abbrev to : ℕ
    to = side_end dir side c.patches.pos n

    whole : Fits (lead to c.patches.pos (part side) ++ (over to ++ left dir part (suc side))) c.patches
    whole = subst (λ (xs : List Slot). Fits xs c.patches) (turn dir part side c.patches.pos n size v.low h) v.fit

    pub end_fits : to < 2 ^ 32
    end_fits = omega (arith, simp length-append at whole.room, side_low dir part side c.patches.pos n size)

    module _ (end : ℕ) (ends : end ≡ to) (code : List Slot) (is : code ≡ part side) where
      pub side_leads : n ≤ 49 → Leads end code c.patches
      side_leads k = record {
        room = omega (arith, simp length-append at whole.room, lead_length to c.patches.pos (part side), ap length is);
        near = omega (arith, ends, side_near dir side c.patches.pos n);
      }

      module _ (c1 : Codegen) (e : emission c1 ≡ block (lead end c.patches.pos code) (emission c)) where
        written : emission c1 ≡ block (lead to c.patches.pos (part side)) (emission c)
        written = rw (ends, is) at e

        rest : Fits (over to ++ left dir part (suc side)) c1.patches
        rest = second (lead to c.patches.pos (part side)) (over to ++ left dir part (suc side)) c c1 whole written

        pub over_fits : Fits (over end) c1.patches
        over_fits = rw ends (first (over to) (left dir part (suc side)) c1.patches rest)

        pub side_next : (c2 : Codegen) → emission c2 ≡ block (over end) (emission c1)
            → Outer dir part c₀ c2 (side + 1)
        side_next c2 k =
            let k2 : emission c2 ≡ block (over to) (emission c1) = rw ends at k in
            let s : suc side ≡ side + 1 = omega arith in
            let f : Fits (left dir part (suc side)) c2.patches = second (over to) (left dir part (suc side)) c1 c2 rest k2 in
            let m : block (left dir part (suc side)) (emission c2) ≡ block (left dir part side) (emission c) =
            then (lead to c.patches.pos (part side)) (over to ++ left dir part (suc side)) (emission c) (emission c1) (block (left dir part (suc side)) (emission c2)) written
            (then (over to) (left dir part (suc side)) (emission c1) (emission c2) (block (left dir part (suc side)) (emission c2)) k2 refl)
            ∙ ap (λ (xs : List Slot). block xs (emission c)) (sym (turn dir part side c.patches.pos n size v.low h)) in
            record {
              made = ap (λ (j : ℕ). block (left dir part j) (emission c2)) (sym s) ∙ m ∙ v.made;
              fit = subst (λ (j : ℕ). Fits (left dir part j) c2.patches) s f;
              low = omega (arith, v.low);
              high = omega arith;
              mode_is = mode_of (over to) c1 c2 k2 ∙ mode_of (lead to c.patches.pos (part side)) c c1 written ∙ v.mode_is;
              link_is = link_of (over to) c1 c2 k2 ∙ link_of (lead to c.patches.pos (part side)) c c1 written ∙ v.link_is;
            }
