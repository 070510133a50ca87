-- How pieces are put together: one after the other, one of two, and two ways by a number.
use Prim.Native.Nat.{ℕ}
use mathlib.Core.Path.{◌≡◌, refl, subst}
use mathlib.Core.Bool.{Bool, true, false, ◌&&◌, ◌||◌}
use mathlib.Core.List.{List, [], ◌∷◌, ◌++◌}
use mathlib.Core.Option.{Option, none}
use Rattle.ebpf.specs.Insn.{jump_always}
use Rattle.ebpf.specs.declared.insn.Insn.{Insn}
use Rattle.patches.specs.Code.{Slot}
use Rattle.patches.specs.Code.Slot.{success}
use Rattle.pieces.specs.Fragments.{past, settled, one_of, sides}
use Rattle.filter.specs.declared.ast.Dir.{Dir}
use Rattle.filter.specs.declared.ast.Dir.TheVariants.{SrcOrDst, Src, Dst, SrcAndDst}
use Rattle.meaning.specs.Meaning.{directed}
use Rattle.program.specs.Ends.{Cell}
use Rattle.program.proofs.Steps.{on_skip, on_ja}
use Rattle.sound.specs.Filled.{filled}
use Rattle.sound.specs.Piece.{Known, knows, nothing, Knows, Way, falls, jumps, Goes, Piece}
use Rattle.sound.proofs.Filled.{filled_then, filled_settled, on_past, off_always}

module _ {frame : List ℕ} {start : ℕ} where
  -- Where less need be known, more may be.
  goes_weaker : (less more : Known) {v k : ℕ} {rest : List Insn} → ((c4 c6 : Cell) → Knows more c4 c6 → Knows less c4 c6)
      → Goes frame start less v k rest → Goes frame start more v k rest
  goes_weaker less more f h c0 c4 c5 c6 q = h c0 c4 c5 c6 (f c4 c6 q)

  -- A piece that falls through is one that may jump.
  pub lands : {first then else : Known} {xs : List Slot} {p : Bool} → Piece frame start falls first then else xs p
      → Piece frame start jumps first then else xs p
  lands m = record { runs = λ v a b rest h h'. m.runs v a b rest (λ t. (h t).0) h' }

  pub decides : {way : Way} {first then else : Known} {xs : List Slot} {p q : Bool} → Piece frame start way first then else xs p → p ≡ q
      → Piece frame start way first then else xs q
  decides {way} {first} {then} {else} {xs} m e = subst (λ q. Piece frame start way first then else xs q) e m

  -- What is known afterwards may be weakened.
  weakens : {way : Way} {first then else then' else' : Known} {xs : List Slot} {p : Bool}
      → ((c4 c6 : Cell) → Knows then c4 c6 → Knows then' c4 c6) → ((c4 c6 : Cell) → Knows else c4 c6 → Knows else' c4 c6)
      → Piece frame start way first then else xs p → Piece frame start way first then' else' xs p
  weakens {way = falls} {then = then} {else = else} {then' = then'} {else' = else'} f g m =
      record { runs = λ v a b rest h h'. m.runs v a b rest (λ t. goes_weaker then' then f (h t)) (λ t. goes_weaker else' else g (h' t)) }
  weakens {way = jumps} {then = then} {else = else} {then' = then'} {else' = else'} f g m =
      record {
        runs = λ v a b rest h h'. m.runs v a b rest
            (λ t. (goes_weaker then' then f (h t).0, goes_weaker then' then f (h t).1)) (λ t. goes_weaker else' else g (h' t));
      }

  pub forgets : {way : Way} {first then else : Known} {xs : List Slot} {p : Bool} → Piece frame start way first then else xs p
      → Piece frame start way first nothing nothing xs p
  forgets m = weakens (λ c4 c6 q. (tt, tt)) (λ c4 c6 q. (tt, tt)) m

  pub forgets_on_failure : {way : Way} {first then else : Known} {xs : List Slot} {p : Bool} → Piece frame start way first then else xs p
      → Piece frame start way first then nothing xs p
  forgets_on_failure m = weakens (λ c4 c6 q. q) (λ c4 c6 q. (tt, tt)) m

  pub forgets_four : {way : Way} {first : Known} {four six four' six' : Option ℕ} {xs : List Slot} {p : Bool}
      → Piece frame start way first (knows four six) (knows four' six') xs p
      → Piece frame start way first (knows none six) (knows none six') xs p
  forgets_four m = weakens (λ c4 c6 q. (tt, q.1)) (λ c4 c6 q. (tt, q.1)) m

  -- What is known first need not be used.
  pub ignores : {way : Way} {first then else : Known} {xs : List Slot} {p : Bool} → Piece frame start way nothing then else xs p
      → Piece frame start way first then else xs p
  ignores {first = first} m =
      record { runs = λ v a b rest h h'. goes_weaker nothing first (λ c4 c6 q. (tt, tt)) (m.runs v a b rest h h') }

  -- No code at all.
  pub no_code : {known else : Known} → Piece frame start falls known known else [] true
  unfolding filled
  no_code = record { runs = λ v a b rest h h'. h refl }

  -- And: the second test is made where the first holds.
  pub both : {way : Way} {first mid then else : Known} {xs ys : List Slot} {p q : Bool} → Piece frame start falls first mid else xs p
      → (p ≡ true → Piece frame start way mid then else ys q) → Piece frame start way first then else (xs ++ ys) (p && q)
  both {xs = xs} {ys = ys} {p = true} m n =
      record {
        runs = λ v a b rest h h'. rw (filled_then a b xs ys rest)
            (m.runs v (past ys a) (past ys b) (filled a b ys ++ rest) (λ t. (n refl).runs v a b rest h h')
            (λ t c0 c4 c5 c6 k. on_past a b ys (h' (cc) c0 c4 c5 c6 k)));
      }
  both {xs = xs} {ys = ys} {p = false} m n =
      record {
        runs = λ v a b rest h h'. rw (filled_then a b xs ys rest)
            (m.runs v (past ys a) (past ys b) (filled a b ys ++ rest) (λ t. (n t).runs v a b rest (λ e. h (cc)) (λ e. h' refl))
            (λ t c0 c4 c5 c6 k. on_past a b ys (h' refl c0 c4 c5 c6 k)));
      }

  -- Or: the first one's success jumps past the second.
  pub either : {first then mid else : Known} {xs ys : List Slot} {p q : Bool} → Piece frame start jumps first then mid xs p
      → Piece frame start jumps mid then else ys q → Piece frame start jumps first then else (one_of xs ys) (p || q)
  unfolding one_of filled past
  either {xs = xs} {ys} {p} {q} m n =
      record {
        runs = λ v a b rest h h'.
            let more : List Slot = success (jump_always 0) ∷ ys in
            rw (filled_then a b (settled 1 xs) more rest, filled_settled (past more a) (past more b) 1 xs, off_always (past ys a))
            (m.runs v (past more a) 1 (jump_always (past ys a) ∷ (filled a b ys ++ rest))
            (λ t. (λ c0 c4 c5 c6 k. on_ja (on_past a b ys ((h (rw t)).1 c0 c4 c5 c6 k)), λ c0 c4 c5 c6 k. on_skip (on_past a b ys ((h (rw t)).1 c0 c4 c5 c6 k))))
            (λ t c0 c4 c5 c6 k. on_skip (n.runs v a b rest (λ u. h (rw (t, u))) (λ u. h' (rw (t, u))) c0 c4 c5 c6 k)));
      }

  -- The two sides by direction, where both keep what is known.
  pub by_direction : {known : Known} {xs ys : List Slot} {p q : Bool} (dir : Dir) → Piece frame start falls known known known xs p
      → Piece frame start falls known known known ys q → Piece frame start jumps known known known (sides dir xs ys) (directed dir p q)
  unfolding sides directed
  by_direction SrcOrDst m n = either (lands m) (lands n)
  by_direction Src m n = lands m
  by_direction Dst m n = lands n
  by_direction SrcAndDst m n = lands (both m (λ t. n))
