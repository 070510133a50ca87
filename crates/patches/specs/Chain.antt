-- A list of patches is a chain in `work`: number p holds the place of the next patch plus one, 0 at the end; the last patch stands first.
use Rattle.std.specs.Prelude.{Result, Ok, Err, ℕ, zero, suc, ◌+◌, ◌-◌, ◌*◌, ◌/◌, ◌%◌, ◌<◌, ◌≤◌, List, [], ◌∷◌, cond, ltb, get_or, set}
use Rattle.patches.specs.declared.TooFar.{TooFar}

-- No link of the first l leads to a later place, nor to its own.
abbrev pub Descends : ℕ → List ℕ → Type 0
Descends l links = (p : ℕ) → p < l → get_or links p 0 ≤ p

-- The places of a chain, of which no more than so many are followed.
unfoldable pub chain : ℕ → List ℕ → ℕ → List ℕ
chain zero links head = []
chain (suc n) links zero = []
chain (suc n) links (suc p) = p ∷ chain n links (get_or links p 0)

-- The places of the chain whose head, a place plus one, is given: as it descends, it has no more places than that.
unfoldable pub chain_of : List ℕ → ℕ → List ℕ
chain_of links head = chain head links head

-- The distance of the jump at place p: the two bytes of `off`, little-endian.
unfoldable pub put_off : List ℕ → ℕ → ℕ → List ℕ
put_off out p distance = set (set out (8 * p + 2) (distance % 256)) (8 * p + 3) (distance / 256)

-- The Rust's `resolve_all`: the bytes once each jump goes to the target, in the order given, up to the first that is too far.
unfoldable pub resolved : ℕ → List ℕ → List ℕ → List ℕ
resolved target [] out = out
resolved target (p ∷ ps) out =
    cond (ltb 32767 (target - suc p)) out (resolved target ps (put_off out p (target - suc p)))

-- Refusal 10, "jump distance above 32767": whether a jump is too far.
abbrev pub too_far : TooFar
too_far = record {}

abbrev pub Patched : Type 0
Patched = Result (Unit {0}) TooFar

unfoldable pub reach : ℕ → List ℕ → Patched
reach target [] = Ok tt
reach target (p ∷ ps) = cond (ltb 32767 (target - suc p)) (Err too_far) (reach target ps)
