use Rattle.std.proofs.Common.{◌≡◌, ◌+◌, ◌∙◌, ℕ, suc, List, [], ◌∷◌, Bool, true, false, cond, rules, arith, take, refl, ap}
use Rattle.std.specs.Prelude.{count_by}
use Rattle.std.proofs.lemmas.List.{take_min, length-take}
use Rattle.std.proofs.lemmas.List.Sums.{count_by-le-length, sum_by-cons}
use Rattle.tree.specs.Tokens.{count, is_jump}
use Rattle.checks.proofs.length.jumps_of.Goals as goal

-- How many tokens pass a test, as the library counts them.
counted : (f : ℕ → Bool) (s : List ℕ) → count_by f s ≡ count f s
unfolding count
counted f [] = refl
counted f (x ∷ xs) = let h = counted f xs in sum_by-cons (λ (y : ℕ). cond (f y) 1 0) x xs ∙ go (f x) h
  where
    go : (b : Bool) → count_by f xs ≡ count f xs → cond b 1 0 + count_by f xs ≡ cond b (suc (count f xs)) (count f xs)
    go true e = omega arith
    go false e = omega arith

pub returns : goal.returns
returns c =
    let s = c.args.tokens.now in
    let e : c.count.result ≡ count_by is_jump (take c.min.result s) = search rules in
    let k = count_by-le-length is_jump (take c.min.result s) in
    let z : take c.min.result s ≡ take c.args.n s = rw (c.min.ensures, c.from.ensures) (take_min c.args.n s) in
    (e ∙ counted is_jump (take c.min.result s) ∙ ap (count is_jump) z, omega (arith, e, k, length-take c.min.result s))
