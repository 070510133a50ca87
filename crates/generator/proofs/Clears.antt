-- A front that is filled with zeros.
use Rattle.std.proofs.Common.{◌≡◌, ℕ, zero, suc, ◌≤◌, List, ◌++◌, length, take, drop, set, refl, sym, ap, ◌∙◌, arith, add-one}
use Rattle.std.proofs.Math.ListN.{replicate}
use Rattle.std.proofs.lemmas.List.Edits.{fill_more}
use lib.Seq.{length-take-le}
use Rattle.patches.specs.Same.{zeroed}

zeros : (n : ℕ) (w : List ℕ) → n ≤ length w → replicate n 0 ++ drop n w ≡ zeroed n w
unfolding zeroed
zeros zero w h = refl
zeros (suc n) w h =
    let e : set (replicate n 0 ++ drop n w) n 0 ≡ replicate (suc n) 0 ++ drop (suc n) w = rw add-one at (fill_more n 0 w (omega arith)) in
    sym e ∙ ap (λ (v : List ℕ). set v n 0) (zeros n w (omega arith))

pub filled : (n : ℕ) (w f : List ℕ) → n ≤ length w → f ≡ replicate (length (take n w)) 0 → f ++ drop n w ≡ zeroed n w
filled n w f h e = ap (λ (v : List ℕ). v ++ drop n w) e ∙ ap (λ (k : ℕ). replicate k 0 ++ drop n w) (length-take-le n w h) ∙ zeros n w h
