-- Numbers in a frame, joined byte by byte.
use Rattle.std.proofs.Common.{◌≡◌, ℕ, ◌+◌, ◌*◌, ◌^◌, ◌<◌, ◌≤◌, List, get_or, add-zero, add-one, zero-add, arith, lit<}
use Rattle.std.proofs.Math.Nat.{pow-le-pow_right}
use Rattle.std.proofs.lemmas.Grind.{pow_more}
use Rattle.meaning.specs.Frame.{number}

module _ (f : List ℕ) where
  pub number_1 : (at : ℕ) → number f 1 at ≡ get_or f at 0
  unfolding number
  number_1 at = simp (add-zero, zero-add)

  pub number_more : (k at : ℕ) → number f (k + 1) at ≡ number f k at * 256 + number f 1 (at + k)
  unfolding number
  number_more k at = rw (add-one k) (simp (add-zero, zero-add))

-- k bytes, and one more behind them.
module _ (joined b k : ℕ) (h : joined < 256 ^ k) (hb : b < 256) where
  pub grown : joined * 256 + b < 256 ^ (k + 1)
  grown = omega (arith, pow_more 256 k)

  pub room : k < 8 → joined * 256 + b < 2 ^ 64
  room e =
      let most : 256 ^ (k + 1) ≤ 256 ^ 8 = pow-le-pow_right {n = 256} (lit< tt) {i = k + 1} {j = 8} (omega arith) in
      omega (arith, grown)
