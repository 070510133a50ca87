-- What stays as it was.
use Rattle.std.specs.Prelude.{ℕ, zero, suc, ◌≤◌, ◌≡◌, List, get_or, set, length}
use Rattle.patches.specs.Code.{Emission}

-- From m on the second list is as the first: "Nothing else changes."
abbrev pub SameFrom : ℕ → List ℕ → List ℕ → Type 0
SameFrom m a b = (p : ℕ) → m ≤ p → get_or b p 0 ≡ get_or a p 0

-- The first n are zero: "the first 8 x L output bytes are zero", "the first L + 8 x tokens work numbers end as zero".
unfoldable pub zeroed : ℕ → List ℕ → List ℕ
zeroed zero a = a
zeroed (suc n) a = set (zeroed n a) n 0

-- Mode, link and the lent buffers are as before, and these as long as before.
pub record Kept (e e' : Emission) : Type 0 where
  pub setting : e'.setting ≡ e.setting
  pub out_len : length e'.out ≡ length e.out
  pub work_len : length e'.work ≡ length e.work
