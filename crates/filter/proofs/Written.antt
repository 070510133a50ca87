-- A written sheet is read back as it was written.
use Prim.Native.Nat.{ℕ, ◌+◌, ◌-◌, ◌*◌, ◌/◌, ◌%◌, ◌<◌}
use mathlib.Core.Path.{◌≡◌, ap, ◌∙◌}
use mathlib.Core.List.{List, ◌∷◌, ◌++◌}
use native.Mathlib.Omega.{arith}
use borrow.Author.Tests.{eq-eqb}
use lib.ListN.{length, drop, length-append, length-drop, get_or-append}
use lib.Seq.{take-append-le, drop-append-le, drop-append-add, get_or-append_seam, get_or-append-add, take_all}
use Rattle.filter.specs.Bytes.{be2}
use Rattle.std.specs.Prelude.{Some}
use Rattle.filter.specs.Sheet.{counts, step_count, prim_count, token_count, sections_of, steps_part, prims_part, tokens_part}
use Rattle.filter.specs.Written.{Front, written}

-- A number that stands in the front, and one right behind it.
be2_front : (xs ys : List ℕ) (p : ℕ) → p + 1 < length xs → be2 (xs ++ ys) p ≡ be2 xs p
unfolding be2
be2_front xs ys p h = rw (get_or-append xs ys 0 p (omega arith), get_or-append xs ys 0 (p + 1) h)

be2_behind : (xs : List ℕ) (x y : ℕ) (ys : List ℕ) → be2 (xs ++ (x ∷ y ∷ ys)) (length xs) ≡ x * 256 + y
unfolding be2
be2_behind xs x y ys = rw (get_or-append_seam xs x (y ∷ ys) 0, get_or-append-add xs (x ∷ y ∷ ys) 1 0)

module _ (front : List ℕ) (whole : Front front) (tokens : List ℕ) where
  abbrev behind : List ℕ
  behind = length tokens / 256 ∷ length tokens % 256 ∷ tokens

  abbrev a : ℕ
  a = step_count front

  abbrev b : ℕ
  b = prim_count front

  step_count_lem : step_count (written front tokens) ≡ a
  unfolding step_count written
  step_count_lem = be2_front front behind 0 (omega (arith, whole))

  prim_count_lem : prim_count (written front tokens) ≡ b
  unfolding prim_count written
  prim_count_lem = ap (be2 (front ++ behind)) (ap (λ (n : ℕ). 5 * n + 2) step_count_lem) ∙ be2_front front behind (5 * a + 2) (omega (arith, whole))

  token_count_lem : token_count (written front tokens) ≡ length tokens
  unfolding token_count written
  token_count_lem =
      let at : 5 * step_count (front ++ behind) + 24 * prim_count (front ++ behind) + 4 ≡ length front = omega (arith, step_count_lem, prim_count_lem, whole) in
      let n : length tokens / 256 * 256 + length tokens % 256 ≡ length tokens = omega arith in
      ap (be2 (front ++ behind)) at ∙ be2_behind front (length tokens / 256) (length tokens % 256) tokens ∙ n

  size : length (written front tokens) ≡ 5 * a + 24 * b + length tokens + 6
  unfolding written
  size = omega (arith, length-append front behind, whole)

  -- Refusal 2 does not meet it, and its counts are those written.
  pub written_sections : sections_of (written front tokens) ≡ Some (counts a b (length tokens))
  unfolding sections_of
  written_sections = rw (step_count_lem, prim_count_lem, token_count_lem, eq-eqb (length (written front tokens)) (5 * a + 24 * b + length tokens + 6) size)

  pub written_steps : steps_part (written front tokens) a ≡ steps_part front a
  unfolding steps_part written
  written_steps = rw (drop-append-le 2 front behind (omega (arith, whole)), take-append-le (5 * a + 2 - 2) (drop 2 front) behind (omega (arith, length-drop 2 front, whole)))

  pub written_prims : prims_part (written front tokens) a b ≡ prims_part front a b
  unfolding prims_part written
  written_prims =
      rw (
        drop-append-le (5 * a + 4) front behind (omega (arith, whole)),
        take-append-le (5 * a + 24 * b + 4 - (5 * a + 4)) (drop (5 * a + 4) front) behind (omega (arith, length-drop (5 * a + 4) front, whole)),
      )

  pub written_tokens : tokens_part (written front tokens) a b (length tokens) ≡ tokens
  unfolding tokens_part written
  written_tokens =
      let from : 5 * a + 24 * b + 6 ≡ length front + 2 = omega (arith, whole) in
      let n : 5 * a + 24 * b + length tokens + 6 - (5 * a + 24 * b + 6) ≡ length tokens = omega arith in
      rw (n, from, drop-append-add front behind 2) (take_all (length tokens) tokens (omega arith))
