-- What the stores of a turned part make of the output.
use Prim.Native.Nat.{ℕ, suc, ◌+◌, ◌/◌, ◌%◌, ◌<◌, ◌≤◌}
use mathlib.Core.Path.{◌≡◌, sym, ap, ◌∙◌}
use mathlib.Core.List.{List, [], ◌∷◌, ◌++◌}
use native.Mathlib.Omega.{arith}
use native.Mathlib.Numerals.{add-one}
use lib.ListN.{length, set, take, drop, length-append}
use lib.Seq.{sets, sets-eq, length-take-le}
use Rattle.filter.specs.Written.{written}
use Rattle.tree.specs.Tree.{Tree, flat}
use Rattle.tree.specs.Tree.Tree.{leaf, and, or, inv}
use Rattle.nots.specs.Turn.{past, wanted_at, denied_at, laid, reached_of}
use Rattle.nots.specs.declared.Reached.{Reached}
use Rattle.nots.proofs.Turns.{Two}

-- Stored in two runs.
pub sets_append : (o : List ℕ) (to : ℕ) (x y : List ℕ) → sets o to (x ++ y) ≡ sets (sets o to x) (to + length x) y
sets_append o to [] y = let z : to + 0 ≡ to = omega arith in rw z
sets_append o to (a ∷ x) y =
    let next : to + suc (length x) ≡ suc to + length x = omega arith in
    sets_append (set o to a) (suc to) x y ∙ ap (λ (k : ℕ). sets (sets (set o to a) (suc to) x) k y) (sym next)

some_tokens : (t : Tree) → 0 < length (flat t)
unfolding flat
some_tokens leaf = omega arith
some_tokens (and a b) = omega arith
some_tokens (or a b) = omega arith
some_tokens (inv a) = omega arith

module _ (ts : List ℕ) where
  pub wanted_some : (at : ℕ) → 0 < length (wanted_at ts at)
  unfolding wanted_at
  wanted_some at = some_tokens _

  pub denied_some : (at : ℕ) → 0 < length (denied_at ts at)
  unfolding denied_at
  denied_some at = some_tokens _

  pub past_above : (at : ℕ) → at ≤ past ts at
  unfolding past
  past_above at = omega arith

  pub wanted_two : (at : ℕ) → Two ts at → length (wanted_at ts at) ≡ length (wanted_at ts (at + 1)) + length (wanted_at ts (past ts (at + 1))) + 1
  wanted_two at w = ap length w.wants ∙ omega (arith, length-append (wanted_at ts (at + 1)) (wanted_at ts (past ts (at + 1))))

  pub denied_two : (at : ℕ) → Two ts at → length (denied_at ts at) ≡ length (denied_at ts (at + 1)) + length (denied_at ts (past ts (at + 1))) + 1
  denied_two at w = ap length w.denies ∙ omega (arith, length-append (denied_at ts (at + 1)) (denied_at ts (past ts (at + 1))))

-- An operator and two operands, F being what a part is turned into and G the place behind it.
pub wrote_two : (F : ℕ → List ℕ) (G : ℕ → ℕ) (o : List ℕ) (at to x : ℕ) {o1 o2 : List ℕ} {mid r : Reached}
    → F at ≡ x ∷ (F (at + 1) ++ F (G (at + 1))) → G at ≡ G (G (at + 1))
    → mid ≡ reached_of (G (at + 1)) (to + 1) (F (at + 1)) → o1 ≡ laid (set o to x) (to + 1) (F (at + 1))
    → r ≡ reached_of (G mid.token) mid.to (F mid.token) → o2 ≡ laid o1 mid.to (F mid.token)
    → (r ≡ reached_of (G at) to (F at)) × (o2 ≡ laid o to (F at))
unfolding reached_of laid
wrote_two F G o at to x {o1} {o2} {mid} {r} all behind em e1 er e2 =
    let A = F (at + 1) in
    let B = F (G (at + 1)) in
    let token : mid.token ≡ G (at + 1) = ap (λ (m : Reached). m.token) em in
    let place : mid.to ≡ to + 1 + length A = ap (λ (m : Reached). m.to) em in
    let end : mid.to + length (F mid.token) ≡ to + length (F at) =
    omega (arith, place, ap (λ (k : ℕ). length (F k)) token, ap length all, length-append A B) in
    let next : G mid.token ≡ G at = ap G token ∙ sym behind in (
      er ∙ ap (λ (k : ℕ). record { token = k; to = mid.to + length (F mid.token) }) next ∙ ap (λ (k : ℕ). record { token = G at; to = k }) end,
      e2 ∙ ap (λ (k : ℕ). sets o1 mid.to (F k)) token ∙ ap (λ (k : ℕ). sets o1 k B) place
          ∙ ap (λ l. sets l (to + 1 + length A) B) e1 ∙ sym (sets_append (set o to x) (to + 1) A B)
          ∙ ap (λ (k : ℕ). sets (set o to x) k (A ++ B)) (add-one to) ∙ ap (sets o to) (sym all),
    )

-- The front, two bytes of a count and the tokens are the new sheet, and what stands behind them stays.
pub written_out : (s o : List ℕ) (front size : ℕ) (W : List ℕ) {o1 o2 : List ℕ} → front ≤ length s → size ≡ length W → front + size + 2 ≤ length o
    → o1 ≡ take front s ++ drop front o → o2 ≡ laid (set (set o1 front (size / 256)) (front + 1) (size % 256)) (front + 2) W
    → o2 ≡ written (take front s) W ++ drop (front + size + 2) o
unfolding laid written
written_out s o front size W {o1} h e room e1 e2 =
    let F = take front s in
    let a = length W / 256 in
    let b = length W % 256 in
    let X = sets o 0 F in
    let long : length F ≡ front = length-take-le front s h in
    let start : 0 + length F ≡ front = omega (arith, long) in
    let two : front + 2 ≡ suc (suc front) = omega arith in
    let new = F ++ (a ∷ b ∷ W) in
    let copied : F ++ drop front o ≡ X = sym (sets-eq F o 0 (omega (arith, start, room)) ∙ ap (λ (k : ℕ). F ++ drop k o) start) in
    let all : 0 + length new ≡ front + size + 2 = omega (arith, length-append F (a ∷ b ∷ W), long, e) in
    e2
    ∙ ap (λ l. sets (set (set l front (size / 256)) (front + 1) (size % 256)) (front + 2) W) (e1 ∙ copied)
    ∙ ap (λ (k : ℕ). sets (set (set X front (k / 256)) (front + 1) (k % 256)) (front + 2) W) e
    ∙ ap (λ (k : ℕ). sets (set (set X front a) k b) (front + 2) W) (add-one front)
    ∙ ap (λ (k : ℕ). sets (set (set X front a) (suc front) b) k W) two
    ∙ ap (λ (k : ℕ). sets X k (a ∷ b ∷ W)) (sym start)
    ∙ sym (sets_append o 0 F (a ∷ b ∷ W))
    ∙ sets-eq new o 0 (omega (arith, all, room))
    ∙ ap (λ (k : ℕ). new ++ drop k o) all
