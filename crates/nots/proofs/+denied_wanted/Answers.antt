use Rattle.nots.proofs.Writes.{wanted_some, denied_some, past_above, wanted_two, denied_two, wrote_two}
use Rattle.nots.proofs.Turns.{lone_at, under_at, two_at}
use Rattle.nots.proofs.Places.{in_tokens}
use Rattle.nots.specs.declared.Reached.{Reached}
use Rattle.nots.specs.Turn.{Begins, past, wanted_at, denied_at, laid, reached_of}
use lib.ListN.{length, get_or, length-set}
use mathlib.Core.Path.{refl, sym, ap, subst}
use Prim.Native.Nat.{ℕ, ◌+◌}
use native.Mathlib.Numerals.{add-one}
use native.Mathlib.Omega.{arith}
use Rattle.nots.proofs.+denied_wanted.Goals as goal

-- the clauses, each by its name
of_pair_value : {A B : Type 0} → A × B → record { value : A; output_after : B }
of_pair_value p = record { value = p.0; output_after = p.1 }

pub denied-bounds-tokens-at : goal.denied-bounds-tokens-at
denied-bounds-tokens-at t c = in_tokens _ _ c.requires.begins

pub denied-overflow_add-at : goal.denied-overflow_add-at
denied-overflow_add-at t c = omega (arith, in_tokens _ _ c.requires.begins)

pub denied-wanted-requires : goal.denied-wanted-requires
denied-wanted-requires t c = let u = under_at _ _ c.requires.begins c.if-t-eq3.true in
    (omega (arith, in_tokens _ _ c.requires.begins), (u.below, rw (← u.denies) c.requires.at_in_bounds))

pub denied-returns-then-t-eq3 : goal.denied-returns-then-t-eq3
denied-returns-then-t-eq3 t c = let u = under_at _ _ c.requires.begins c.if-t-eq3.true in rw (u.next, u.denies) c.wanted.ensures

pub denied-bounds-output-to : goal.denied-bounds-output-to
denied-bounds-output-to t c = omega (arith, denied_some c.args.tokens.now c.args.at, c.requires.at_in_bounds)

pub denied-overflow_add-output : goal.denied-overflow_add-output
denied-overflow_add-output t c = omega (arith, denied_some c.args.tokens.now c.args.at, c.requires.at_in_bounds)

pub denied-bounds-output-to-then-t-eq0 : goal.denied-bounds-output-to-then-t-eq0
denied-bounds-output-to-then-t-eq0 t c = simp length-set (omega (arith, ap length (lone_at _ _ c.requires.begins c.if-t-eq0.true).denies, c.requires.at_in_bounds))

pub denied-overflow_add-result : goal.denied-overflow_add-result
denied-overflow_add-result t c = omega (arith, in_tokens _ _ c.requires.begins)

pub denied-overflow_add-result-then-t-eq0 : goal.denied-overflow_add-result-then-t-eq0
denied-overflow_add-result-then-t-eq0 t c = omega (arith, ap length (lone_at _ _ c.requires.begins c.if-t-eq0.true).denies, c.requires.at_in_bounds)

pub denied-returns-then-t-eq0 : goal.denied-returns-then-t-eq0
unfolding reached_of laid
denied-returns-then-t-eq0 t c = let l = lone_at _ _ c.requires.begins c.if-t-eq0.true in rw (l.next, l.denies, ← add-one c.args.to) (record { value = refl; output_after = refl })

pub denied-other-requires : goal.denied-other-requires
denied-other-requires t c = tt

pub denied-bounds-output-to-2 : goal.denied-bounds-output-to-2
denied-bounds-output-to-2 t c = omega (arith, denied_some c.args.tokens.now c.args.at, c.requires.at_in_bounds)

pub denied-overflow_add-at-2 : goal.denied-overflow_add-at-2
denied-overflow_add-at-2 t c = omega (arith, in_tokens _ _ c.requires.begins)

pub denied-overflow_add-to : goal.denied-overflow_add-to
denied-overflow_add-to t c = omega (arith, denied_some c.args.tokens.now c.args.at, c.requires.at_in_bounds)

pub denied-denied-mid-requires : goal.denied-denied-mid-requires
denied-denied-mid-requires t c = let w = two_at _ _ c.requires.begins c.if-t-eq0.false c.if-t-eq3.false in
    (omega (arith, in_tokens _ _ c.requires.begins), (w.first, simp length-set (omega (arith, denied_two _ _ w, c.requires.at_in_bounds))))

pub denied-denied-requires : goal.denied-denied-requires
unfolding reached_of
denied-denied-requires t c = let a = c.args in let w = two_at _ _ c.requires.begins c.if-t-eq0.false c.if-t-eq3.false in
    let token = ap (λ (m : Reached). m.token) c.denied-mid.ensures.value in
    let place = ap (λ (m : Reached). m.to) c.denied-mid.ensures.value in (
      omega (arith, token, past_above a.tokens.now (a.at + 1), in_tokens _ _ c.requires.begins),
      (subst (λ (n : ℕ). Begins a.tokens.now n) (sym token) w.second, omega (arith, place, ap (λ (n : ℕ). length (denied_at a.tokens.now n)) token, denied_two _ _ w, c.requires.at_in_bounds, c.denied-mid.auto.output, length-set a.output.now a.to c.other.result)),
    )

pub denied-returns : goal.denied-returns
denied-returns t c = let a = c.args in let w = two_at _ _ c.requires.begins c.if-t-eq0.false c.if-t-eq3.false in
    of_pair_value (wrote_two (denied_at a.tokens.now) (past a.tokens.now) a.output.now a.at a.to c.other.result (rw c.other.ensures w.denies) w.next
    c.denied-mid.ensures.value c.denied-mid.ensures.output_after c.denied.ensures.value c.denied.ensures.output_after)

pub wanted-bounds-tokens-at : goal.wanted-bounds-tokens-at
wanted-bounds-tokens-at t c = in_tokens _ _ c.requires.begins

pub wanted-overflow_add-at : goal.wanted-overflow_add-at
wanted-overflow_add-at t c = omega (arith, in_tokens _ _ c.requires.begins)

pub wanted-denied-requires : goal.wanted-denied-requires
wanted-denied-requires t c = let u = under_at _ _ c.requires.begins c.if-t-eq3.true in
    (omega (arith, in_tokens _ _ c.requires.begins), (u.below, rw (← u.wants) c.requires.at_in_bounds))

pub wanted-returns-then-t-eq3 : goal.wanted-returns-then-t-eq3
wanted-returns-then-t-eq3 t c = let u = under_at _ _ c.requires.begins c.if-t-eq3.true in rw (u.next, u.wants) c.denied.ensures

pub wanted-bounds-output-to : goal.wanted-bounds-output-to
wanted-bounds-output-to t c = omega (arith, wanted_some c.args.tokens.now c.args.at, c.requires.at_in_bounds)

pub wanted-overflow_add-result : goal.wanted-overflow_add-result
wanted-overflow_add-result t c = omega (arith, in_tokens _ _ c.requires.begins)

pub wanted-overflow_add-result-then-t-eq0 : goal.wanted-overflow_add-result-then-t-eq0
wanted-overflow_add-result-then-t-eq0 t c = omega (arith, wanted_some c.args.tokens.now c.args.at, c.requires.at_in_bounds)

pub wanted-returns-then-t-eq0 : goal.wanted-returns-then-t-eq0
unfolding reached_of laid
wanted-returns-then-t-eq0 t c = let l = lone_at _ _ c.requires.begins c.if-t-eq0.true in rw (l.next, l.wants, c.if-t-eq0.true) (record { value = refl; output_after = refl })

pub wanted-overflow_add-at-2 : goal.wanted-overflow_add-at-2
wanted-overflow_add-at-2 t c = omega (arith, in_tokens _ _ c.requires.begins)

pub wanted-overflow_add-to : goal.wanted-overflow_add-to
wanted-overflow_add-to t c = omega (arith, wanted_some c.args.tokens.now c.args.at, c.requires.at_in_bounds)

pub wanted-wanted-mid-requires : goal.wanted-wanted-mid-requires
wanted-wanted-mid-requires t c = let w = two_at _ _ c.requires.begins c.if-t-eq0.false c.if-t-eq3.false in
    (omega (arith, in_tokens _ _ c.requires.begins), (w.first, simp length-set (omega (arith, wanted_two _ _ w, c.requires.at_in_bounds))))

pub wanted-wanted-requires : goal.wanted-wanted-requires
unfolding reached_of
wanted-wanted-requires t c = let a = c.args in let w = two_at _ _ c.requires.begins c.if-t-eq0.false c.if-t-eq3.false in
    let token = ap (λ (m : Reached). m.token) c.wanted-mid.ensures.value in
    let place = ap (λ (m : Reached). m.to) c.wanted-mid.ensures.value in (
      omega (arith, token, past_above a.tokens.now (a.at + 1), in_tokens _ _ c.requires.begins),
      (subst (λ (n : ℕ). Begins a.tokens.now n) (sym token) w.second, omega (arith, place, ap (λ (n : ℕ). length (wanted_at a.tokens.now n)) token, wanted_two _ _ w, c.requires.at_in_bounds, c.wanted-mid.auto.output, length-set a.output.now a.to (get_or a.tokens.now a.at 0))),
    )

pub wanted-returns : goal.wanted-returns
wanted-returns t c = let a = c.args in let w = two_at _ _ c.requires.begins c.if-t-eq0.false c.if-t-eq3.false in
    of_pair_value (wrote_two (wanted_at a.tokens.now) (past a.tokens.now) a.output.now a.at a.to (get_or a.tokens.now a.at 0) w.wants w.next
    c.wanted-mid.ensures.value c.wanted-mid.ensures.output_after c.wanted.ensures.value c.wanted.ensures.output_after)
