use Rattle.std.proofs.Common.{◌≡◌, ◌+◌, ◌-◌, ℕ, sym, ◌∙◌, subst, rules, arith, None}
use Rattle.nots.specs.Turn.{Begins, fits, size_of}
use Rattle.nots.proofs.Places.{in_tokens}
use Rattle.nots.proofs.Turns.{under_at, two_at, no_levels, size_lone, size_under, size_told, size_bound, deep_first, deep_second, size_two}
use Rattle.nots.proofs.Writes.{past_above}
use Rattle.nots.proofs.+size_at.Goals as goal

pub returns-then-levels-eq0 : goal.returns-then-levels-eq0
returns-then-levels-eq0 t c = no_levels _ _ _ _ c.if-levels-eq0.true

pub bounds-tokens-at : goal.bounds-tokens-at
bounds-tokens-at t c = in_tokens _ _ c.requires.begins

pub overflow_add-at : goal.overflow_add-at
overflow_add-at t c = omega (arith, in_tokens _ _ c.requires.begins, c.requires.tokens_len_bound)

pub returns-then-t-eq0 : goal.returns-then-t-eq0
returns-then-t-eq0 t c = c.leaf_size.ensures ∙ size_lone _ _ _ _ c.requires.begins c.if-levels-eq0.false c.if-t-eq0.true

pub size_at-requires : goal.size_at-requires
size_at-requires t c = (omega (arith, in_tokens _ _ c.requires.begins), (c.requires.tokens_len_bound, (under_at _ _ c.requires.begins c.if-t-eq3.true).below))

pub returns-then-t-eq3 : goal.returns-then-t-eq3
returns-then-t-eq3 t c = c.size_at.ensures ∙ size_under _ _ _ _ c.if-levels-eq0.false (under_at _ _ c.requires.begins c.if-t-eq3.true)

pub size_at-requires-2 : goal.size_at-requires-2
size_at-requires-2 t c = (omega (arith, in_tokens _ _ c.requires.begins), (c.requires.tokens_len_bound, (two_at _ _ c.requires.begins c.if-t-eq0.false c.if-t-eq3.false).first))

pub returns-in_err-first : goal.returns-in_err-first
returns-in_err-first t c =
    let h : c.from_residual.result ≡ None = search rules in
    rw h (deep_first _ _ _ _ c.if-levels-eq0.false (two_at _ _ c.requires.begins c.if-t-eq0.false c.if-t-eq3.false) (sym c.in_err-first.ensures))

pub size_at-requires-3 : goal.size_at-requires-3
size_at-requires-3 t c =
    let a = c.args in
    let w = two_at _ _ c.requires.begins c.if-t-eq0.false c.if-t-eq3.false in
    let one : size_of a.tokens.now (a.at + 1) (a.levels - 1) a.denied ≡ fits c.in_ok-first.first.next c.in_ok-first.first.size = sym c.in_ok-first.ensures in
    let next = (size_told _ _ _ _ one).1 in
    (omega (arith, next, past_above a.tokens.now (a.at + 1), in_tokens _ _ c.requires.begins), (c.requires.tokens_len_bound, subst (λ (k : ℕ). Begins a.tokens.now k) (sym next) w.second))

pub returns-in_err-second : goal.returns-in_err-second
returns-in_err-second t c =
    let a = c.args in
    let one : size_of a.tokens.now (a.at + 1) (a.levels - 1) a.denied ≡ fits c.in_ok-first.first.next c.in_ok-first.first.size = sym c.in_ok-first.ensures in
    let h : c.from_residual-in_err-second.result ≡ None = search rules in
    rw h (deep_second _ _ _ _ c.if-levels-eq0.false (two_at _ _ c.requires.begins c.if-t-eq0.false c.if-t-eq3.false) one (sym c.in_err-second.ensures))

pub overflow_add-result : goal.overflow_add-result
overflow_add-result t c =
    let a = c.args in
    let w = two_at _ _ c.requires.begins c.if-t-eq0.false c.if-t-eq3.false in
    let one : size_of a.tokens.now (a.at + 1) (a.levels - 1) a.denied ≡ fits c.in_ok-first.first.next c.in_ok-first.first.size = sym c.in_ok-first.ensures in
    let two : size_of a.tokens.now c.in_ok-first.first.next (a.levels - 1) a.denied ≡ fits c.in_ok-second.second.next c.in_ok-second.second.size = sym c.in_ok-second.ensures in
    let next = (size_told _ _ _ _ one).1 in
    let here = subst (λ (k : ℕ). Begins a.tokens.now k) (sym next) w.second in
    omega (arith, size_bound _ _ _ _ w.first c.requires.tokens_len_bound one, size_bound _ _ _ _ here c.requires.tokens_len_bound two)

pub overflow_add-result-2 : goal.overflow_add-result-2
overflow_add-result-2 t c =
    let a = c.args in
    let w = two_at _ _ c.requires.begins c.if-t-eq0.false c.if-t-eq3.false in
    let one : size_of a.tokens.now (a.at + 1) (a.levels - 1) a.denied ≡ fits c.in_ok-first.first.next c.in_ok-first.first.size = sym c.in_ok-first.ensures in
    let two : size_of a.tokens.now c.in_ok-first.first.next (a.levels - 1) a.denied ≡ fits c.in_ok-second.second.next c.in_ok-second.second.size = sym c.in_ok-second.ensures in
    let next = (size_told _ _ _ _ one).1 in
    let here = subst (λ (k : ℕ). Begins a.tokens.now k) (sym next) w.second in
    omega (arith, size_bound _ _ _ _ w.first c.requires.tokens_len_bound one, size_bound _ _ _ _ here c.requires.tokens_len_bound two)

pub returns : goal.returns
returns t c =
    let a = c.args in
    let one : size_of a.tokens.now (a.at + 1) (a.levels - 1) a.denied ≡ fits c.in_ok-first.first.next c.in_ok-first.first.size = sym c.in_ok-first.ensures in
    let two : size_of a.tokens.now c.in_ok-first.first.next (a.levels - 1) a.denied ≡ fits c.in_ok-second.second.next c.in_ok-second.second.size = sym c.in_ok-second.ensures in
    size_two _ _ _ _ c.if-levels-eq0.false (two_at _ _ c.requires.begins c.if-t-eq0.false c.if-t-eq3.false) one two
