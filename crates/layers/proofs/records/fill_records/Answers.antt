use Rattle.std.proofs.Common.{◌≡◌, ◌<◌, ◌≤◌, ◌/◌, ◌∙◌, ℕ, length, refl, sym, ap, arith, rules, Ok}
use Rattle.std.proofs.lemmas.Result.{err_from_is_err_and}
use Rattle.layers.specs.Records.{plan_of, count_of, record_of, filled_to, filled_run, records_of}
use Rattle.layers.proofs.Runs.{count_fits, length_filled, filled_next, run_left}
use Rattle.layers.proofs.records.fill_records.Goals as goal

-- As many records as are planned are in the run and in the bytes.
module _ (n m k : ℕ) (e : plan_of n m ≡ Ok k) where
  many : count_of (plan_of n m) ≡ k
  unfolding count_of
  many = ap count_of e

  in_run : k ≤ m
  in_run = rw many at (count_fits n m).0

  in_bytes : k ≤ n / 8
  in_bytes = rw many at (count_fits n m).1

pub returns-in_err-n : goal.returns-in_err-n
unfolding count_of
returns-in_err-n c = let e = sym c.plan.ensures ∙ c.in_err-n.was in (let p = err_from_is_err_and c.from_residual.result c.from_residual.ensures.1 in rw (p.1, p.2, e), sym (run_left _ _ (ap count_of e)))

pub loop-k-init : goal.loop-k-init
unfolding filled_to records_of
loop-k-init c = refl

pub overflow_mul-k : goal.overflow_mul-k
overflow_mul-k c = let b = in_bytes _ _ _ (sym c.plan.ensures ∙ c.in_ok-n.was) in let h : c.loop-k.k < length c.args.bytes.now / 8 = omega arith in search rules

pub offset_bounds-out-k : goal.offset_bounds-out-k
offset_bounds-out-k c = let b = in_bytes _ _ _ (sym c.plan.ensures ∙ c.in_ok-n.was) in let h : c.loop-k.k < length c.args.bytes.now / 8 = omega arith in search rules

pub bounds-out-k : goal.bounds-out-k
bounds-out-k c =
    let b = in_run _ _ _ (sym c.plan.ensures ∙ c.in_ok-n.was) in
    omega (arith, ap length c.loop-k.invariant, length_filled c.args.bytes.now c.args.out.now c.loop-k.k (omega arith))

pub loop-k-preserved : goal.loop-k-preserved
unfolding record_of
loop-k-preserved c =
    let b = in_run _ _ _ (sym c.plan.ensures ∙ c.in_ok-n.was) in
    rw (c.loop-k.invariant, c.unwrap_or.ensures, c.fetch.ensures) (filled_next c.args.bytes.now c.args.out.now c.loop-k.k (omega arith))

pub returns : goal.returns
unfolding filled_run
returns c =
    let e = sym c.plan.ensures ∙ c.in_ok-n.was in
    let all : c.loop-k.k ≡ c.in_ok-n.n = omega arith in
    (sym e, c.loop-k.invariant ∙ ap (λ (k : ℕ). filled_to c.args.bytes.now c.args.out.now k) (all ∙ sym (many _ _ _ e)))
