use Rattle.std.proofs.Common.{◌≡◌, ℕ, ◌+◌, ◌-◌, ◌*◌, ◌<◌, Ok, Err, rules, arith, refl, ap, ◌∙◌}
use Rattle.refusals.specs.declared.Reason.TheVariants.{FarJump}
use Rattle.patches.specs.Code.{Emission, emission}
use Rattle.patches.specs.Same.{SameFrom, Kept}
use Rattle.patches.proofs.Finishes.{top, top_some, next_up, next_stay, next_far, bottom}
use Rattle.patches.proofs.Unchanged.{from_trans, from_more, kept_trans}
use Rattle.patches.proofs.Codegen.finish.Invariants.{Inv}
use Rattle.patches.proofs.Codegen.finish.Goals as goal

-- What stays over one operator more.
module _ (l height n : ℕ) (y₀ y y' : Emission) (v : Inv y₀ l height y n) (z : 0 < n) (k : Kept y y') (so : SameFrom (8 * l) y.out y'.out)
    (sw : SameFrom (l + 3 * (n - 1) + 3) y.work y'.work) where
  stays : record { kept : Kept y₀ y'; same_from : SameFrom (8 * l) y₀.out y'.out; same_from_2 : SameFrom (l + 3 * height) y₀.work y'.work }
  stays = record {
    kept = kept_trans v.kept k;
    same_from = from_trans (8 * l) y₀.out y.out y'.out v.same_from so;
    same_from_2 = from_trans (l + 3 * height) y₀.work y.work y'.work v.same_from_2 (from_more (l + 3 * (n - 1) + 3) (l + 3 * height) y.work y'.work (omega (arith, v.n_in)) sw);
  }

pub loop-n-init : goal.loop-n-init
unfolding emission
loop-n-init c = record {
  every = λ fs sp fp lo r b. record { fs = fs; sp = sp; fp = fp; lo = lo; rel = r; budget = b; same = refl };
  room = c.requires.some.rel.room;
  n_in = omega arith;
  outs = c.requires.l_in_bounds.0;
  kept = record { setting = refl; out_len = refl; work_len = refl };
  same_from = λ p h. refl;
  same_from_2 = λ p h. refl;
}

pub bounds-self-l : goal.bounds-self-l
unfolding emission
bounds-self-l c = omega (arith, c.loop-n.invariant.room)

pub close-requires : goal.close-requires
unfolding emission
close-requires c =
    let p = c.loop-n in
    let a = c.args in
    let s = c.requires.some in
    let y = p.invariant.every s.fs s.sp s.fp s.lo s.rel s.budget in
    let w = p.self.work.now in
    let st = p.self.patches in
    let z : 0 < p.n = omega arith in
    record {
      some_top = top_some a.l w p.n st y.fs y.sp y.fp y.lo (top a.l w p.n st y.fs y.sp y.fp y.lo z y.rel y.budget);
      l_in_bounds = (p.invariant.outs, c.requires.l_in_bounds.1);
    }

pub loop-n-preserved : goal.loop-n-preserved
unfolding emission
loop-n-preserved c =
    let p = c.loop-n in
    let a = c.args in
    let v = p.invariant in
    let z : 0 < p.n = c.loop-n-test.true in
    let k = c.close.ensures in
    let u = stays a.l a.height p.n (emission a.self.now) (emission p.self) (emission c.close.new.self) v z k.kept k.same_from k.same_from_2 in
    record {
      every = λ fs sp fp lo r b. next_up _ _ (emission p.self) p.n z (v.every fs sp fp lo r b) (emission c.close.new.self) _ k.close_ok (c.in_ok-close.was ∙ ap Ok c.in-Up.is);
      room = omega (arith, k.kept.work_len, v.room);
      n_in = omega (arith, v.n_in);
      outs = omega (arith, k.kept.out_len, v.outs);
      kept = u.kept;
      same_from = u.same_from;
      same_from_2 = u.same_from_2;
    }

pub returns-in-Stay : goal.returns-in-Stay
unfolding emission
returns-in-Stay c =
    let p = c.loop-n in
    let a = c.args in
    let v = p.invariant in
    let z : 0 < p.n = c.loop-n-test.true in
    let k = c.close.ensures in
    let u = stays a.l a.height p.n (emission a.self.now) (emission p.self) (emission c.close.new.self) v z k.kept k.same_from k.same_from_2 in
    record {
      finish_ok = λ fs sp fp lo r b. next_stay _ _ (emission p.self) p.n z (v.every fs sp fp lo r b) (emission c.close.new.self) _ k.close_ok (c.in_ok-close.was ∙ ap Ok c.in-Stay.is);
      kept = u.kept;
      same_from = u.same_from;
      same_from_2 = u.same_from_2;
    }

pub returns-in_err-close : goal.returns-in_err-close
unfolding emission
returns-in_err-close c =
    let p = c.loop-n in
    let a = c.args in
    let v = p.invariant in
    let z : 0 < p.n = c.loop-n-test.true in
    let k = c.close.ensures in
    let u = stays a.l a.height p.n (emission a.self.now) (emission p.self) (emission c.close.new.self) v z k.kept k.same_from k.same_from_2 in
    let e : c.from_residual.result ≡ Err (record { reason = FarJump; place = 0 }) = search rules in
    record {
      finish_ok = λ fs sp fp lo r b. rw e (next_far _ _ (emission p.self) p.n z (v.every fs sp fp lo r b) (emission c.close.new.self) _ k.close_ok _ c.in_err-close.was);
      kept = u.kept;
      same_from = u.same_from;
      same_from_2 = u.same_from_2;
    }

pub returns : goal.returns
unfolding emission
returns c =
    let p = c.loop-n in
    let v = p.invariant in
    record {
      finish_ok = λ fs sp fp lo r b. bottom _ _ (emission p.self) p.n (omega arith) (v.every fs sp fp lo r b);
      kept = v.kept;
      same_from = v.same_from;
      same_from_2 = v.same_from_2;
    }
