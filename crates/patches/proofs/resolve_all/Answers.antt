use Rattle.std.proofs.Common.{◌≤◌, ◌-◌, get_or, refl, ◌∙◌, arith}
use Rattle.patches.specs.Chain.{resolved, reach}
use Rattle.patches.proofs.Chains.{resolved_look, reach_look, resolved_far, reach_far, chain_none}
use Rattle.patches.proofs.resolve_all.Goals as goal

pub loop-head-init : goal.loop-head-init
loop-head-init c = record { descends = c.requires.descends; all_links = c.requires.l_in_bounds.0; in_links = c.requires.l_in_bounds.1; all_out = c.requires.l_in_bounds.3; in_target = c.requires.l_in_bounds.2; says_out = refl; says_reach = refl }

pub returns-then-distance-gt32767 : goal.returns-then-distance-gt32767
returns-then-distance-gt32767 c =
    let l = c.loop-head in
    let v = l.invariant in
    let a = c.args in
    let ls = a.work.now in
    record {
      value = rw (v.says_reach, reach_far a.target a.l ls l.out l.head v.descends (omega arith) (omega arith) (omega arith));
      out_after = rw (v.says_out, resolved_far a.target a.l ls l.out l.head v.descends (omega arith) (omega arith) (omega arith));
    }

pub put_off-requires : goal.put_off-requires
put_off-requires c = let v = c.loop-head.invariant in (omega (arith, v.all_out, v.in_links), omega arith)

pub loop-head-smaller : goal.loop-head-smaller
loop-head-smaller c = let v = c.loop-head.invariant in omega (arith, v.descends (c.loop-head.head - 1) (omega (arith, v.in_links)))

pub loop-head-preserved : goal.loop-head-preserved
loop-head-preserved c =
    let h = c.loop-head in
    let v = h.invariant in
    let a = c.args in
    let ls = a.work.now in
    let near : a.target - h.head ≤ 32767 = omega arith in
    let g : get_or ls (h.head - 1) 0 ≤ h.head - 1 = v.descends (h.head - 1) (omega (arith, v.in_links)) in
    record {
      descends = v.descends;
      all_links = v.all_links;
      in_links = omega (arith, v.in_links);
      all_out = omega (arith, c.put_off.auto.out, v.all_out);
      in_target = omega (arith, v.in_target);
      says_out = v.says_out ∙ resolved_look a.target a.l ls h.out h.head v.descends (omega arith) (omega arith) near ∙ rw c.put_off.ensures refl;
      says_reach = v.says_reach ∙ reach_look a.target a.l ls h.out h.head v.descends (omega arith) (omega arith) near;
    }

pub returns : goal.returns
unfolding resolved reach
returns c =
    let v = c.loop-head.invariant in
    let z = chain_none c.args.work.now c.loop-head.head (omega arith) in
    record { value = rw (v.says_reach, z); out_after = rw (v.says_out, z) }
