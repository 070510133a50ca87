use Rattle.std.proofs.Common.{ℕ, ◌+◌, ◌*◌, ap, ◌∙◌, refl, inl, inr, arith}
use Rattle.filter.specs.Ast.{net_offset}
use Rattle.filter.specs.declared.ast.LinkType.{LinkType}
use Rattle.codegen.specs.Primitives.{check_net6}
use Rattle.codegen.proofs.Halves.{half_leads, half_next, halves_done, start, end_fits, side_leads, over_fits, side_next, sides_done}
use Rattle.filter.proofs.Links.{net_low}
use Rattle.codegen.proofs.ip6.check_sides.Invariants.{part}
use Rattle.codegen.proofs.ip6.check_sides.Goals.{else-loop-i-test, then-loop-i-test+then-prefix-i}
use Rattle.codegen.proofs.ip6.check_sides.Goals as goal

pub loop-side-init : goal.loop-side-init
loop-side-init c = let a = c.args in
    rw c.first_side-side.ensures (start a.dir (part a.code.now.mode a.code.now.link a.addr a.prefix) a.code.now c.requires)

pub side_end-end-requires : goal.side_end-end-requires
side_end-end-requires c =
    let a = c.args in
    let m = a.code.now.mode in
    let k = a.code.now.link in
    let l = c.loop-side in
    let p = part m k a.addr a.prefix in
    let size = c.side_length-n.ensures.by_index m k a.addr (net_offset k + 8) in
    let in_side = rw c.past_sides-side-end.ensures.0 at c.loop-side-test.true in
    end_fits a.dir p c.side_length-n.result size a.code.now l.code l.side l.invariant in_side

pub loop-i-init : goal.loop-i-init
loop-i-init c =
    let a = c.args in
    let m = a.code.now.mode in
    let k = a.code.now.link in
    let l = c.loop-side in
    let p = part m k a.addr a.prefix in
    let size = c.side_length-n.ensures.by_index m k a.addr (net_offset k + 8) in
    let in_side = rw c.past_sides-side-end.ensures.0 at c.loop-side-test.true in
    let code = check_net6 m k a.addr a.prefix c.net_plus-at.result 8 0 in
    let is = ap (λ (at : ℕ). check_net6 m k a.addr a.prefix at 8 0) (c.net_plus-at.ensures ∙ ap (λ (link : LinkType). net_offset link + (8 + 16 * l.side)) l.invariant.link_is) in
    record {
      made = refl;
      leads = side_leads a.dir p c.side_length-n.result size a.code.now l.code l.side l.invariant in_side c.side_end-end.result c.side_end-end.ensures code is c.side_length-n.ensures.upper_bound;
      i_in = omega arith;
      mode_is = l.invariant.mode_is;
      link_is = l.invariant.link_is;
    }

pub check_segment-requires : goal.check_segment-requires
check_segment-requires c =
    let a = c.args in
    let i = c.loop-i in
    record {
      leads = half_leads a.code.now.mode a.code.now.link a.addr a.prefix c.net_plus-at.result c.side_end-end.result c.loop-side.code i.code i.i i.invariant c.loop-i-test.true c.if-prefix-i.false;
      i_bound = (c.loop-i-test.true, c.if-prefix-i.false, omega (arith, c.loop-side-test.true, c.past_sides-side-end.ensures.1, c.net_plus-at.ensures, net_low c.loop-side.code.link));
    }

pub loop-i-preserved : goal.loop-i-preserved
loop-i-preserved c =
    let a = c.args in
    let i = c.loop-i in
    half_next a.code.now.mode a.code.now.link a.addr a.prefix c.net_plus-at.result c.side_end-end.result c.loop-side.code i.code i.i c.check_segment.new.code i.invariant
    c.loop-i-test.true c.if-prefix-i.false c.check_segment.ensures

pub push_over-requires : goal.push_over-requires
push_over-requires c =
    let a = c.args in
    let m = a.code.now.mode in
    let k = a.code.now.link in
    let l = c.loop-side in
    let p = part m k a.addr a.prefix in
    let size = c.side_length-n.ensures.by_index m k a.addr (net_offset k + 8) in
    let in_side = rw c.past_sides-side-end.ensures.0 at c.loop-side-test.true in
    let code = check_net6 m k a.addr a.prefix c.net_plus-at.result 8 0 in
    let is = ap (λ (at : ℕ). check_net6 m k a.addr a.prefix at 8 0) (c.net_plus-at.ensures ∙ ap (λ (link : LinkType). net_offset link + (8 + 16 * l.side)) l.invariant.link_is) in
    let done = halves_done m k a.addr a.prefix c.net_plus-at.result c.side_end-end.result l.code c.loop-i.code c.loop-i.i c.loop-i.invariant
    (elim c.loop-i-test.branch [ else-loop-i-test w ↦ inl w.loop-i-test.false | then-loop-i-test+then-prefix-i w ↦ inr w.if-prefix-i.true ]) in
    over_fits a.dir p c.side_length-n.result size a.code.now l.code l.side l.invariant in_side c.side_end-end.result c.side_end-end.ensures code is c.loop-i.code done

pub loop-side-preserved : goal.loop-side-preserved
loop-side-preserved c =
    let a = c.args in
    let m = a.code.now.mode in
    let k = a.code.now.link in
    let l = c.loop-side in
    let p = part m k a.addr a.prefix in
    let size = c.side_length-n.ensures.by_index m k a.addr (net_offset k + 8) in
    let in_side = rw c.past_sides-side-end.ensures.0 at c.loop-side-test.true in
    let code = check_net6 m k a.addr a.prefix c.net_plus-at.result 8 0 in
    let is = ap (λ (at : ℕ). check_net6 m k a.addr a.prefix at 8 0) (c.net_plus-at.ensures ∙ ap (λ (link : LinkType). net_offset link + (8 + 16 * l.side)) l.invariant.link_is) in
    let done = halves_done m k a.addr a.prefix c.net_plus-at.result c.side_end-end.result l.code c.loop-i.code c.loop-i.i c.loop-i.invariant
    (elim c.loop-i-test.branch [ else-loop-i-test w ↦ inl w.loop-i-test.false | then-loop-i-test+then-prefix-i w ↦ inr w.if-prefix-i.true ]) in
    side_next a.dir p c.side_length-n.result size a.code.now l.code l.side l.invariant in_side c.side_end-end.result c.side_end-end.ensures code is c.loop-i.code done
    c.push_over.new.code c.push_over.ensures

pub returns : goal.returns
returns c =
    let a = c.args in
    let m = a.code.now.mode in
    let k = a.code.now.link in
    let l = c.loop-side in
    sides_done a.dir (part m k a.addr a.prefix) c.side_length-n.result (c.side_length-n.ensures.by_index m k a.addr (net_offset k + 8)) a.code.now l.code l.side l.invariant
    (rw c.past_sides-side-end.ensures.0 at c.loop-side-test.false)
