-- The exits, then the two lists.
use Rattle.std.proofs.Common.{◌≡◌, ℕ, ◌+◌, List, length, Err, rules, sym, ap, ◌∙◌, arith}
use Rattle.refusals.specs.declared.Reason.TheVariants.{FarJump}
use Rattle.patches.specs.Chain.{chain_of, reach, resolved}
use Rattle.patches.specs.Code.{Emission, emission, with_out}
use Rattle.patches.proofs.Bytes.{length_resolved}
use Rattle.generator.proofs.Ends.{exits_fit, work_is, exits_kept, first_far, second_far, all_near}
use Rattle.generator.proofs.end.Goals as goal

pub emit_exits-requires : goal.emit_exits-requires
emit_exits-requires c = exits_fit c.args.l _ c.requires.pos_bound.0 c.requires.pos_bound.2

pub resolve_all-requires : goal.resolve_all-requires
unfolding emission
resolve_all-requires c =
    let a = c.args in
    let y = emission a.code.now in
    let b = c.requires in
    let y1 = emission c.emit_exits.new.code in
    let e : c.emit_exits.new.code.work.now ≡ a.code.now.work.now = work_is a.l y b.some b.pos_bound.0 y1 c.emit_exits.ensures in
    let len = (exits_kept a.l y b.some b.pos_bound.0 y1 c.emit_exits.ensures).out_len in
    let r = b.some.rel in
    rw e (record {
      descends = r.descends;
      l_in_bounds = (omega (arith, r.room), omega (arith, r.success_list.below, r.pos_in), r.success_list.below, omega (arith, len, b.pos_bound.1));
    })

pub resolve_all-requires-2 : goal.resolve_all-requires-2
unfolding emission
resolve_all-requires-2 c =
    let a = c.args in
    let y = emission a.code.now in
    let b = c.requires in
    let y1 = emission c.emit_exits.new.code in
    let e : c.emit_exits.new.code.work.now ≡ a.code.now.work.now = work_is a.l y b.some b.pos_bound.0 y1 c.emit_exits.ensures in
    let len = (exits_kept a.l y b.some b.pos_bound.0 y1 c.emit_exits.ensures).out_len in
    let r = b.some.rel in
    let k = c.resolve_all.ensures.out_after in
    let w : c.resolve_all.new.self.work.now ≡ a.code.now.work.now = ap (λ (v : Emission). v.work) k ∙ e in
    let same : length c.resolve_all.new.self.out.now ≡ length c.emit_exits.new.code.out.now = ap (λ (v : Emission). length v.out) k ∙ length_resolved _ _ _ in
    rw w (record {
      descends = r.descends;
      l_in_bounds = (omega (arith, r.room), omega (arith, r.failure_list.below, r.pos_in), omega (arith, r.failure_list.below), omega (arith, same, len, b.pos_bound.1));
    })

pub returns-in_err-resolve_all : goal.returns-in_err-resolve_all
unfolding emission
returns-in_err-resolve_all c =
    let a = c.args in
    let y = emission a.code.now in
    let b = c.requires in
    let y1 = emission c.emit_exits.new.code in
    let e : c.from_residual.result ≡ Err (record { reason = FarJump; place = 0 }) = search rules in
    let r = first_far a.l y b.some b.pos_bound.0 y1 c.emit_exits.ensures (sym c.in_err-resolve_all.was ∙ c.resolve_all.ensures.value) (emission c.resolve_all.new.self) c.resolve_all.ensures.out_after in
    record { try_ok = rw e r.try_ok; kept = r.kept; same_from = r.same_from; work_unchanged = r.work_unchanged }

pub returns-in_err-resolve_all-2 : goal.returns-in_err-resolve_all-2
unfolding emission
returns-in_err-resolve_all-2 c =
    let a = c.args in
    let y = emission a.code.now in
    let b = c.requires in
    let y1 = emission c.emit_exits.new.code in
    let near = sym c.in_ok-resolve_all.was ∙ c.resolve_all.ensures.value in
    let w : c.resolve_all.new.self.work.now ≡ c.emit_exits.new.code.work.now = ap (λ (v : Emission). v.work) c.resolve_all.ensures.out_after in
    let h = c.resolve_all-2.ensures.value ∙ ap (λ (q : List ℕ). reach (a.code.now.patches.pos + 2) (chain_of q a.code.now.patches.failure.head)) w in
    let z = c.resolve_all-2.ensures.out_after
    ∙ ap (λ (v : Emission). with_out (resolved (a.code.now.patches.pos + 2) (chain_of v.work a.code.now.patches.failure.head) v.out) v) c.resolve_all.ensures.out_after in
    let e : c.from_residual-in_err-resolve_all-2.result ≡ Err (record { reason = FarJump; place = 0 }) = search rules in
    let r = second_far a.l y b.some b.pos_bound.0 y1 c.emit_exits.ensures near (sym c.in_err-resolve_all-2.was ∙ h) (emission c.resolve_all-2.new.self) z in
    record { try_ok = rw e r.try_ok; kept = r.kept; same_from = r.same_from; work_unchanged = r.work_unchanged }

pub returns : goal.returns
unfolding emission
returns c =
    let a = c.args in
    let y = emission a.code.now in
    let b = c.requires in
    let y1 = emission c.emit_exits.new.code in
    let near = sym c.in_ok-resolve_all.was ∙ c.resolve_all.ensures.value in
    let w : c.resolve_all.new.self.work.now ≡ c.emit_exits.new.code.work.now = ap (λ (v : Emission). v.work) c.resolve_all.ensures.out_after in
    let h = c.resolve_all-2.ensures.value ∙ ap (λ (q : List ℕ). reach (a.code.now.patches.pos + 2) (chain_of q a.code.now.patches.failure.head)) w in
    let z = c.resolve_all-2.ensures.out_after
    ∙ ap (λ (v : Emission). with_out (resolved (a.code.now.patches.pos + 2) (chain_of v.work a.code.now.patches.failure.head) v.out) v) c.resolve_all.ensures.out_after in
    all_near a.l y b.some b.pos_bound.0 y1 c.emit_exits.ensures near (sym c.in_ok-resolve_all-2.was ∙ h) (emission c.resolve_all-2.new.self) z
