use Rattle.std.proofs.Common.{◌≡◌, ◌-◌, arith}
use Rattle.filter.specs.Prefix.{prefix_mask}
use Rattle.filter.proofs.Masks.{few}
use Rattle.filter.proofs.prefix.prefix_mask.Goals as goal

pub overflow_sub-result : goal.overflow_sub-result
overflow_sub-result c =
    let left : c.saturating_sub.result ≡ 16 - c.args.bits = omega (arith, c.saturating_sub.ensures) in
    rw left (omega (arith, few c.args.bits))

pub returns : goal.returns
unfolding prefix_mask
returns c =
    let left : c.saturating_sub.result ≡ 16 - c.args.bits = omega (arith, c.saturating_sub.ensures) in
    rw left (omega (arith, few c.args.bits))
