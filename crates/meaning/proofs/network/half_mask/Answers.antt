-- The mask of the bits that are covered.
use Rattle.std.proofs.Common.{ap, ◌∙◌, arith}
use Rattle.filter.specs.Prefix.{prefix_mask}
use Rattle.filter.proofs.Masks.{mask_low}
use Rattle.meaning.specs.Meaning.{half_mask}
use Rattle.meaning.proofs.network.half_mask.Goals as goal

pub overflow_cast-result : goal.overflow_cast-result
overflow_cast-result c = omega (arith, c.prefix_mask.ensures, mask_low c.covered.result)

pub returns : goal.returns
unfolding half_mask
returns c = c.prefix_mask.ensures ∙ ap prefix_mask c.covered.ensures.0
