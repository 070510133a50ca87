-- The source's failures lead behind the jump to the destination's check.
use Rattle.std.proofs.Common.{arith}
use Rattle.pieces.proofs.Laws.{chains}
use Rattle.pieces.proofs.Leading.{lead_none}
use Rattle.codegen.proofs.Sizes.{range_length}
use Rattle.codegen.proofs.Laws.{behind, either_is}
use Rattle.codegen.proofs.ranges.check_ranges.Goals as goal

pub returns-in-SrcOrDst : goal.returns-in-SrcOrDst
returns-in-SrcOrDst c = grind (arith, chains, behind, either_is, lead_none, range_length)
