-- No link's header starts far from the frame's start.
use Rattle.std.proofs.Common.{arith}
use Rattle.filter.proofs.Links.{net_low}
use Rattle.pieces.proofs.ether.net_plus.Goals as goal

pub overflow_add-result : goal.overflow_add-result
overflow_add-result c = omega (arith, net_low c.args.link, c.net_offset.ensures)

pub returns : goal.returns
returns c = rw c.net_offset.ensures
