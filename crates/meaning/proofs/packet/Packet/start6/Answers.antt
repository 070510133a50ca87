-- The network header starts within 16 bytes.
use Rattle.checks.proofs.Checks.{net_small}
use Rattle.std.proofs.Common.{arith}
use Rattle.meaning.proofs.packet.Packet.start6.Goals as goal

pub overflow_add-result : goal.overflow_add-result
overflow_add-result c = omega (arith, net_small _ c.net_offset.ensures)
