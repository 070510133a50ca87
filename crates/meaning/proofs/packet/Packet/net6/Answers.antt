-- The network header starts within 16 bytes.
use Rattle.checks.proofs.Checks.{net_small}
use Rattle.std.proofs.Common.{arith}
use Rattle.meaning.proofs.packet.Packet.net6.Goals as goal

pub overflow_add-start : goal.overflow_add-start
overflow_add-start c = omega (arith, net_small _ c.net_offset-start.ensures)

pub overflow_add-start-then-ethertype : goal.overflow_add-start-then-ethertype
overflow_add-start-then-ethertype c = omega (arith, net_small _ c.net_offset-start.ensures)
