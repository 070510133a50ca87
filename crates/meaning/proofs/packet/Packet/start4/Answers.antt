-- The network header starts within 16 bytes, and is at most 60 bytes long.
use Rattle.checks.proofs.Checks.{net_small}
use Rattle.meaning.specs.Meaning.{start4}
use Rattle.std.proofs.Common.{add-zero, arith}
use Rattle.meaning.proofs.packet.Packet.start4.Goals as goal

pub overflow_add-result : goal.overflow_add-result
overflow_add-result c = omega (arith, net_small _ c.net_offset-net.ensures)

pub returns : goal.returns
unfolding start4
returns c = (simp (c.byte_at.ensures, c.net_offset-net.ensures, add-zero), omega (arith, net_small _ c.net_offset-net.ensures))
