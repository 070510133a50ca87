use Rattle.checks.proofs.Checks.{net_small}
use Rattle.checks.specs.Check.{base_of}
use Rattle.checks.proofs.check.base_of.Goals as goal

pub returns-in-Net : goal.returns-in-Net
unfolding base_of
returns-in-Net c = rw c.in-Net.is (c.net_offset.ensures, net_small c.args.link c.net_offset.ensures)
