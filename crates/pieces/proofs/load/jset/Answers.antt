-- The mode picks the class.
use Rattle.ebpf.specs.Opcode.{JSET}
use Rattle.pieces.proofs.Pieces.{by_class}
use Rattle.pieces.proofs.load.jset.Goals as goal

pub returns : goal.returns
returns c = rw (c.by_mode.ensures, c.jset_imm.ensures, c.jset32_imm.ensures) (by_class c.args.mode JSET c.args.k)
