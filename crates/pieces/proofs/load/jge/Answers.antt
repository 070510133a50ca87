-- The mode picks the class.
use Rattle.ebpf.specs.Opcode.{JGE}
use Rattle.pieces.proofs.Pieces.{by_class}
use Rattle.pieces.proofs.load.jge.Goals as goal

pub returns : goal.returns
returns c = rw (c.by_mode.ensures, c.jge_imm.ensures, c.jge32_imm.ensures) (by_class c.args.mode JGE c.args.k)
