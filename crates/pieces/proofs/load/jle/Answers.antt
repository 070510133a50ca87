-- The mode picks the class.
use Rattle.ebpf.specs.Opcode.{JLE}
use Rattle.pieces.proofs.Pieces.{by_class}
use Rattle.pieces.proofs.load.jle.Goals as goal

pub returns : goal.returns
returns c = rw (c.by_mode.ensures, c.jle_imm.ensures, c.jle32_imm.ensures) (by_class c.args.mode JLE c.args.k)
