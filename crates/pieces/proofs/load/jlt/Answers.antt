-- The mode picks the class.
use Rattle.ebpf.specs.Opcode.{JLT}
use Rattle.pieces.proofs.Pieces.{by_class}
use Rattle.pieces.proofs.load.jlt.Goals as goal

pub returns : goal.returns
returns c = rw (c.by_mode.ensures, c.jlt_imm.ensures, c.jlt32_imm.ensures) (by_class c.args.mode JLT c.args.k)
