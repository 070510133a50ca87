-- The mode picks the class.
use Rattle.ebpf.specs.Opcode.{JGT}
use Rattle.pieces.proofs.Pieces.{by_class}
use Rattle.pieces.proofs.load.jgt.Goals as goal

pub returns : goal.returns
returns c = rw (c.by_mode.ensures, c.jgt_imm.ensures, c.jgt32_imm.ensures) (by_class c.args.mode JGT c.args.k)
