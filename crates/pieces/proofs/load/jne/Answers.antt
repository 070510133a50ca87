-- The mode picks the class.
use Rattle.ebpf.specs.Opcode.{JNE}
use Rattle.pieces.proofs.Pieces.{by_class}
use Rattle.pieces.proofs.load.jne.Goals as goal

pub returns : goal.returns
returns c = rw (c.by_mode.ensures, c.jne_imm.ensures, c.jne32_imm.ensures) (by_class c.args.mode JNE c.args.k)
