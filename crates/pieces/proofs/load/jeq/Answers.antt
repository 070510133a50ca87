-- The mode picks the class.
use Rattle.ebpf.specs.Opcode.{JEQ}
use Rattle.pieces.proofs.Pieces.{by_class}
use Rattle.pieces.proofs.load.jeq.Goals as goal

pub returns : goal.returns
returns c = rw (c.by_mode.ensures, c.jeq_imm.ensures, c.jeq32_imm.ensures) (by_class c.args.mode JEQ c.args.k)
