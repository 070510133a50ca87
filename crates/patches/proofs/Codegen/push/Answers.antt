-- `push` writes one instruction.
use Rattle.patches.specs.Code.{emission, push1, put_insn}
use Rattle.patches.proofs.Codegen.push.Goals as goal

pub returns : goal.returns
unfolding emission push1 put_insn
returns c = rw c.store.ensures
