-- One case an operator.
use Rattle.pieces.specs.Fragments.{alu32_of}
use Rattle.pieces.proofs.steps.ebpf_alu32.Goals as goal

pub returns-in-Add : goal.returns-in-Add
unfolding alu32_of
returns-in-Add c = simp (c.add32_imm.ensures, c.in-Add.is)

pub returns-in-Sub : goal.returns-in-Sub
unfolding alu32_of
returns-in-Sub c = simp (c.sub32_imm.ensures, c.in-Sub.is)

pub returns-in-Mul : goal.returns-in-Mul
unfolding alu32_of
returns-in-Mul c = simp (c.mul32_imm.ensures, c.in-Mul.is)

pub returns-in-Div : goal.returns-in-Div
unfolding alu32_of
returns-in-Div c = simp (c.div32_imm.ensures, c.in-Div.is)

pub returns-in-Mod : goal.returns-in-Mod
unfolding alu32_of
returns-in-Mod c = simp (c.new.ensures, c.in-Mod.is)

pub returns-in-And : goal.returns-in-And
unfolding alu32_of
returns-in-And c = simp (c.and32_imm.ensures, c.in-And.is)

pub returns-in-Or : goal.returns-in-Or
unfolding alu32_of
returns-in-Or c = simp (c.or32_imm.ensures, c.in-Or.is)

pub returns-in-Xor : goal.returns-in-Xor
unfolding alu32_of
returns-in-Xor c = simp (c.xor32_imm.ensures, c.in-Xor.is)

pub returns-in-Shl : goal.returns-in-Shl
unfolding alu32_of
returns-in-Shl c = simp (c.lsh32_imm.ensures, c.in-Shl.is)

pub returns-in-Shr : goal.returns-in-Shr
unfolding alu32_of
returns-in-Shr c = simp (c.rsh32_imm.ensures, c.in-Shr.is)
