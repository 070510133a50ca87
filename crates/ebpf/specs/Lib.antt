pub mod Opcode
pub mod Insn
pub mod Alu
pub mod Form
pub mod Regs
pub mod Step
pub mod Run
pub mod Sure
