-- A turn of the machine without its registers.
use Rattle.std.specs.Prelude.{ℕ}
use Rattle.ebpf.specs.declared.regs.Regs.{Regs}
use Rattle.ebpf.specs.declared.step.State.{State}
use Rattle.ebpf.specs.declared.step.Turn.{Turn}
use Rattle.layers.specs.declared.place.Moved.{Moved}

-- The state of registers r at the place pc.
abbrev pub state_of : Regs → ℕ → State
state_of r pc = record { regs = r; pc = pc }

-- Where a turn leads and how the run ends, if it ends there.
unfoldable pub moved_of : Turn → Moved
moved_of t = record { pc = t.state.pc; halt = t.halt }
