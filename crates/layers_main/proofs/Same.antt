-- A turn and a record that was fetched are equal to themselves.
use Rattle.std.proofs.Common.{◌≡◌, ℕ, Bool, true, false, ◌&&◌, Option, Some, None, List, [], ◌∷◌, eqb, eq-eqb, refl}
use lib.Pointwise.{pointwise, bytes_decides}
use mathlib.Core.Bool.{beq}
use Rattle.std.specs.Option.{option_eq}
use Rattle.ebpf.specs.declared.act.Halt.{Halt}
use Rattle.ebpf.specs.declared.insn.Insn.{Insn}
use Rattle.ebpf.specs.declared.step.Turn.{Turn}
use Rattle.ebpf.specs.contracts.insn.InsnPartialEq.TheImpl as insn
use Rattle.ebpf.specs.contracts.step.TurnPartialEq.TheImpl as turn

numbers : (x : ℕ) → eqb x x ≡ true
numbers x = eq-eqb x x refl

mark : (x : Bool) → beq x x ≡ true
mark true = refl
mark false = refl

marks : (xs : List Bool) → pointwise beq xs xs ≡ true
marks [] = refl
marks (x ∷ xs) = simp (mark, marks xs)

halt : (o : Option Halt) → option_eq {T = Halt} (λ x y. eqb x.r0 y.r0 && eqb x.stop y.stop) o o ≡ true
halt None = refl
halt (Some h) = simp numbers

pub turn_itself : (t : Turn) → turn.eq-value.it t t ≡ true
turn_itself t = simp ((bytes_decides t.state.regs.values t.state.regs.values).1 refl, marks t.state.regs.written, numbers, halt t.halt)

pub insn_itself : (o : Option Insn) → option_eq insn.eq-value.it o o ≡ true
insn_itself None = refl
insn_itself (Some i) = simp numbers
