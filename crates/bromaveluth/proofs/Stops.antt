-- The machine stops with 0 or one of 30 to 35, and with nothing else.
use Prim.Native.Nat.{ℕ, zero, suc, ◌+◌, ◌-◌, ◌*◌, ◌/◌, ◌%◌, ◌^◌, ◌≤◌}
use Rattle.std.specs.Prelude.{Option, Some, None}
use mathlib.Core.Path.{◌≡◌, refl}
use mathlib.Core.List.{List}
use mathlib.Core.Bool.{Bool, true, false, not, cond, ◌&&◌}
use mathlib.Core.Logic.{◌⊎◌, inl, inr}
use native.Mathlib.Omega.{arith}
use lib.Dec.{eqb, ltb, leb}
use lib.ListN.{length}
use Rattle.ebpf.specs.Opcode.{JMP}
use Rattle.ebpf.specs.Insn.{insn_at}
use Rattle.ebpf.specs.Alu.{sext16, sext32, alu32, alu64, swapped, compares}
use Rattle.ebpf.specs.Form.{Form, NotOurs, Context, Load, Reg64, Imm64, Imm32, Swap, Jump, Branch, BranchReg, Exit, form_of}
use Rattle.ebpf.specs.Regs.{known_of, value_of}
use Rattle.ebpf.specs.Step.{stopped, not_ours, outside, unwritten, nowhere, taken, le_at, context_act, frame_act, load_act, readable, reg64_act, imm64_act, imm32_act, swap_act, branch_act, branch_reg_act, exit_act, act_of, act_at, halt_of, turn_of, step_of}
use Rattle.ebpf.specs.Run.{first_state, ended_of, after, go_of, unless35, run_of}
use Rattle.ebpf.specs.declared.regs.Regs.{Regs}
use Rattle.ebpf.specs.declared.act.Act.{Act}
use Rattle.ebpf.specs.declared.act.Act.TheVariants.{Writes, Jumps, Falls, Halts}
use Rattle.ebpf.specs.declared.run.Outcome.{Outcome}
use Rattle.ebpf.specs.declared.step.State.{State}
use Rattle.ebpf.specs.declared.act.Halt.{Halt}
use Rattle.bromaveluth.proofs.Earned.{either}

abbrev pub Stop : ℕ → Type 0
Stop n = (n ≡ 0) ⊎ ((30 ≤ n) × (n ≤ 35))

abbrev pub Acts : Act → Type 0
Acts (Writes dst value) = Unit {0}
Acts (Jumps off) = Unit {0}
Acts Falls = Unit {0}
Acts (Halts halt) = Stop halt.stop

abbrev pub Tells : Option Halt → Type 0
Tells None = Unit {0}
Tells (Some halt) = Stop halt.stop

s30 : Acts not_ours
s30 = inr (omega arith, omega arith)

s31 : Acts outside
s31 = inr (omega arith, omega arith)

s32 : Acts unwritten
s32 = inr (omega arith, omega arith)

s33 : Acts nowhere
s33 = inr (omega arith, omega arith)

-- A choice between two acts that each stop so or not at all.
both : (b : Bool) (x y : Act) → Acts x → Acts y → Acts (cond b x y)
both b x y p q = either Acts b x y (λ e. p) (λ e. q)

branches : (b : Bool) (off : ℕ) → Acts (taken b off)
branches b off = both b (Jumps off) Falls tt tt

contexts : (len start dst off : ℕ) → Acts (context_act len start dst off)
unfolding context_act
contexts len start dst off =
    both (eqb off 0) (Writes dst start) (cond (eqb off 4) (Writes dst ((start + len) % 2 ^ 64)) outside) tt
    (both (eqb off 4) (Writes dst ((start + len) % 2 ^ 64)) outside tt s31)

frames : (frame : List ℕ) (start size dst at : ℕ) → Acts (frame_act frame start size dst at)
unfolding frame_act
frames frame start size dst at =
    let read = Writes dst (le_at frame (at - start) size) in
    both (leb start at) (cond (leb (at + size) (start + length frame)) read outside) outside
    (both (leb (at + size) (start + length frame)) read outside tt s31) s31

loads : (frame : List ℕ) (start : ℕ) (r : Regs) (size dst src off : ℕ) → Acts (load_act frame start r size dst src off)
unfolding load_act
loads frame start r size dst src off =
    let at = (value_of r src + sext16 off) % 2 ^ 64 in
    both (known_of r src) (frame_act frame start size dst at) unwritten (frames frame start size dst at) s32

regs64 : (r : Regs) (operation dst src : ℕ) → Acts (reg64_act r operation dst src)
unfolding reg64_act
regs64 r operation dst src =
    let write = Writes dst (alu64 operation (value_of r dst) (value_of r src)) in
    both (known_of r src) (cond (readable r operation dst) write unwritten) unwritten (both (readable r operation dst) write unwritten tt s32) s32

imms64 : (r : Regs) (operation dst imm : ℕ) → Acts (imm64_act r operation dst imm)
unfolding imm64_act
imms64 r operation dst imm = both (readable r operation dst) (Writes dst (alu64 operation (value_of r dst) (sext32 imm))) unwritten tt s32

imms32 : (r : Regs) (operation dst imm : ℕ) → Acts (imm32_act r operation dst imm)
unfolding imm32_act
imms32 r operation dst imm = both (known_of r dst) (Writes dst (alu32 operation (value_of r dst % 2 ^ 32) imm)) unwritten tt s32

swaps : (r : Regs) (dst bits : ℕ) → Acts (swap_act r dst bits)
unfolding swap_act
swaps r dst bits = both (known_of r dst) (Writes dst (swapped bits (value_of r dst))) unwritten tt s32

tests : (r : Regs) (class operation dst imm off : ℕ) → Acts (branch_act r class operation dst imm off)
unfolding branch_act
tests r class operation dst imm off =
    let holds = cond (eqb class JMP) (compares operation (value_of r dst) (sext32 imm)) (compares operation (value_of r dst % 2 ^ 32) imm) in
    both (known_of r dst) (taken holds off) unwritten (branches holds off) s32

reg_tests : (r : Regs) (operation dst src off : ℕ) → Acts (branch_reg_act r operation dst src off)
unfolding branch_reg_act
reg_tests r operation dst src off =
    let holds = compares operation (value_of r dst) (value_of r src) in
    both (known_of r dst) (cond (known_of r src) (taken holds off) unwritten) unwritten (both (known_of r src) (taken holds off) unwritten (branches holds off) s32) s32

exits : (r : Regs) → Acts (exit_act r)
unfolding exit_act
exits r = both (known_of r 0) (stopped 0 (value_of r 0)) unwritten (inl refl) s32

acts : (form : Form) (frame : List ℕ) (start : ℕ) (r : Regs) → Acts (act_of form frame start r)
unfolding act_of
acts NotOurs frame start r = s30
acts (Context dst off) frame start r = contexts (length frame) start dst off
acts (Load size dst src off) frame start r = loads frame start r size dst src off
acts (Reg64 operation dst src) frame start r = regs64 r operation dst src
acts (Imm64 operation dst imm) frame start r = imms64 r operation dst imm
acts (Imm32 operation dst imm) frame start r = imms32 r operation dst imm
acts (Swap dst bits) frame start r = swaps r dst bits
acts (Jump off) frame start r = tt
acts (Branch class operation dst imm off) frame start r = tests r class operation dst imm off
acts (BranchReg operation dst src off) frame start r = reg_tests r operation dst src off
acts Exit frame start r = exits r

acts_at : (program frame : List ℕ) (start : ℕ) (r : Regs) (pc : ℕ) → Acts (act_at program frame start r pc)
unfolding act_at
acts_at program frame start r pc =
    let act = act_of (form_of (insn_at program (pc * 8))) frame start r in
    both (ltb pc (length program / 8)) act nowhere (acts (form_of (insn_at program (pc * 8))) frame start r) s33

told : (a : Act) → Acts a → Tells (halt_of a)
unfolding halt_of
told (Writes dst value) h = tt
told (Jumps off) h = tt
told Falls h = tt
told (Halts halt) h = h

steps : (program frame : List ℕ) (start : ℕ) (s : State) → Tells (step_of program frame start s).halt
unfolding step_of turn_of
steps program frame start s = told (act_at program frame start s.regs s.pc) (acts_at program frame start s.regs s.pc)

goes_on : (x : Option Halt) → Tells x → (t : State) (more : State → Outcome) → ((t : State) → Stop (more t).stop) → (n : ℕ) → Stop (after x t more n).stop
unfolding ended_of
goes_on None h t more g n = g t
goes_on (Some halt) h t more g n = h

goes : (left : ℕ) (program frame : List ℕ) (start : ℕ) (s : State) (n : ℕ) → Stop (go_of left program frame start s n).stop
unfolding go_of
goes zero program frame start s n = inr (omega arith, omega arith)
goes (suc left) program frame start s n =
    goes_on (step_of program frame start s).halt (steps program frame start s) (step_of program frame start s).state
    (λ t. go_of left program frame start t (n + 1)) (λ t. goes left program frame start t (n + 1)) n

starts : (b : Bool) (more : ℕ → Outcome) → ((n : ℕ) → Stop (more n).stop) → (budget : ℕ) → Stop (unless35 b more budget).stop
starts true more g budget = g budget
starts false more g budget = inr (omega arith, omega arith)

-- What `bromaveluth_run` returns is one of the seven stops.
pub stops : (program frame : List ℕ) (start budget : ℕ) → Stop (run_of program frame start budget).stop
unfolding run_of
stops program frame start budget =
    starts (not (eqb (length program) 0) && (eqb (length program % 8) 0 && ltb (start + length frame) (2 ^ 32)))
    (λ k. go_of k program frame start first_state 0) (λ k. goes k program frame start first_state 0) budget
