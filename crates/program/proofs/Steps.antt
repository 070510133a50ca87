-- One law for each instruction: how the instruction and the rest end, by how the rest ends with the registers that it leaves.
-- A proof about a piece of code reads its instructions off by these laws; the places of registers are those of Registers.
use Prim.Native.Nat.{ℕ, suc, ◌+◌, ◌-◌, ◌%◌, ◌^◌, ◌<◌, ◌≤◌}
use mathlib.Core.Path.{◌≡◌, refl, sym, ◌∙◌}
use mathlib.Core.Bool.{Bool, true, false}
use mathlib.Core.List.{List, ◌∷◌}
use native.Mathlib.Omega.{arith}
use native.Mathlib.Nat.{mod-eq_of_lt}
use borrow.Author.Tests.{lt-ltb, le-leb, ltb-true, ltb-false}
use lib.Dec.{ltb}
use lib.ListN.{length}
use Rattle.ebpf.specs.Opcode.{ADD, SUB, MOV, JGT, WORD}
use Rattle.ebpf.specs.Insn.{alu64_reg, alu64_imm, alu32_imm, to_be, ldx, jump_imm, jump_reg, jump_always, exit_insn}
use Rattle.ebpf.specs.Alu.{sext16, sext32, alu32, alu64, swapped, compares}
use Rattle.ebpf.specs.Form.{form_of}
use Rattle.ebpf.specs.Step.{le_at, context_act, frame_act, load_act, readable, reg64_act, imm64_act, imm32_act, swap_act}
use Rattle.ebpf.specs.Step.{branch_act, branch_reg_act, taken, exit_act, act_of}
use Rattle.ebpf.specs.Run.{ended_of}
use Rattle.ebpf.specs.declared.insn.Insn.{Insn}
use Rattle.ebpf.specs.declared.regs.Regs.{Regs}
use Rattle.ebpf.specs.declared.act.Act.TheVariants.{Writes, Jumps, Falls}
use Rattle.program.specs.Program.{execs}
use Rattle.program.specs.Kinds.{Class, Comparison, Arithmetic, Size, Bits, Takes}
use Rattle.program.specs.Ends.{Ends, Place, tested}
use Rattle.program.proofs.Forms.{form_mov, form_add, form_sub, form_mov_imm, form_add_imm, form_arithmetic, form_swap}
use Rattle.program.proofs.Forms.{form_context, form_load, form_branch, form_jgt, form_ja, form_exit}
use Rattle.program.proofs.Values.{tested_taken}

module _ {frame : List ℕ} {start v : ℕ} {rest : List Insn} {r : Regs} where
  -- What an instruction can do, and then the rest: write a register, jump, fall through.
  on_write : {i : Insn} {dst x y : ℕ} {w : Bool} {after : ℕ → Regs} → Place r dst x w after → Ends frame start v 0 rest (after y)
      → act_of (form_of i) frame start r ≡ Writes dst y → Ends frame start v 0 (i ∷ rest) r
  unfolding execs
  on_write {y = y} d h e = record { exits = rw (e, execs, d.puts y) h.exits; gives = rw (e, execs, d.puts y) h.gives }

  on_jump : {i : Insn} {off : ℕ} → Ends frame start v off rest r → act_of (form_of i) frame start r ≡ Jumps off
      → Ends frame start v 0 (i ∷ rest) r
  unfolding execs
  on_jump h e = record { exits = rw (e, execs) h.exits; gives = rw (e, execs) h.gives }

  on_fall : {i : Insn} → Ends frame start v 0 rest r → act_of (form_of i) frame start r ≡ Falls → Ends frame start v 0 (i ∷ rest) r
  unfolding execs
  on_fall h e = record { exits = rw (e, execs) h.exits; gives = rw (e, execs) h.gives }

  on_branch : {i : Insn} {off : ℕ} (t : Bool) → (t ≡ true → Ends frame start v off rest r) → (t ≡ false → Ends frame start v 0 rest r)
      → act_of (form_of i) frame start r ≡ taken t off → Ends frame start v 0 (i ∷ rest) r
  on_branch true h h' e = on_jump (h refl) e
  on_branch false h h' e = on_fall (h' refl) e

  -- An instruction that is jumped over.
  pub on_skip : {i : Insn} {k : ℕ} → Ends frame start v k rest r → Ends frame start v (suc k) (i ∷ rest) r
  unfolding execs
  on_skip h = record { exits = h.exits; gives = h.gives }

  pub on_mov : {dst src x y : ℕ} {w : Bool} {after after' : ℕ → Regs} → Place r dst x w after → Place r src y true after'
      → Ends frame start v 0 rest (after y) → Ends frame start v 0 (alu64_reg MOV dst src ∷ rest) r
  unfolding act_of reg64_act readable alu64
  on_mov {dst} {src} d s h = on_write d h (rw (form_mov dst d.is_plain src s.is_plain, s.flag, s.value))

  pub on_add : {dst src x y : ℕ} {after after' : ℕ → Regs} → Place r dst x true after → Place r src y true after' → x + y < 2 ^ 64
      → Ends frame start v 0 rest (after (x + y)) → Ends frame start v 0 (alu64_reg ADD dst src ∷ rest) r
  unfolding act_of reg64_act readable alu64
  on_add {dst} {src} d s m h =
      on_write d h (rw (form_add dst d.is_plain src s.is_plain, s.flag, d.flag, s.value, d.value, mod-eq_of_lt m))

  -- What is taken away was added before, so that nothing wraps.
  pub on_sub : {dst src x y : ℕ} {after after' : ℕ → Regs} → Place r dst (y + x) true after → Place r src y true after' → y + x < 2 ^ 64
      → Ends frame start v 0 rest (after x) → Ends frame start v 0 (alu64_reg SUB dst src ∷ rest) r
  unfolding act_of reg64_act readable alu64
  on_sub {dst} {src} {x} {y} d s m h =
      let back : (y + x + (2 ^ 64 - y)) % 2 ^ 64 ≡ x = omega arith in
      on_write d h (rw (form_sub dst d.is_plain src s.is_plain, s.flag, d.flag, s.value, d.value, back))

  pub on_mov_imm : {dst x imm : ℕ} {w : Bool} {after : ℕ → Regs} → Place r dst x w after → imm < 2 ^ 31
      → Ends frame start v 0 rest (after imm) → Ends frame start v 0 (alu64_imm MOV dst imm ∷ rest) r
  unfolding act_of imm64_act readable alu64 sext32
  on_mov_imm {dst} {imm = imm} d m h = on_write d h (rw (form_mov_imm dst d.is_plain imm, lt-ltb imm (2 ^ 31) m))

  pub on_add_imm : {dst x imm : ℕ} {after : ℕ → Regs} → Place r dst x true after → imm < 2 ^ 31 → x + imm < 2 ^ 64
      → Ends frame start v 0 rest (after (x + imm)) → Ends frame start v 0 (alu64_imm ADD dst imm ∷ rest) r
  unfolding act_of imm64_act readable alu64 sext32
  on_add_imm {dst} {imm = imm} d m l h =
      on_write d h (rw (form_add_imm dst d.is_plain imm, d.flag, d.value, lt-ltb imm (2 ^ 31) m, mod-eq_of_lt l))

  pub on_arithmetic : {operation dst x imm : ℕ} {after : ℕ → Regs} → Arithmetic operation imm → Place r dst x true after → x < 2 ^ 32
      → Ends frame start v 0 rest (after (alu32 operation x imm)) → Ends frame start v 0 (alu32_imm operation dst imm ∷ rest) r
  unfolding act_of imm32_act
  on_arithmetic {dst = dst} o d m h = on_write d h (rw (form_arithmetic dst d.is_plain o, d.flag, d.value, mod-eq_of_lt m))

  pub on_swap : {bits dst x : ℕ} {after : ℕ → Regs} → Bits bits → Place r dst x true after
      → Ends frame start v 0 rest (after (swapped bits x)) → Ends frame start v 0 (to_be bits dst ∷ rest) r
  unfolding act_of swap_act
  on_swap {dst = dst} b d h = on_write d h (rw (form_swap dst d.is_plain b, d.flag, d.value))

  -- A load of n bytes that stand in the frame from j on.
  pub on_load : {size n dst src x y off : ℕ} {w : Bool} {after after' : ℕ → Regs} (j : ℕ)
      → Size size n → Place r dst x w after → Place r src y true after'
      → off < 2 ^ 15 → y + off ≡ start + j → j + n ≤ length frame → start + length frame < 2 ^ 32
      → Ends frame start v 0 rest (after (le_at frame j n)) → Ends frame start v 0 (ldx size dst src off ∷ rest) r
  unfolding act_of load_act frame_act sext16
  on_load {n = n} {dst} {src} {y = y} {off} j z d s m q l f h =
      let near : (y + off) % 2 ^ 64 ≡ start + j = omega arith in
      let above : start ≤ start + j = omega arith in
      let below : start + j + n ≤ start + length frame = omega arith in
      let place : start + j - start ≡ j = omega arith in
      on_write d h (rw (
        form_load dst d.is_plain src s.is_plain off z,
        s.flag,
        s.value,
        lt-ltb off (2 ^ 15) m,
        near,
        le-leb start (start + j) above,
        le-leb (start + j + n) (start + length frame) below,
        place,
      ))

  -- The frame's ends, from the context.
  pub on_start : {dst x : ℕ} {w : Bool} {after : ℕ → Regs} → Place r dst x w after
      → Ends frame start v 0 rest (after start) → Ends frame start v 0 (ldx WORD dst 1 0 ∷ rest) r
  unfolding act_of context_act
  on_start {dst} d h = on_write d h (rw (form_context dst d.is_plain 0))

  pub on_end : {dst x : ℕ} {w : Bool} {after : ℕ → Regs} → Place r dst x w after → start + length frame < 2 ^ 32
      → Ends frame start v 0 rest (after (start + length frame)) → Ends frame start v 0 (ldx WORD dst 1 4 ∷ rest) r
  unfolding act_of context_act
  on_end {dst} d f h =
      let wide : (start + length frame) % 2 ^ 64 ≡ start + length frame = omega arith in
      on_write d h (rw (form_context dst d.is_plain 4, wide))

  pub on_jump_imm : {class operation dst x off : ℕ} {after : ℕ → Regs} (imm : ℕ)
      → Class class → Comparison operation → Place r dst x true after
      → (tested class operation x imm ≡ true → Ends frame start v off rest r)
      → (tested class operation x imm ≡ false → Ends frame start v 0 rest r)
      → Ends frame start v 0 (jump_imm class operation dst imm off ∷ rest) r
  unfolding act_of branch_act tested
  on_jump_imm {class} {operation} {dst} {x} {off} imm c o d h h' =
      on_branch (tested class operation x imm) h h' (rw (form_branch dst d.is_plain imm off c o, d.flag, d.value))

  -- The same for a register of 32 bits and a constant that the class takes: both classes compare alike.
  pub on_compare : {class operation dst x off : ℕ} {after : ℕ → Regs} (imm : ℕ)
      → Class class → Comparison operation → Place r dst x true after → Takes class imm → x < 2 ^ 32
      → (compares operation x imm ≡ true → Ends frame start v off rest r)
      → (compares operation x imm ≡ false → Ends frame start v 0 rest r)
      → Ends frame start v 0 (jump_imm class operation dst imm off ∷ rest) r
  on_compare {operation = operation} {x = x} imm c o d k l h h' =
      let e = sym (tested_taken operation x imm c k l) in
      on_jump_imm imm c o d (λ t. h (e ∙ t)) (λ t. h' (e ∙ t))

  pub on_jgt : {dst src x y off : ℕ} {after after' : ℕ → Regs} → Place r dst x true after → Place r src y true after'
      → (y < x → Ends frame start v off rest r) → (x ≤ y → Ends frame start v 0 rest r)
      → Ends frame start v 0 (jump_reg JGT dst src off ∷ rest) r
  unfolding act_of branch_reg_act compares
  on_jgt {dst} {src} {x} {y} {off} d s h h' =
      on_branch (ltb y x) (λ t. h (ltb-true y x t)) (λ t. h' (ltb-false y x t))
      (rw (form_jgt dst d.is_plain src s.is_plain off, d.flag, s.flag, d.value, s.value))

  pub on_ja : {off : ℕ} → Ends frame start v off rest r → Ends frame start v 0 (jump_always off ∷ rest) r
  unfolding act_of
  on_ja {off} h = on_jump h (rw (form_ja off))

  pub on_exit : {after : ℕ → Regs} → Place r 0 v true after → Ends frame start v 0 (exit_insn ∷ rest) r
  unfolding execs act_of exit_act ended_of
  on_exit d = record { exits = rw (form_exit, d.flag, execs); gives = rw (form_exit, d.flag, d.value, execs) }
