-- The machine's definitions computed: the listing of the filter `ip` on a frame that it passes, one that it drops, and one that is
-- too short for its test.
use Rattle.std.proofs.Common.{◌≡◌, ℕ, List, [], ◌∷◌, ◌++◌, refl}
use Rattle.ebpf.specs.Insn.{new, to_le_bytes, insn_at, alu64_reg, alu64_imm, to_be, ldx, jump_imm, jump_reg, exit_insn}
use Rattle.ebpf.specs.Opcode.{ADD, MOV, JMP, JNE, JGT, WORD, HALF}
use Rattle.ebpf.specs.Alu.{sext16, sext32, alu32, alu64, swapped, compares}
use Rattle.ebpf.specs.Form.{plain, allowed, form_of, form_at, load_form, reg64_form, imm64_form, imm32_form, swap_form, jump_form, branch_form, branch_reg_form, exit_form}
use Rattle.ebpf.specs.Regs.{fresh, known_of, value_of, with_of}
use Rattle.ebpf.specs.Step.{le_at, context_act, frame_act, load_act, readable, reg64_act, imm64_act, imm32_act, swap_act, branch_act, branch_reg_act, exit_act, act_of, act_at, regs_after, place_after, halt_of, turn_of, step_of}
use Rattle.ebpf.specs.Run.{first_state, ended_of, go_of, run_of}
use Rattle.ebpf.specs.declared.insn.Insn.{Insn}

-- Document 01's listing of K2.
abbrev pub k2_insns : List Insn
k2_insns =
    ldx WORD 2 1 0 ∷ ldx WORD 3 1 4 ∷ alu64_reg MOV 5 2 ∷ alu64_imm ADD 5 14 ∷ jump_reg JGT 5 3 5 ∷ ldx HALF 4 2 12 ∷ to_be 16 4
    ∷ jump_imm JMP JNE 4 0x0800 2 ∷ alu64_imm MOV 0 2 ∷ exit_insn ∷ alu64_imm MOV 0 1 ∷ exit_insn ∷ []

abbrev bytes : List Insn → List ℕ
bytes [] = []
bytes (i ∷ is) = to_le_bytes i ++ bytes is

abbrev pub k2 : List ℕ
k2 =
    0x61 ∷ 0x12 ∷ 0x00 ∷ 0x00 ∷ 0x00 ∷ 0x00 ∷ 0x00 ∷ 0x00 ∷ 0x61 ∷ 0x13 ∷ 0x04 ∷ 0x00 ∷ 0x00 ∷ 0x00 ∷ 0x00 ∷ 0x00
    ∷ 0xbf ∷ 0x25 ∷ 0x00 ∷ 0x00 ∷ 0x00 ∷ 0x00 ∷ 0x00 ∷ 0x00 ∷ 0x07 ∷ 0x05 ∷ 0x00 ∷ 0x00 ∷ 0x0e ∷ 0x00 ∷ 0x00 ∷ 0x00
    ∷ 0x2d ∷ 0x35 ∷ 0x05 ∷ 0x00 ∷ 0x00 ∷ 0x00 ∷ 0x00 ∷ 0x00 ∷ 0x69 ∷ 0x24 ∷ 0x0c ∷ 0x00 ∷ 0x00 ∷ 0x00 ∷ 0x00 ∷ 0x00
    ∷ 0xdc ∷ 0x04 ∷ 0x00 ∷ 0x00 ∷ 0x10 ∷ 0x00 ∷ 0x00 ∷ 0x00 ∷ 0x55 ∷ 0x04 ∷ 0x02 ∷ 0x00 ∷ 0x00 ∷ 0x08 ∷ 0x00 ∷ 0x00
    ∷ 0xb7 ∷ 0x00 ∷ 0x00 ∷ 0x00 ∷ 0x02 ∷ 0x00 ∷ 0x00 ∷ 0x00 ∷ 0x95 ∷ 0x00 ∷ 0x00 ∷ 0x00 ∷ 0x00 ∷ 0x00 ∷ 0x00 ∷ 0x00
    ∷ 0xb7 ∷ 0x00 ∷ 0x00 ∷ 0x00 ∷ 0x01 ∷ 0x00 ∷ 0x00 ∷ 0x00 ∷ 0x95 ∷ 0x00 ∷ 0x00 ∷ 0x00 ∷ 0x00 ∷ 0x00 ∷ 0x00 ∷ 0x00 ∷ []

-- The bytes of the listing are those of its instructions.
pub k2_bytes : bytes k2_insns ≡ k2
unfolding new to_le_bytes
k2_bytes = refl

-- Ethertype 0x0800 and 0x0806, and the first with its last byte cut off.
abbrev ip_frame : List ℕ
ip_frame = 1 ∷ 2 ∷ 3 ∷ 4 ∷ 5 ∷ 6 ∷ 7 ∷ 8 ∷ 9 ∷ 10 ∷ 11 ∷ 12 ∷ 0x08 ∷ 0x00 ∷ []

abbrev arp_frame : List ℕ
arp_frame = 1 ∷ 2 ∷ 3 ∷ 4 ∷ 5 ∷ 6 ∷ 7 ∷ 8 ∷ 9 ∷ 10 ∷ 11 ∷ 12 ∷ 0x08 ∷ 0x06 ∷ []

abbrev cut_frame : List ℕ
cut_frame = 1 ∷ 2 ∷ 3 ∷ 4 ∷ 5 ∷ 6 ∷ 7 ∷ 8 ∷ 9 ∷ 10 ∷ 11 ∷ 12 ∷ 0x08 ∷ []

-- Passed after ten steps, dropped after ten, dropped after seven.
pub k2_runs : (run_of k2 ip_frame 4096 12 ≡ record { stop = 0; r0 = 2; steps = 10 })
    × (run_of k2 arp_frame 4096 12 ≡ record { stop = 0; r0 = 1; steps = 10 })
    × (run_of k2 cut_frame 4096 12 ≡ record { stop = 0; r0 = 1; steps = 7 })
unfolding insn_at sext16 sext32 alu32 alu64 swapped compares plain allowed form_of form_at load_form reg64_form imm64_form imm32_form swap_form jump_form branch_form branch_reg_form exit_form fresh known_of value_of with_of le_at context_act frame_act load_act readable reg64_act imm64_act imm32_act swap_act branch_act branch_reg_act exit_act act_of act_at regs_after place_after halt_of turn_of step_of first_state ended_of go_of run_of
k2_runs = (refl, refl, refl)
