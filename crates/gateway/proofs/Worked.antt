-- THEOREM, document 01's "Checked by hand": K1 to K8 in a single table, computed from the sheet's bytes.
use Prim.Native.Nat.{ℕ, ◌+◌, ◌-◌, ◌*◌, ◌/◌, ◌%◌, ◌^◌}
use mathlib.Core.Path.{◌≡◌, refl}
use mathlib.Core.List.{List, [], ◌∷◌, ◌++◌}
use mathlib.Core.Bool.{true, false}
use lib.Bits.{bit_and}
use lib.ListN.{length, take, drop, replicate}
use Rattle.ebpf.specs.Alu.{sext16, sext32, alu32, alu64, swapped, compares}
use Rattle.ebpf.specs.Form.{plain, allowed, form_of, form_at, load_form, reg64_form, imm64_form, imm32_form, swap_form, branch_form, branch_reg_form, exit_form}
use Rattle.ebpf.specs.Insn.{new, to_le_bytes, insn_at, alu64_reg, alu64_imm, alu32_imm, to_be, ldx, jump_imm, jump_reg, exit_insn}
use Rattle.ebpf.specs.Opcode.{ADD, AND, MOV, JMP, JNE, JGT, WORD, HALF}
use Rattle.ebpf.specs.Regs.{fresh, known_of, value_of, with_of}
use Rattle.ebpf.specs.Run.{first_state, ended_of, go_of, run_of}
use Rattle.ebpf.specs.Step.{le_at, context_act, frame_act, load_act, readable, reg64_act, imm64_act, imm32_act, swap_act, branch_act, branch_reg_act, exit_act, act_of, act_at, regs_after, place_after, halt_of, turn_of, step_of}
use Rattle.ebpf.specs.declared.insn.Insn.{Insn}
use Rattle.ebpf.proofs.Examples.{k2_insns, k2}
use Rattle.program.specs.Program.{code_of}
use Rattle.filter.specs.Ast.{link_of, link_record, ether_proto_offset, net_offset, dir_of, cmp_of, arith_of, layer_of, access_size_of, proto_of, maybe_proto_of, bytes_of, segment_of}
use Rattle.filter.specs.Bytes.{be2, be4, be8}
use Rattle.filter.specs.First.{first, any}
use Rattle.filter.specs.Record.{ipv6_at, ipv6_net_at, rhs_at, access_at, dir_at, proto_at, host_at, port_at, net6_at, decode_at, step_at}
use Rattle.filter.specs.Sheet.{step_count, prim_count, token_count, sections_of, steps_part, prims_part, tokens_part}
use Rattle.filter.specs.Wrong.{q_most, field_most, optional, number_most, plain_most, access_most, most, least, wrong_byte, record_wrong, step_wrong, token_wrong}
use Rattle.filter.specs.declared.ast.LinkType.{LinkType}
use Rattle.filter.specs.declared.ast.Ipv6Addr.{Ipv6Addr}
use Rattle.filter.specs.declared.ast.AccessSize.TheVariants.{Half}
use Rattle.tree.specs.Shape.{wanted, met_by, scan, shape_of}
use Rattle.tree.specs.Tokens.{count}
use Rattle.tree.specs.Tree.{holds, trees_of, tree_of}
use Rattle.checks.specs.Check.{wrong_in, sheet_wrong, lowest_wrong, takes, steps_before, one_tree, complete, base_of, far, far_offset, shifts, big_shift, shift_at, check_accesses, check_parts, check_sections, check_of}
use Rattle.checks.specs.Length as L
use Rattle.checks.specs.Measure.{measured, measure_of, roomed, admit_of}
use Rattle.checks.specs.Refusal.{unless_ether, ether_refusal, proto_refusal, port_refusal, op_refusal, step_refusal, steps_refusal, rhs_refusal, access_refusal, refusal}
use Rattle.meaning.specs.Frame.{there, number, passes}
use Rattle.meaning.specs.Meaning as M
use Rattle.meaning.specs.Evaluate.{primitive_holds, expression_holds}
use Rattle.pieces.specs.Fragments.{sides, guard, load, end_of, emit_load, emit_steps, transport, class_of, fails, skips, succeeds, check, emit_cmp, emit_ethertype}
use Rattle.filter.specs.Prefix.{prefix_mask}
use Rattle.codegen.specs.Primitives.{check_word_at, check_addr4, emit_host4, check_segment, check_net6, emit_net6, emit_l4_proto_check, prereqs_v4, emit_port_prereqs, check_port, check_ports, emit_port, emit_proto, steps_and_cmp, access_at_code, emit_byte_access, emit_primitive}
use Rattle.patches.specs.Chain.{reach}
use Rattle.patches.specs.Code.{successes, failures}
use Rattle.patches.specs.Code.Slot.{fixed}
use Rattle.patches.specs.Listing.{set_off, resolved_l, listed, emit_l, ended_l, compile_l}
use Rattle.patches.specs.Listing.CompL.{made_l}
use Rattle.patches.specs.Whole.{prologue, epilogue}
use Rattle.generator.specs.Template.{template_of, template}
use Rattle.generator.specs.Compile.{Outcome, outcome, outcome_of, answer_of, output_after}
use Rattle.generator.specs.Compile.Outcome.{early, late}
use Rattle.refusals.specs.Refusal.Answer.{Given}
use Rattle.sound.specs.Demand.{sheet_holds}

-- A number's four bytes, the first one highest.
abbrev bytes : ℕ → List ℕ
bytes n = n / 2 ^ 24 % 256 ∷ n / 2 ^ 16 % 256 ∷ n / 2 ^ 8 % 256 ∷ n % 256 ∷ []

-- A sheet of no steps and one primitive, which is given up to its last byte that is not zero, and the tokens.
abbrev lone : List ℕ → List ℕ → List ℕ
lone prim tokens = 0 ∷ 0 ∷ 0 ∷ 1 ∷ (prim ++ (replicate (24 - length prim) 0 ++ (0 ∷ length tokens ∷ tokens)))

-- That primitive alone.
abbrev one : List ℕ → List ℕ
one prim = lone prim (0 ∷ [])

-- `ip` and `ip6`: Proto, p 1 and 2.
abbrev ip_sheet : List ℕ
ip_sheet = one (7 ∷ 0 ∷ 1 ∷ [])

abbrev ip6_sheet : List ℕ
ip6_sheet = one (7 ∷ 0 ∷ 2 ∷ [])

-- Net6 with 2001:8000:: as source, and a prefix.
abbrev net6_sheet : ℕ → List ℕ
net6_sheet prefix = one (6 ∷ 1 ∷ prefix ∷ (replicate 5 0 ++ (0x20 ∷ 0x01 ∷ 0x80 ∷ [])))

-- 10.0.0.1; 192.168.1.20, above 2^31; 127.255.255.255, the last below it.
abbrev ten : List ℕ
ten = 10 ∷ 0 ∷ 0 ∷ 1 ∷ []

abbrev big : List ℕ
big = 192 ∷ 168 ∷ 1 ∷ 20 ∷ []

abbrev small : List ℕ
small = 127 ∷ 255 ∷ 255 ∷ 255 ∷ []

-- Host 10.0.0.1, either.
abbrev host : List ℕ
host = 1 ∷ 0 ∷ 0 ∷ 0 ∷ ten

-- Host with an address as source.
abbrev from : List ℕ → List ℕ
from address = one (1 ∷ 1 ∷ 0 ∷ 0 ∷ address)

-- Port 80 as source, no protocol given.
abbrev port_sheet : List ℕ
port_sheet = one (3 ∷ 1 ∷ 0 ∷ 0 ∷ bytes 80)

-- ByteAccess of one byte, layer 0 raw, 1 net, at an offset, equal to 0.
abbrev access : ℕ → ℕ → List ℕ
access layer offset = one (23 ∷ layer ∷ 0 ∷ 0 ∷ bytes offset)

-- The same at 0, with one step: 8 shifts left, 9 right.
abbrev shifted : ℕ → ℕ → List ℕ
shifted operator by = 0 ∷ 1 ∷ operator ∷ (bytes by ++ drop 2 (one (23 ∷ (replicate 12 0 ++ (1 ∷ [])))))

-- An Ethernet header of a type, then n zeros, then the bytes given.
abbrev frame : ℕ → ℕ → ℕ → List ℕ → List ℕ
frame high low n more = replicate 12 0 ++ (high ∷ low ∷ (replicate n 0 ++ more))

-- IPv4 up to the source address, and IPv6 up to its first two halves.
abbrev sent : List ℕ → List ℕ
sent source = frame 0x08 0x00 12 source

abbrev sent6 : List ℕ → List ℕ
sent6 source = frame 0x86 0xdd 8 source

-- An IPv4 header of 20 bytes, TCP, then port 80 as source and 1025 as destination.
abbrev segment_frame : List ℕ
segment_frame = 0x45 ∷ (replicate 8 0 ++ (6 ∷ (replicate 10 0 ++ (0 ∷ 80 ∷ 4 ∷ 1 ∷ []))))

-- Output and work: room enough for each sheet here.
abbrev room : List ℕ
room = replicate 256 0

-- What `compile` comes to, by sheet, link and mode.
abbrev made : List ℕ → ℕ → ℕ → Outcome
made s link mode = outcome_of s link mode (length room) 256

-- R0 of the first 8 x L bytes of the output, run with budget L on a frame at 4096; 0 after refusals 1 to 8.
abbrev r0_of : Outcome → List ℕ → ℕ
r0_of (early number place) f = 0
r0_of (late l c x) f = (run_of (take (8 * l) (output_after (late l c x) room)) f 4096 l).r0

-- "pass" and "drop": in both modes, and by the meaning.
abbrev Passes : List ℕ → ℕ → List ℕ → Type 0
Passes s link f = (r0_of (made s link 0) f ≡ 2) × (r0_of (made s link 1) f ≡ 2) × (sheet_holds s link f ≡ true)

abbrev Drops : List ℕ → ℕ → List ℕ → Type 0
Drops s link f = (r0_of (made s link 0) f ≡ 1) × (r0_of (made s link 1) f ≡ 1) × (sheet_holds s link f ≡ false)

-- The listing of prefix 17: ethertype, the first half, the second half under its mask.
abbrev k3_insns : List Insn
k3_insns =
    ldx WORD 2 1 0 ∷ ldx WORD 3 1 4
    ∷ alu64_reg MOV 5 2 ∷ alu64_imm ADD 5 14 ∷ jump_reg JGT 5 3 18 ∷ ldx HALF 4 2 12 ∷ to_be 16 4 ∷ jump_imm JMP JNE 4 0x86dd 15
    ∷ alu64_reg MOV 5 2 ∷ alu64_imm ADD 5 24 ∷ jump_reg JGT 5 3 12 ∷ ldx HALF 4 2 22 ∷ to_be 16 4 ∷ jump_imm JMP JNE 4 0x2001 9
    ∷ alu64_reg MOV 5 2 ∷ alu64_imm ADD 5 26 ∷ jump_reg JGT 5 3 6 ∷ ldx HALF 4 2 24 ∷ to_be 16 4 ∷ alu32_imm AND 4 0x8000 ∷ jump_imm JMP JNE 4 0x8000 2
    ∷ alu64_imm MOV 0 2 ∷ exit_insn ∷ alu64_imm MOV 0 1 ∷ exit_insn ∷ []

-- The table, row by row in document 01's words.
abbrev pub Table : Type 0
Table =
    -- K1: "RawIp `ip`: L 6."
    (answer_of (made ip_sheet 1 0) ≡ Given 6)
    -- K2: "Ethernet `ip`: L 12, listing below."
    × (made ip_sheet 0 0 ≡ late 12 1 (made_l k2_insns))
    × ((out : List ℕ) → output_after (made ip_sheet 0 0) out ≡ k2 ++ drop 96 out)
    -- K3: "prefix 17: second segment masked 0x8000."
    × (prefix_mask 1 ≡ 0x8000)
    × (M.half_mask 17 1 ≡ 0x8000)
    × ((mode : ℕ) (link : LinkType) (addr : Ipv6Addr) (at : ℕ) → check_segment mode link addr 17 at 1
    ≡ emit_load Half (at + 2) ++ (fixed (alu32_imm AND 4 0x8000) ∷ fails mode JNE (bit_and (segment_of addr 1) 0x8000)))
    × (made (net6_sheet 17) 0 0 ≡ late 25 1 (made_l k3_insns))
    × Passes (net6_sheet 17) 0 (sent6 (0x20 ∷ 0x01 ∷ 0xff ∷ 0xff ∷ []))
    × Drops (net6_sheet 17) 0 (sent6 (0x20 ∷ 0x01 ∷ 0x7f ∷ 0xff ∷ []))
    -- K4: "prefix 0: no address byte."
    × ((mode : ℕ) (link : LinkType) (addr : Ipv6Addr) (at : ℕ) → check_net6 mode link addr 0 at 8 0 ≡ [])
    × (answer_of (made (net6_sheet 0) 0 0) ≡ Given 12)
    × (made (net6_sheet 0) 0 0 ≡ made ip6_sheet 0 0)
    × Passes (net6_sheet 0) 0 (frame 0x86 0xdd 0 [])
    -- K5: "Ethernet `host 10.0.0.1`, either: L 24; a 30 byte frame with that source passes, its first 29 bytes drop; under Not they pass."
    × (answer_of (made (one host) 0 0) ≡ Given 24)
    × (length (sent ten) ≡ 30)
    × Passes (one host) 0 (sent ten)
    × Drops (one host) 0 (take 29 (sent ten))
    × Passes (lone host (3 ∷ 0 ∷ [])) 0 (take 29 (sent ten))
    -- K6: "192.168.1.20 as source: plain drops it, mended passes it; 127.255.255.255 passes in both."
    × (r0_of (made (from big) 0 0) (sent big) ≡ 1)
    × (r0_of (made (from big) 0 1) (sent big) ≡ 2)
    × (sheet_holds (from big) 0 (sent big) ≡ true)
    × Passes (from small) 0 (sent small)
    -- K7: "RawIp, header 20, source port: 24 bytes pass, 23 drop."
    × (length segment_frame ≡ 24)
    × Passes port_sheet 1 segment_frame
    × Drops port_sheet 1 (take 23 segment_frame)
    -- K8: "offsets 32767 and 32768 raw, 32753 and 32754 net on Ethernet, -1; shifts 31 and 32; no tokens: refusal 4."
    × (answer_of (made (access 0 32767) 0 0) ≡ Given 11)
    × (made (access 0 32768) 0 0 ≡ early 5 0)
    × (answer_of (made (access 1 32753) 0 0) ≡ Given 11)
    × (made (access 1 32754) 0 0 ≡ early 5 0)
    × (made (access 0 (2 ^ 32 - 1)) 0 0 ≡ early 5 0)
    × (made (access 1 (2 ^ 32 - 1)) 0 0 ≡ early 5 0)
    × (answer_of (made (shifted 8 31) 0 0) ≡ Given 12)
    × (made (shifted 8 32) 0 0 ≡ early 6 0)
    × (answer_of (made (shifted 9 31) 0 0) ≡ Given 12)
    × (made (shifted 9 32) 0 0 ≡ early 6 0)
    × (made (replicate 6 0) 0 0 ≡ early 4 0)
    × (made (lone host []) 0 0 ≡ early 4 0)

pub worked : Table
unfolding
    outcome_of outcome answer_of output_after admit_of roomed measure_of measured check_of check_sections check_parts check_accesses complete one_tree steps_before takes lowest_wrong sheet_wrong
    wrong_in base_of far far_offset shifts big_shift shift_at shape_of scan wanted met_by sections_of step_count prim_count token_count steps_part prims_part tokens_part record_wrong step_wrong
    token_wrong wrong_byte most least plain_most access_most number_most optional field_most q_most first any be2 be4 be8 link_of dir_of cmp_of arith_of layer_of access_size_of proto_of maybe_proto_of
    decode_at dir_at proto_at host_at port_at net6_at ipv6_net_at ipv6_at access_at rhs_at step_at refusal ether_refusal unless_ether proto_refusal port_refusal access_refusal rhs_refusal steps_refusal
    step_refusal op_refusal L.program_length L.sizes_of L.size_at L.size_of L.count_of L.ethertype_size L.sides L.clip L.net6_side L.l4_size L.prereq_size L.proto_size L.cmp_size L.swap_size
    L.layer_size L.access_size count tree_of trees_of template template_of emit_primitive emit_proto emit_host4 check_addr4 check_word_at emit_net6 check_net6 check_segment
    prefix_mask emit_port emit_port_prereqs prereqs_v4 emit_l4_proto_check check_ports check_port emit_byte_access access_at_code steps_and_cmp emit_steps emit_cmp sides transport
    link_record ether_proto_offset net_offset emit_ethertype check emit_load guard load bytes_of end_of fails skips succeeds class_of compile_l emit_l listed prologue epilogue ended_l resolved_l set_off
    reach successes failures code_of new to_le_bytes run_of go_of ended_of first_state step_of turn_of halt_of place_after regs_after act_at act_of exit_act branch_reg_act branch_act swap_act imm32_act
    imm64_act reg64_act readable load_act frame_act context_act le_at with_of value_of known_of fresh exit_form branch_reg_form branch_form swap_form imm32_form imm64_form reg64_form load_form
    form_at form_of allowed plain compares swapped alu64 alu32 sext32 sext16 insn_at sheet_holds expression_holds primitive_holds holds M.means M.host4 M.net6 M.halves M.covered M.half_mask
    segment_of M.ports M.ports_at M.start4 M.ip M.ip6 M.l4 M.directed M.ethertype passes there number
worked = (
  refl,
  refl,
  (λ out. refl),
  refl,
  refl,
  (λ mode link addr at. refl),
  refl,
  (refl, refl, refl),
  (refl, refl, refl),
  (λ mode link addr at. refl),
  refl,
  refl,
  (refl, refl, refl),
  refl,
  refl,
  (refl, refl, refl),
  (refl, refl, refl),
  (refl, refl, refl),
  refl,
  refl,
  refl,
  (refl, refl, refl),
  refl,
  (refl, refl, refl),
  (refl, refl, refl),
  refl,
  refl,
  refl,
  refl,
  refl,
  refl,
  refl,
  refl,
  refl,
  refl,
  refl,
  refl,
)
