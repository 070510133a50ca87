-- Document 01's K1 and K2 computed from the sheet's bytes to the program's.
use Prim.Native.Nat.{ℕ}
use mathlib.Core.Path.{◌≡◌, refl, sym, ap, ◌∙◌}
use mathlib.Core.List.{List, [], ◌∷◌, ◌++◌}
use native.Mathlib.Omega.{arith}
use lib.ListN.{get_or, drop, replicate}
use Rattle.ebpf.specs.Insn.{new, to_le_bytes}
use Rattle.ebpf.proofs.Examples.{k2_insns, k2}
use Rattle.program.specs.Program.{code_of}
use Rattle.filter.specs.Ast.{link_of, link_record, ether_proto_offset, net_offset, proto_of, bytes_of}
use Rattle.filter.specs.Bytes.{be2}
use Rattle.filter.specs.First.{first, any}
use Rattle.filter.specs.Record.{decode_at, proto_at}
use Rattle.filter.specs.Sheet.{step_count, prim_count, token_count, sections_of, steps_part, prims_part, tokens_part}
use Rattle.filter.specs.Wrong.{q_most, field_most, optional, number_most, plain_most, most, least, wrong_byte, record_wrong, step_wrong, token_wrong}
use Rattle.tree.specs.Shape.{wanted, met_by, scan, shape_of}
use Rattle.tree.specs.Tokens.{count}
use Rattle.tree.specs.Tree.{trees_of, tree_of}
use Rattle.checks.specs.Check.{wrong_in, sheet_wrong, lowest_wrong, takes, steps_before, one_tree, complete, far_offset, shift_at, check_accesses, check_parts, check_sections, check_of}
use Rattle.checks.specs.Length.{ethertype_size, proto_size, count_of, size_of, size_at, sizes_of, program_length}
use Rattle.checks.specs.Measure.{measured, measure_of, roomed, admit_of}
use Rattle.checks.specs.Refusal.{proto_refusal, refusal}
use Rattle.pieces.specs.Fragments.{guard, load, end_of, emit_load, class_of, fails, check, emit_ethertype}
use Rattle.codegen.specs.Primitives.{emit_proto, emit_primitive}
use Rattle.patches.specs.Chain.{reach}
use Rattle.patches.specs.Code.{successes, failures}
use Rattle.patches.specs.Listing.{set_off, resolved_l, listed, emit_l, ended_l, compile_l}
use Rattle.patches.specs.Listing.CompL.{made_l}
use Rattle.patches.specs.Whole.{prologue, epilogue}
use Rattle.generator.specs.Template.{template_of, template}
use Rattle.generator.specs.Compile.{outcome, outcome_of, answer_of, output_after}
use Rattle.generator.specs.Compile.Outcome.{early, late}
use Rattle.refusals.specs.Refusal.Answer.{Refused, Given}

-- `ip`: no steps, one primitive (kind 7, Proto, p 1), one token.
abbrev ip_sheet : List ℕ
ip_sheet = 0 ∷ 0 ∷ 0 ∷ 1 ∷ 7 ∷ 0 ∷ 1 ∷ (replicate 21 0 ++ (0 ∷ 1 ∷ 0 ∷ []))

-- K1: RawIp, L 6. K2: Ethernet, L 12, its listing byte for byte; what lies behind it stays. One byte or one number less is refused 7 and 8.
pub worked : (answer_of (outcome_of ip_sheet 1 0 48 14) ≡ Given 6)
    × (outcome_of ip_sheet 0 0 96 20 ≡ late 12 1 (made_l k2_insns))
    × ((out : List ℕ) → output_after (outcome_of ip_sheet 0 0 96 20) out ≡ k2 ++ drop 96 out)
    × (outcome_of ip_sheet 0 0 95 20 ≡ early 7 0)
    × (outcome_of ip_sheet 0 0 96 19 ≡ early 8 0)
unfolding
    outcome_of outcome answer_of output_after admit_of roomed measure_of measured program_length sizes_of size_at size_of count_of proto_size ethertype_size count check_of check_sections check_parts
    check_accesses complete one_tree steps_before takes lowest_wrong sheet_wrong wrong_in far_offset shift_at shape_of scan wanted met_by sections_of step_count prim_count token_count steps_part
    prims_part tokens_part record_wrong step_wrong token_wrong wrong_byte most least plain_most number_most optional field_most q_most decode_at proto_at proto_of be2 first any link_of refusal
    proto_refusal template template_of emit_primitive emit_proto emit_ethertype link_record ether_proto_offset net_offset check emit_load guard load bytes_of end_of fails class_of tree_of trees_of
    compile_l emit_l listed prologue epilogue ended_l resolved_l set_off reach successes failures new code_of to_le_bytes
worked = (refl, refl, (λ out. refl), refl, refl)

-- "a generator that refuses everything" meets no contract: `ip` on RawIp has a program.
pub refuses_everything : (number place : ℕ) → answer_of (outcome_of ip_sheet 1 0 48 14) ≡ Refused number place → ⊥
refuses_everything number place e = let k = worked.0 in let never : ◌≡◌ {A = ℕ} 0 1 = cc in omega arith

-- "one fixed program": the two links ask for programs of 6 and of 12 instructions.
pub one_program : (l : ℕ) → answer_of (outcome_of ip_sheet 1 0 48 14) ≡ Given l → answer_of (outcome_of ip_sheet 0 0 96 20) ≡ Given l → ⊥
unfolding answer_of
one_program l e f =
    let k = worked.0 in
    let twelve : answer_of (outcome_of ip_sheet 0 0 96 20) ≡ Given 12 = ap answer_of worked.1 in
    let short : ◌≡◌ {A = ℕ} 6 l = cc in
    let long : ◌≡◌ {A = ℕ} 12 l = cc in
    omega arith

-- "an untouched output": 96 zeros do not stay.
pub untouched : output_after (outcome_of ip_sheet 0 0 96 20) (replicate 96 0) ≡ replicate 96 0 → ⊥
untouched e =
    let first : ◌≡◌ {A = ℕ} 0x61 0 = ap (λ (o : List ℕ). get_or o 0 0) (sym (worked.2 (replicate 96 0)) ∙ e) in
    omega arith
