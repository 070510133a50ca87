-- The pieces of code that primitives are made of, function by function of ebpf_codegen.rs: loads with guard, single checks, ethertype, dual-stack.
-- A jump that the Rust resolves inside a primitive has its distance written here; one that it hands on is open.
use Rattle.std.specs.Prelude.{ℕ, zero, suc, ◌+◌, ◌-◌, ◌*◌, ◌%◌, ◌^◌, ◌<◌, ◌≤◌, cond, List, [], ◌∷◌, ◌++◌, length, ◌==◌, Option, Some, None}
use Rattle.ebpf.specs.Opcode.{ADD, SUB, MUL, DIV, OR, AND, LSH, RSH, XOR, MOV, JMP, JMP32, JEQ, JNE, JGT, JGE, JLT, JLE, JSET, WORD, HALF, BYTE}
use Rattle.ebpf.specs.Insn.{alu64_reg, alu64_imm, alu32_imm, to_be, ldx, jump_imm, jump_reg, jump_always}
use Rattle.patches.specs.Code.{Slot, with_off}
use Rattle.patches.specs.declared.Patches.{Patches}
use Rattle.patches.specs.Code.Slot.{fixed, success, failure}
use Rattle.filter.specs.Ast.{ether_proto_offset, net_offset, bytes_of}
use Rattle.filter.specs.Record.{step_at}
use Rattle.filter.specs.declared.ast.LinkType.{LinkType}
use Rattle.filter.specs.declared.ast.Dir.{Dir}
use Rattle.filter.specs.declared.ast.Dir.TheVariants.{SrcOrDst, Src, Dst, SrcAndDst}
use Rattle.filter.specs.declared.ast.AccessSize.{AccessSize}
use Rattle.filter.specs.declared.ast.AccessSize.TheVariants.{Byte, Half, Word}
use Rattle.filter.specs.declared.ast.ArithOp.{ArithOp}
use Rattle.filter.specs.declared.ast.ArithOp.TheVariants.{Add, Sub, Mul, Div, Mod, And, Or, Xor, Shl, Shr}
use Rattle.filter.specs.declared.ast.CmpOp.{CmpOp}
use Rattle.filter.specs.declared.ast.CmpOp.TheVariants.{Eq, Ne, Lt, Le, Gt, Ge, BitAnd}

-- There is room for a piece: the next place stays a 32-bit number.
pub record Fits (xs : List Slot) (st : Patches) : Type 0 where
  pub room : st.pos + length xs < 2 ^ 32

-- How far it is from the front of a piece to k instructions past its end.
unfoldable pub past : List Slot → ℕ → ℕ
past [] k = k
past (x ∷ xs) k = suc (past xs k)

-- `resolve`: the open failures lead k instructions past the end of the piece.
unfoldable pub settled : ℕ → List Slot → List Slot
settled k [] = []
settled k (fixed i ∷ xs) = fixed i ∷ settled k xs
settled k (success i ∷ xs) = success i ∷ settled k xs
settled k (failure i ∷ xs) = fixed (with_off (past xs k) i) ∷ settled k xs

-- One slot at place p: a failure leads to place end, or stays open where end is 0.
unfoldable pub led : ℕ → ℕ → Slot → Slot
led end p (fixed i) = fixed i
led end p (success i) = success i
led end p (failure i) = cond (end == 0) (failure i) (fixed (with_off (end - suc p) i))

-- The slots from place p on.
unfoldable pub lead : ℕ → ℕ → List Slot → List Slot
lead end p [] = []
lead end p (x ∷ xs) = led end p x ∷ lead end (suc p) xs

-- There is room for a piece whose failures lead to place end, and 16 bits hold each distance.
pub record Leads (end : ℕ) (xs : List Slot) (st : Patches) : Type 0 where
  pub room : st.pos + length xs < 2 ^ 32
  pub near : end ≤ st.pos + 65536

-- `check(src); ja; resolve(src_fails, dst_start); check(dst)`: one of two checks, the first one's success jumping past the second.
unfoldable pub one_of : List Slot → List Slot → List Slot
one_of first second = settled 1 first ++ (success (jump_always 0) ∷ second)

unfoldable pub sides : Dir → List Slot → List Slot → List Slot
sides SrcOrDst source destination = one_of source destination
sides Src source destination = source
sides Dst source destination = destination
sides SrcAndDst source destination = source ++ destination

-- R5 = base + end, which must not lie past R3: `mov64_reg(R5, base); add64_imm(R5, end); jgt_reg(R5, R3)`.
unfoldable pub guard : ℕ → ℕ → List Slot
guard base end = fixed (alu64_reg MOV 5 base) ∷ fixed (alu64_imm ADD 5 end) ∷ failure (jump_reg JGT 5 3 0) ∷ []

-- `push_ldx_h_be`, `push_ldx_w_be`, and the byte: R4 = the number at base + off. `off as i16` keeps 16 bits.
unfoldable pub load : AccessSize → ℕ → ℕ → List Slot
load Byte base off = fixed (ldx BYTE 4 base (off % 2 ^ 16)) ∷ []
load Half base off = fixed (ldx HALF 4 base (off % 2 ^ 16)) ∷ fixed (to_be 16 4) ∷ []
load Word base off = fixed (ldx WORD 4 base (off % 2 ^ 16)) ∷ fixed (to_be 32 4) ∷ []

-- Where a number of this size at an offset ends, in 32 bits.
unfoldable pub end_of : AccessSize → ℕ → ℕ
end_of size offset = (offset + bytes_of size) % 2 ^ 32

-- `emit_load_byte`, `emit_load_half`, `emit_load_word`.
unfoldable pub emit_load : AccessSize → ℕ → List Slot
emit_load size offset = guard 2 (end_of size offset) ++ load size 2 offset

-- `ebpf_alu32`; Mod is refused.
unfoldable pub alu32_of : ArithOp → ℕ
alu32_of Add = ADD
alu32_of Sub = SUB
alu32_of Mul = MUL
alu32_of Div = DIV
alu32_of Mod = MOV
alu32_of And = AND
alu32_of Or = OR
alu32_of Xor = XOR
alu32_of Shl = LSH
alu32_of Shr = RSH

-- n steps of a byte access, from step j on.
unfoldable pub emit_steps : List ℕ → ℕ → ℕ → List Slot
emit_steps steps zero j = []
emit_steps steps (suc n) j = fixed (alu32_imm (alu32_of (step_at steps (5 * j)).op) 4 (step_at steps (5 * j)).operand) ∷ emit_steps steps n (suc j)

-- R6 = R2 + net + IHL * 4.
unfoldable pub transport : ℕ → List Slot
transport net =
    emit_load Byte net
    ++ (fixed (alu32_imm AND 4 0x0f) ∷ fixed (alu32_imm LSH 4 2) ∷ fixed (alu64_reg MOV 6 2) ∷ fixed (alu64_imm ADD 6 net) ∷ fixed (alu64_reg ADD 6 4) ∷ [])

-- The class of a conditional jump on R4 and an immediate: JMP in plain mode, JMP32 in mended mode.
unfoldable pub class_of : ℕ → ℕ
class_of mode = cond (mode == 0) JMP JMP32

module _ (mode : ℕ) where
  -- A jump on R4 and an immediate that is handed on as a failure, and one with its distance.
  unfoldable pub fails : ℕ → ℕ → List Slot
  fails operation k = failure (jump_imm (class_of mode) operation 4 k 0) ∷ []

  unfoldable pub skips : ℕ → ℕ → ℕ → Slot
  skips operation k distance = fixed (jump_imm (class_of mode) operation 4 k distance)

  unfoldable pub succeeds : ℕ → ℕ → Slot
  succeeds operation k = success (jump_imm (class_of mode) operation 4 k 0)

  -- `check_byte`, `check_half`, `check_word`.
  unfoldable pub check : AccessSize → ℕ → ℕ → List Slot
  check size offset expected = emit_load size offset ++ fails JNE expected

  -- `emit_cmp`.
  unfoldable pub emit_cmp : CmpOp → ℕ → List Slot
  emit_cmp Eq k = fails JNE k
  emit_cmp Ne k = fails JEQ k
  emit_cmp Gt k = fails JLE k
  emit_cmp Ge k = fails JLT k
  emit_cmp Lt k = fails JGE k
  emit_cmp Le k = fails JGT k
  emit_cmp BitAnd k = skips JSET k 1 ∷ failure (jump_always 0) ∷ []

  -- `emit_ethertype`: "RawIp emits nothing for ethertype 0x0800", and refuses the others.
  abbrev pub ethertype_at_code : Option ℕ → ℕ → List Slot
  ethertype_at_code (Some off) et = check Half off et
  ethertype_at_code None et = []

  unfoldable pub emit_ethertype : LinkType → ℕ → List Slot
  emit_ethertype link et = ethertype_at_code (ether_proto_offset link) et

  -- `emit_ip4_l4`, `emit_ip6_l4`.
  unfoldable pub emit_ip4_l4 : LinkType → ℕ → List Slot
  emit_ip4_l4 link proto = emit_ethertype link 0x0800 ++ check Byte (net_offset link + 9) proto

  unfoldable pub emit_ip6_l4 : LinkType → ℕ → List Slot
  emit_ip6_l4 link next = emit_ethertype link 0x86dd ++ check Byte (net_offset link + 6) next

  -- `emit_dual_l4`: the ethertype decides between the two blocks.
  abbrev pub dual_at : Option ℕ → LinkType → ℕ → List Slot
  dual_at (Some off) link proto =
      emit_load Half off
      ++ (skips JEQ 0x0800 7 ∷ fails JNE 0x86dd
      ++ (check Byte (net_offset link + 6) proto ++ (fixed (jump_always 5) ∷ check Byte (net_offset link + 9) proto)))
  dual_at None link proto = emit_ip4_l4 link proto

  unfoldable pub emit_dual_l4 : LinkType → ℕ → List Slot
  emit_dual_l4 link proto = dual_at (ether_proto_offset link) link proto
