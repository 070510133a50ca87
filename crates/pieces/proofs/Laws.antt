-- What the proofs of the emitting functions go by: what each definition comes to, and the laws of pieces one after the other.
use Rattle.std.proofs.Common.{◌≡◌, ℕ, zero, suc, arith, ap, length, add-one, ◌+◌, ◌*◌, ◌%◌, ◌^◌, List, [], ◌∷◌, ◌++◌, refl, length-append}
use Rattle.std.specs.Int.Bits.{bit_and}
use Rattle.std.proofs.lemmas.Nat.{and_mask}
use Rattle.filter.specs.Record.{step_at}
use Rattle.ebpf.specs.Opcode.{JNE, JEQ, JGE, JLT, JLE, JSET, ADD, AND, LSH, MOV, JGT, WORD, HALF, BYTE}
use Rattle.ebpf.specs.Insn.{new, alu64_reg, alu64_imm, alu32_imm, ldx, to_be, jump_imm, jump_always}
use Rattle.patches.specs.Code.{Slot, Emission, with_off, block}
use Rattle.patches.specs.Code.Slot.{fixed, success, failure}
use Rattle.filter.specs.Ast.{ether_proto_offset, net_offset}
use Rattle.filter.specs.declared.ast.LinkType.{LinkType}
use Rattle.std.specs.Prelude.{Some, None}
use Rattle.filter.specs.declared.ast.AccessSize.TheVariants.{Byte, Half, Word}
use Rattle.filter.specs.declared.ast.CmpOp.TheVariants.{Eq, Ne, Lt, Le, Gt, Ge, BitAnd}
use Rattle.pieces.specs.Fragments.{load, emit_load, class_of, fails, skips, succeeds, check, emit_cmp, alu32_of, emit_steps, transport, emit_ethertype, emit_ip4_l4, emit_ip6_l4, dual_at, emit_dual_l4}
use Rattle.pieces.proofs.Pieces.{fits_at, pos_at, pos_after, then, step, one, mode_of, link_of, mode_after, link_after}

-- Loads.
pub byte_is : (base off : ℕ) → load Byte base off ≡ fixed (ldx BYTE 4 base (off % 2 ^ 16)) ∷ []
unfolding load
byte_is base off = refl

pub half_is : (base off : ℕ) → load Half base off ≡ fixed (ldx HALF 4 base (off % 2 ^ 16)) ∷ fixed (to_be 16 4) ∷ []
unfolding load
half_is base off = refl

pub word_is : (base off : ℕ) → load Word base off ≡ fixed (ldx WORD 4 base (off % 2 ^ 16)) ∷ fixed (to_be 32 4) ∷ []
unfolding load
word_is base off = refl

pub low16 : (n : ℕ) → bit_and n 65535 ≡ n % 2 ^ 16
low16 n = and_mask n 16

pub transport_is : (net : ℕ)
    → transport net
    ≡ emit_load Byte net
    ++ (fixed (alu32_imm AND 4 0x0f) ∷ fixed (alu32_imm LSH 4 2) ∷ fixed (alu64_reg MOV 6 2) ∷ fixed (alu64_imm ADD 6 net) ∷ fixed (alu64_reg ADD 6 4) ∷ [])
unfolding transport
transport_is net = refl

-- Single jumps and checks.
pub fails_is : (mode op k : ℕ) → fails mode op k ≡ failure (jump_imm (class_of mode) op 4 k 0) ∷ []
unfolding fails
fails_is mode op k = refl

pub skips_is : (mode op k d : ℕ) → skips mode op k d ≡ fixed (with_off d (jump_imm (class_of mode) op 4 k 0))
unfolding skips with_off new
skips_is mode op k d = refl

pub jumps_is : (d : ℕ) → jump_always d ≡ with_off d (jump_always 0)
unfolding with_off new
jumps_is d = refl

pub succeeds_is : (mode op k : ℕ) → succeeds mode op k ≡ success (jump_imm (class_of mode) op 4 k 0)
unfolding succeeds
succeeds_is mode op k = refl

pub eq_is : (mode k : ℕ) → emit_cmp mode Eq k ≡ fails mode JNE k
unfolding emit_cmp
eq_is mode k = refl

pub ne_is : (mode k : ℕ) → emit_cmp mode Ne k ≡ fails mode JEQ k
unfolding emit_cmp
ne_is mode k = refl

pub gt_is : (mode k : ℕ) → emit_cmp mode Gt k ≡ fails mode JLE k
unfolding emit_cmp
gt_is mode k = refl

pub ge_is : (mode k : ℕ) → emit_cmp mode Ge k ≡ fails mode JLT k
unfolding emit_cmp
ge_is mode k = refl

pub lt_is : (mode k : ℕ) → emit_cmp mode Lt k ≡ fails mode JGE k
unfolding emit_cmp
lt_is mode k = refl

pub le_is : (mode k : ℕ) → emit_cmp mode Le k ≡ fails mode JGT k
unfolding emit_cmp
le_is mode k = refl

pub bits_is : (mode k : ℕ) → emit_cmp mode BitAnd k ≡ skips mode JSET k 1 ∷ failure (jump_always 0) ∷ []
unfolding emit_cmp
bits_is mode k = refl

-- Ethertypes and what stands above them.
pub ethertype_is : (mode : ℕ) (link : LinkType) (et off : ℕ) → ether_proto_offset link ≡ Some off → emit_ethertype mode link et ≡ check mode Half off et
unfolding emit_ethertype
ethertype_is mode link et off h = rw h refl

pub no_ethertype : (mode : ℕ) (link : LinkType) (et : ℕ) → ether_proto_offset link ≡ None → emit_ethertype mode link et ≡ []
unfolding emit_ethertype
no_ethertype mode link et h = rw h refl

pub ip4_is : (mode : ℕ) (link : LinkType) (proto : ℕ) → emit_ip4_l4 mode link proto ≡ emit_ethertype mode link 0x0800 ++ check mode Byte (net_offset link + 9) proto
unfolding emit_ip4_l4
ip4_is mode link proto = refl

pub ip6_is : (mode : ℕ) (link : LinkType) (next : ℕ) → emit_ip6_l4 mode link next ≡ emit_ethertype mode link 0x86dd ++ check mode Byte (net_offset link + 6) next
unfolding emit_ip6_l4
ip6_is mode link next = refl

pub dual_is : (mode : ℕ) (link : LinkType) (proto off : ℕ) → ether_proto_offset link ≡ Some off → emit_dual_l4 mode link proto ≡ dual_at mode (Some off) link proto
unfolding emit_dual_l4
dual_is mode link proto off h = rw h refl

pub no_dual : (mode : ℕ) (link : LinkType) (proto : ℕ) → ether_proto_offset link ≡ None → emit_dual_l4 mode link proto ≡ emit_ip4_l4 mode link proto
unfolding emit_dual_l4
no_dual mode link proto h = rw h refl

-- Steps: one more, and how many.
pub steps_more : (steps : List ℕ) (n from : ℕ)
    → emit_steps steps (n + 1) from
    ≡ emit_steps steps n from ++ (fixed (alu32_imm (alu32_of (step_at steps (5 * (from + n))).op) 4 (step_at steps (5 * (from + n))).operand) ∷ [])
unfolding emit_steps
steps_more steps n from = rw (add-one n) (go n from)
  where
    insn : ℕ → Slot
    insn j = fixed (alu32_imm (alu32_of (step_at steps (5 * j)).op) 4 (step_at steps (5 * j)).operand)

    go : (n from : ℕ) → emit_steps steps (suc n) from ≡ emit_steps steps n from ++ (fixed (alu32_imm (alu32_of (step_at steps (5 * (from + n))).op) 4 (step_at steps (5 * (from + n))).operand) ∷ [])
    go zero from = let e : from + 0 ≡ from = omega arith in rw e refl
    go (suc n) from = let e : from + suc n ≡ suc from + n = omega arith in rw e (ap (λ (xs : List Slot). insn from ∷ xs) (go n (suc from)))

pub steps_length : (steps : List ℕ) (n from : ℕ) → length (emit_steps steps n from) ≡ n
unfolding emit_steps
steps_length steps zero from = refl
steps_length steps (suc n) from = ap suc (steps_length steps n (suc from))

pub no_steps : (steps : List ℕ) (from : ℕ) → emit_steps steps 0 from ≡ []
unfolding emit_steps
no_steps steps from = refl

-- Nothing is written.
pub none : (e : Emission) → block [] e ≡ e
unfolding block
none e = refl

pub ruleset chains = (then, step, one, none, mode_of, link_of, mode_after, link_after)

pub ruleset rooms = (fits_at, pos_at, pos_after, length-append)

pub ruleset pieces = (
  low16,
  steps_more,
  steps_length,
  no_steps,
  byte_is,
  half_is,
  word_is,
  transport_is,
  fails_is,
  skips_is,
  jumps_is,
  succeeds_is,
  eq_is,
  ne_is,
  gt_is,
  ge_is,
  lt_is,
  le_is,
  bits_is,
  ethertype_is,
  no_ethertype,
  ip4_is,
  ip6_is,
  dual_is,
  no_dual,
)

pub ruleset laws = (chains, rooms, pieces)
