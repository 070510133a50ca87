-- Document 01's examples of refusals and of L, computed: K8, the lengths of K1, K2 and K5, and places of refusal 3.
use Prim.Native.Nat.{ℕ}
use mathlib.Core.Path.{◌≡◌, refl}
use mathlib.Core.List.{List, [], ◌∷◌, ◌++◌}
use Rattle.filter.specs.Bytes.{be2, be4, be6, be8}
use Rattle.filter.specs.Ast.{link_of, link_record, ether_proto_offset, net_offset, has_macs, dir_of, cmp_of, arith_of, layer_of, access_size_of, proto_of, maybe_proto_of}
use Rattle.filter.specs.First.{first, any}
use Rattle.filter.specs.Record.{ipv6_at, id_at, label_at, load_at, rhs_at, access_at, dir_at, proto_at, host_at, net_at, net6_at, decode_at, step_at}
use Rattle.filter.specs.Sheet.{counts, step_count, prim_count, token_count, sections_of, steps_part, prims_part, tokens_part}
use Rattle.filter.specs.Wrong.{q_most, field_most, optional, number_most, plain_most, access_most, most, least, wrong_byte, record_wrong, step_wrong, token_wrong}
use Rattle.filter.specs.declared.ast.LinkType.TheVariants.{Ethernet, RawIp}
use Rattle.tree.specs.Shape.{wanted, met_by, scan, shape_of}
use Rattle.tree.specs.Tokens.{count}
use Rattle.checks.specs.Check.{wrong_in, sheet_wrong, lowest_wrong, takes, steps_before, one_tree, complete, base_of, far, far_offset, shifts, big_shift, shift_at, check_accesses, check_parts, check_sections, check_of}
use Rattle.checks.specs.Refusal.{unless_ether, unless_macs, ether_refusal, proto_refusal, refusal}
use Rattle.checks.specs.Length as L
use Rattle.refusals.specs.Refusal.Answer.{Refused, Given}

-- sixteen bytes of zeros
abbrev pub rest : List ℕ
rest = 0 ∷ 0 ∷ 0 ∷ 0 ∷ 0 ∷ 0 ∷ 0 ∷ 0 ∷ 0 ∷ 0 ∷ 0 ∷ 0 ∷ 0 ∷ 0 ∷ 0 ∷ 0 ∷ []

-- one primitive and no step, the tree that primitive alone: bytes 0 to 7 given
abbrev pub one : List ℕ → List ℕ
one start = (0 ∷ 0 ∷ 0 ∷ 1 ∷ []) ++ (start ++ (rest ++ (0 ∷ 1 ∷ 0 ∷ [])))

-- a byte access of one byte, of the layer and the offset that are given
abbrev pub access : ℕ → ℕ → ℕ → ℕ → ℕ → List ℕ
access layer n3 n2 n1 n0 = one (23 ∷ layer ∷ 0 ∷ 0 ∷ n3 ∷ n2 ∷ n1 ∷ n0 ∷ [])

-- a byte access with one shift
abbrev pub shifted : ℕ → List ℕ
shifted by =
    (0 ∷ 1 ∷ 8 ∷ 0 ∷ 0 ∷ 0 ∷ by ∷ 0 ∷ 1 ∷ 23 ∷ 0 ∷ 0 ∷ 0 ∷ 0 ∷ 0 ∷ 0 ∷ 0 ∷ [])
    ++ ((0 ∷ 0 ∷ 0 ∷ 0 ∷ 0 ∷ 1 ∷ 0 ∷ 0 ∷ 0 ∷ 0 ∷ 0 ∷ 0 ∷ 0 ∷ 0 ∷ 0 ∷ 0 ∷ []) ++ (0 ∷ 1 ∷ 0 ∷ []))

-- what is computed, and what document 01 says it is
abbrev pub Computed : Type 0
Computed =
    (check_of (access 0 0 0 127 255) 0 ≡ Given (counts 0 1 1))
    × (check_of (access 0 0 0 128 0) 0 ≡ Refused 5 0)
    × (check_of (access 1 0 0 127 241) 0 ≡ Given (counts 0 1 1))
    × (check_of (access 1 0 0 127 242) 0 ≡ Refused 5 0)
    × (check_of (access 1 255 255 255 255) 0 ≡ Refused 5 0)
    × (check_of (shifted 31) 0 ≡ Given (counts 1 1 1))
    × (check_of (shifted 32) 0 ≡ Refused 6 0)
    × (check_of (0 ∷ 0 ∷ 0 ∷ 0 ∷ 0 ∷ 0 ∷ []) 0 ≡ Refused 4 0)
    × (check_of (0 ∷ 0 ∷ 0 ∷ 0 ∷ 0 ∷ []) 0 ≡ Refused 2 0)
    × (check_of (access 1 0 0 127 239) 2 ≡ Given (counts 0 1 1))
    × (check_of (access 1 0 0 127 240) 2 ≡ Refused 5 0)
    × (check_of [] 2 ≡ Refused 2 0)
    × (check_of [] 3 ≡ Refused 1 0)
    × (check_of (one (3 ∷ 0 ∷ 0 ∷ 0 ∷ 0 ∷ 1 ∷ 0 ∷ 0 ∷ [])) 0 ≡ Refused 3 9)
    × (check_of (one (0 ∷ 0 ∷ 0 ∷ 0 ∷ 0 ∷ 0 ∷ 0 ∷ 0 ∷ [])) 0 ≡ Refused 3 4)

-- K8, and the places of the readings
pub computed : Computed
unfolding be2 be4 be6 be8 link_of link_record net_offset dir_of cmp_of arith_of layer_of access_size_of proto_of maybe_proto_of first any ipv6_at net_at net6_at id_at label_at load_at rhs_at access_at decode_at step_at step_count prim_count token_count sections_of steps_part prims_part tokens_part q_most field_most optional number_most plain_most access_most most least wrong_byte record_wrong step_wrong token_wrong wanted met_by scan shape_of count wrong_in sheet_wrong lowest_wrong takes steps_before one_tree complete base_of far far_offset shifts big_shift shift_at check_accesses check_parts check_sections check_of
computed = (refl, refl, refl, refl, refl, refl, refl, refl, refl, refl, refl, refl, refl, refl, refl)

-- K1, K2 and K5: Ip on RawIp and on Ethernet, and a host in either direction
pub lengths : (L.program_length RawIp [] (7 ∷ 0 ∷ 1 ∷ 0 ∷ []) (0 ∷ []) 1 1 ≡ 6)
    × (L.program_length Ethernet [] (7 ∷ 0 ∷ 1 ∷ 0 ∷ []) (0 ∷ []) 1 1 ≡ 12)
    × (L.program_length Ethernet [] (1 ∷ 0 ∷ 0 ∷ 0 ∷ 10 ∷ 0 ∷ 0 ∷ 1 ∷ []) (0 ∷ []) 1 1 ≡ 24)
    × (L.program_length RawIp [] (21 ∷ []) (3 ∷ 0 ∷ []) 1 2 ≡ 7)
unfolding L.ethertype_size L.sides L.clip L.net6_side L.l4_size L.prereq_size L.dual_size L.proto_size L.id_size L.label_size L.cmp_size L.swap_size L.layer_size L.access_size L.count_of L.size_of L.size_at L.sizes_of L.program_length be2 be4 be6 be8 dir_of cmp_of layer_of access_size_of proto_of maybe_proto_of access_at dir_at proto_at host_at decode_at rhs_at load_at count steps_before takes link_record ether_proto_offset has_macs unless_ether unless_macs ether_refusal proto_refusal refusal
lengths = (refl, refl, refl, refl)
