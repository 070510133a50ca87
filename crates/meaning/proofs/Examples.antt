-- The definitions computed, by hand-made frames and sheets: what document 01 checks by hand of the evaluator.
use Rattle.std.specs.Prelude.{None}
use Rattle.std.proofs.Common.{◌≡◌, ℕ, zero, suc, true, false, List, [], ◌∷◌, ◌++◌, take, refl}
use Rattle.filter.specs.Ast.{link_of, link_record, ether_proto_offset, net_offset, dir_of, segment_of}
use Rattle.filter.specs.Bytes.{be2, be4}
use Rattle.filter.specs.First.{first, any}
use Rattle.filter.specs.Record.{decode_at, dir_at, host_at}
use Rattle.filter.specs.Sheet.{step_count, prim_count, token_count, sections_of, steps_part, prims_part, tokens_part}
use Rattle.filter.specs.Wrong.{q_most, field_most, optional, number_most, plain_most, most, least, wrong_byte, record_wrong, step_wrong, token_wrong}
use Rattle.tree.specs.Shape.{wanted, met_by, scan, shape_of}
use Rattle.tree.specs.Tree.{depth, holds, trees_of, tree_of}
use Rattle.checks.specs.Check.{wrong_in, sheet_wrong, lowest_wrong, takes, steps_before, one_tree, complete, far_offset, shift_at, check_accesses, check_parts, check_sections, check_of}
use Rattle.checks.specs.Refusal.{refusal, refusal_at}
use Rattle.meaning.specs.Frame.{there, number, passes}
use Rattle.filter.specs.Prefix.{prefix_mask}
use Rattle.meaning.specs.Meaning.{directed, covered, half_mask, given, l4, ethertype, ip, ip6, address4, host4, net4, halves, net6, start4, start6, ports_at, ports, means}
use Rattle.meaning.specs.Evaluate.{primitive_holds, expression_holds, first_refused, judge, evaluated, evaluate_of}
use Rattle.filter.specs.declared.ast.LinkType.TheVariants.{Ethernet, RawIp}
use Rattle.filter.specs.declared.ast.Dir.TheVariants.{SrcOrDst, Src}
use Rattle.filter.specs.declared.ast.Primitive.TheVariants.{Port}
use Rattle.refusals.specs.Refusal.Answer.{Refused, Given}

abbrev zeros : ℕ → List ℕ
zeros zero = []
zeros (suc n) = 0 ∷ zeros n

-- An Ethernet header and nothing else.
abbrev bare : ℕ → List ℕ
bare low = zeros 12 ++ (0x86 ∷ low ∷ [])

abbrev bare4 : List ℕ
bare4 = zeros 12 ++ (0x08 ∷ 0x00 ∷ [])

-- "a net reading only the halves its prefix enters", "each address test reads the whole word": with nothing to compare, the first holds where no address is.
pub nets : (net6 Ethernet (bare 0xdd) (record { hi = 7; lo = 8 }) 0 Src ≡ true)
    × (net6 Ethernet (bare 0xdd) (record { hi = 7; lo = 8 }) 1 Src ≡ false)
    × (net4 Ethernet bare4 (record { addr = 7; mask = 0 }) Src ≡ false)
    × (net4 Ethernet (bare4 ++ zeros 16) (record { addr = 7; mask = 0 }) Src ≡ true)
    × (net4 Ethernet (bare4 ++ zeros 15) (record { addr = 7; mask = 0 }) Src ≡ false)
unfolding net6 net4 address4 halves directed ethertype passes there number ether_proto_offset net_offset link_record covered half_mask prefix_mask segment_of
nets = (refl, refl, refl, refl, refl)

-- K3: "prefix 17: second segment masked 0x8000"; K4: "prefix 0: no address byte"; "prefixes above 128 act as 128".
pub masks : (half_mask 17 0 ≡ 0xffff)
    × (half_mask 17 1 ≡ 0x8000)
    × (half_mask 17 2 ≡ 0)
    × (half_mask 0 0 ≡ 0)
    × (half_mask 128 7 ≡ 0xffff)
    × (half_mask 255 7 ≡ 0xffff)
unfolding half_mask prefix_mask covered
masks = (refl, refl, refl, refl, refl, refl)

-- An IPv4 header of 20 bytes that carries TCP, then ports 80 and 1025, each byte of which must be there.
abbrev segment : List ℕ
segment = 0x45 ∷ (zeros 8 ++ (6 ∷ (zeros 10 ++ (0 ∷ 80 ∷ 4 ∷ 1 ∷ []))))

-- K7: "RawIp, header 20, source port: 24 bytes pass, 23 drop."
pub k7 : (means RawIp segment [] 0 (Port 80 Src None) ≡ true)
    × (means RawIp (take 23 segment) [] 0 (Port 80 Src None) ≡ false)
    × (means RawIp segment [] 0 (Port 1025 SrcOrDst None) ≡ true)
    × (means RawIp segment [] 0 (Port 1025 Src None) ≡ false)
unfolding means ports ports_at start4 start6 ip ip6 l4 given directed ethertype passes there number ether_proto_offset net_offset link_record
k7 = (refl, refl, refl, refl)

-- One primitive, its first eight bytes given, and the tokens.
abbrev lone : List ℕ → List ℕ → List ℕ
lone head tokens = 0 ∷ 0 ∷ 0 ∷ 1 ∷ (head ++ zeros 16) ++ tokens

-- `host 10.0.0.1` in either direction.
abbrev host : List ℕ → List ℕ
host tokens = lone (1 ∷ 0 ∷ 0 ∷ 0 ∷ 10 ∷ 0 ∷ 0 ∷ 1 ∷ []) tokens

abbrev inbound : List ℕ → List ℕ
inbound tokens = lone (21 ∷ zeros 7) tokens

-- The source is 10.0.0.1, and the frame ends with it.
abbrev sent : List ℕ
sent = bare4 ++ (zeros 12 ++ (10 ∷ 0 ∷ 0 ∷ 1 ∷ []))

-- The same behind Linux's cooked header: "its protocol at 14", and the network header at 16.
abbrev cooked : List ℕ
cooked = zeros 2 ++ sent

abbrev nots : ℕ → List ℕ
nots zero = 0 ∷ []
nots (suc n) = 3 ∷ nots n

-- K5: "a 30 byte frame with that source passes, its first 29 bytes drop; under Not they pass". 9, "tree deeper than 256, the root counted", comes before 16. On link 2 everything stands two bytes later.
pub k5 : (evaluate_of (host (0 ∷ 1 ∷ 0 ∷ [])) 0 sent ≡ Given true)
    × (evaluate_of (host (0 ∷ 1 ∷ 0 ∷ [])) 0 (take 29 sent) ≡ Given false)
    × (evaluate_of (host (0 ∷ 2 ∷ 3 ∷ 0 ∷ [])) 0 (take 29 sent) ≡ Given true)
    × (evaluate_of (host (0 ∷ 2 ∷ 3 ∷ 0 ∷ [])) 0 sent ≡ Given false)
    × (evaluate_of (host (0 ∷ 1 ∷ 0 ∷ [])) 2 cooked ≡ Given true)
    × (evaluate_of (host (0 ∷ 1 ∷ 0 ∷ [])) 2 (take 31 cooked) ≡ Given false)
    × (evaluate_of (host (0 ∷ 1 ∷ 0 ∷ [])) 3 sent ≡ Refused 1 0)
    × (evaluate_of (host (0 ∷ 0 ∷ [])) 0 sent ≡ Refused 4 0)
    × (evaluate_of (host (1 ∷ 0 ∷ nots 255)) 0 sent ≡ Given false)
    × (evaluate_of (host (1 ∷ 1 ∷ nots 256)) 0 sent ≡ Refused 9 0)
    × (evaluate_of (inbound (1 ∷ 0 ∷ nots 255)) 0 sent ≡ Refused 16 0)
    × (evaluate_of (inbound (1 ∷ 1 ∷ nots 256)) 0 sent ≡ Refused 9 0)
unfolding
    evaluate_of evaluated judge expression_holds primitive_holds refusal_at first_refused tree_of trees_of depth holds first any check_of check_sections check_parts
    check_accesses complete one_tree steps_before takes lowest_wrong sheet_wrong wrong_in far_offset shift_at shape_of scan wanted met_by sections_of step_count prim_count
    token_count steps_part prims_part tokens_part record_wrong step_wrong token_wrong wrong_byte most least plain_most number_most optional field_most q_most decode_at dir_at host_at be2 be4
    link_of dir_of refusal means host4 directed ethertype passes there number ether_proto_offset net_offset link_record
k5 = (refl, refl, refl, refl, refl, refl, refl, refl, refl, refl, refl, refl)
