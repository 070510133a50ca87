-- What an accepted sheet is, and that its L is small.
use Prim.Native.Nat.{ℕ, zero, suc, ◌+◌, ◌*◌, ◌/◌, ◌%◌, ◌<◌, ◌≤◌}
use mathlib.Core.Path.{◌≡◌, refl, sym, ap, subst}
use mathlib.Core.Bool.{Bool, true, false, cond, ◌&&◌}
use mathlib.Core.List.{List, [], ◌∷◌}
use native.Mathlib.Omega.{arith}
use borrow.Author.Tests.{ltb-true, ltb-false, eqb-true}
use lib.Dec.{eqb, ltb}
use lib.ListN.{get_or, take}
use Rattle.std.specs.Prelude.{Option, Some, None}
use Rattle.filter.specs.declared.sheet.Counts.{Counts}
use Rattle.filter.specs.Bytes.{be2}
use Rattle.filter.specs.Ast.{link_of, ether_proto_offset}
use Rattle.filter.specs.First.{first}
use Rattle.filter.specs.Record.{access_at, host_at, host6_at, port_at, range_at, net_at, net6_at, ether_host_at, mpls_at, session_at, len_at, decode_at}
use Rattle.filter.specs.Sheet.{counts, sections_of, steps_part, prims_part, tokens_part}
use Rattle.filter.specs.declared.ast.LinkType.{LinkType}
use Rattle.filter.specs.declared.ast.Dir.{Dir}
use Rattle.filter.specs.declared.ast.Dir.TheVariants.{SrcOrDst, Src, Dst, SrcAndDst}
use Rattle.filter.specs.declared.ast.Ipv6Net.{Ipv6Net}
use Rattle.filter.specs.declared.ast.Proto as p
use Rattle.filter.specs.declared.ast.Proto.TheVariants.{Ip, Ip6, Arp, Rarp, Tcp, Udp, Icmp, Icmp6, Igmp, Sctp, Num, Ip6Proto}
use Rattle.filter.specs.declared.ast.CmpOp.{CmpOp}
use Rattle.filter.specs.declared.ast.CmpOp.TheVariants.{Eq, Ne, Lt, Le, Gt, Ge, BitAnd}
use Rattle.filter.specs.declared.ast.AccessSize.{AccessSize}
use Rattle.filter.specs.declared.ast.AccessSize.TheVariants.{Byte, Half, Word}
use Rattle.filter.specs.declared.ast.Layer as l
use Rattle.filter.specs.declared.ast.Layer.TheVariants as layers
use Rattle.filter.specs.declared.ast.Primitive.{Primitive}
use Rattle.filter.specs.declared.ast.Primitive.TheVariants.{Host, Host6, Port, PortRange, Net, Net6, Proto, EtherHost, EtherProto, EtherMulticast, IpBroadcast, IpMulticast, Ip6Multicast, Vlan, Mpls, PppoeDiscovery, PppoeSession, IpProtoChain, Ip6ProtoChain, Len, Inbound, Outbound, ByteAccess}
use Rattle.tree.specs.Tokens.{count, is_jump}
use Rattle.refusals.specs.Refusal.{Answer}
use Rattle.refusals.specs.Refusal.Answer.{Refused, Given}
use Rattle.checks.specs.declared.measure.Measured.{Measured}
use Rattle.checks.specs.Check.{takes, steps_before, one_tree, complete, far_offset, shift_at, lowest_wrong, check_accesses, check_parts, check_sections, check_of}
use Rattle.checks.specs.Refusal.{refusal}
use Rattle.checks.specs.Length.{by_ether, ethertype_size, sides, clip, net6_side, l4_size, prereq_size, dual_size, proto_size, id_size, label_size, cmp_size, swap_size, layer_size, access_size, count_of, size_of, size_at, sizes_of, program_length}
use Rattle.checks.specs.Measure.{asks, measured, measure_of}
use Rattle.tree.specs.Shape.{shape_of}

-- the steps that a primitive takes
steps_of : Primitive → ℕ
steps_of (Host addr dir) = 0
steps_of (Host6 addr dir) = 0
steps_of (Port port dir proto) = 0
steps_of (PortRange lo hi dir proto) = 0
steps_of (Net net dir) = 0
steps_of (Net6 net dir) = 0
steps_of (Proto x) = 0
steps_of (EtherHost addr dir) = 0
steps_of (EtherProto et) = 0
steps_of EtherMulticast = 0
steps_of IpBroadcast = 0
steps_of IpMulticast = 0
steps_of Ip6Multicast = 0
steps_of (Vlan id) = 0
steps_of (Mpls label) = 0
steps_of PppoeDiscovery = 0
steps_of (PppoeSession id) = 0
steps_of (IpProtoChain n) = 0
steps_of (Ip6ProtoChain n) = 0
steps_of (Len op value) = 0
steps_of Inbound = 0
steps_of Outbound = 0
steps_of (ByteAccess x) = x.steps

by_ether_le : (e : Option ℕ) (n m : ℕ) {most : ℕ} → n ≤ most → m ≤ most → by_ether e n m ≤ most
by_ether_le (Some off) n m h h' = h
by_ether_le None n m h h' = h'

eth_le : (link : LinkType) → ethertype_size link ≤ 6
unfolding ethertype_size
eth_le link = by_ether_le (ether_proto_offset link) 6 0 (omega arith) (omega arith)

sides_le : (dir : Dir) (n m : ℕ) → sides dir n m ≤ 2 * n + m
unfolding sides
sides_le SrcOrDst n m = omega arith
sides_le Src n m = omega arith
sides_le Dst n m = omega arith
sides_le SrcAndDst n m = omega arith

clip_le : (n : ℕ) → clip n ≤ 128
unfolding clip
clip_le n = go (ltb n 128) refl
  where
    go : (t : Bool) → ltb n 128 ≡ t → cond t n 128 ≤ 128
    go true e = let h : n < 128 = ltb-true n 128 e in omega arith
    go false e = omega arith

net6_le : (net : Ipv6Net) → net6_side net ≤ 49
unfolding net6_side
net6_le net = go (eqb (clip net.prefix_len % 16) 0) (clip net.prefix_len) (clip_le net.prefix_len)
  where
    go : (t : Bool) (q : ℕ) → q ≤ 128 → cond t (6 * ((q + 15) / 16)) (6 * ((q + 15) / 16) + 1) ≤ 49
    go true q h = omega arith
    go false q h = omega arith

l4_le : (proto : Option p.Proto) → l4_size proto ≤ 6
unfolding l4_size
l4_le None = omega arith
l4_le (Some x) = omega arith

prereq_le : (link : LinkType) (proto : Option p.Proto) → prereq_size link proto ≤ 37
unfolding prereq_size
prereq_le link proto = let h = l4_le proto in by_ether_le (ether_proto_offset link) _ _ (omega arith) (omega arith)

dual_le : (link : LinkType) → dual_size link ≤ 18
unfolding dual_size
dual_le link = by_ether_le (ether_proto_offset link) 18 5 (omega arith) (omega arith)

proto_le : (link : LinkType) (x : p.Proto) → proto_size link x ≤ 18
unfolding proto_size
proto_le link Ip = omega (arith, eth_le link)
proto_le link Ip6 = omega (arith, eth_le link)
proto_le link Arp = omega (arith, eth_le link)
proto_le link Rarp = omega (arith, eth_le link)
proto_le link Tcp = dual_le link
proto_le link Udp = dual_le link
proto_le link Icmp = omega (arith, eth_le link)
proto_le link Icmp6 = omega (arith, eth_le link)
proto_le link Igmp = omega (arith, eth_le link)
proto_le link Sctp = dual_le link
proto_le link (Num n) = omega (arith, eth_le link)
proto_le link (Ip6Proto n) = omega (arith, eth_le link)

id_le : (id : Option ℕ) (n : ℕ) → id_size id n ≤ n
unfolding id_size
id_le None n = omega arith
id_le (Some x) n = omega arith

label_le : (label : Option ℕ) → label_size label ≤ 7
unfolding label_size
label_le None = omega arith
label_le (Some x) = omega arith

cmp_le : (op : CmpOp) → cmp_size op ≤ 2
unfolding cmp_size
cmp_le Eq = omega arith
cmp_le Ne = omega arith
cmp_le Lt = omega arith
cmp_le Le = omega arith
cmp_le Gt = omega arith
cmp_le Ge = omega arith
cmp_le BitAnd = omega arith

swap_le : (size : AccessSize) → swap_size size ≤ 2
unfolding swap_size
swap_le Byte = omega arith
swap_le Half = omega arith
swap_le Word = omega arith

layer_le : (layer : l.Layer) → layer_size layer ≤ 12
unfolding layer_size
layer_le layers.Raw = omega arith
layer_le layers.Net = omega arith
layer_le layers.Trans = omega arith

-- no primitive takes more than 128 instructions beside its steps
count_le : (link : LinkType) (x : Primitive) → count_of link x ≤ 128 + steps_of x
unfolding count_of steps_of access_size
count_le link (Host addr dir) = omega (arith, eth_le link, sides_le dir 6 0)
count_le link (Host6 addr dir) = omega (arith, eth_le link, sides_le dir 48 1)
count_le link (Port port dir proto) = omega (arith, prereq_le link proto, sides_le dir 3 0)
count_le link (PortRange lo hi dir proto) = omega (arith, prereq_le link proto, sides_le dir 4 1)
count_le link (Net net dir) = omega (arith, eth_le link, sides_le dir 7 0)
count_le link (Net6 net dir) = omega (arith, eth_le link, net6_le net, sides_le dir (net6_side net) 1)
count_le link (Proto x) = omega (arith, proto_le link x)
count_le link (EtherHost addr dir) = omega (arith, sides_le dir 12 1)
count_le link (EtherProto et) = omega (arith, eth_le link)
count_le link EtherMulticast = omega arith
count_le link IpBroadcast = omega (arith, eth_le link)
count_le link IpMulticast = omega (arith, eth_le link)
count_le link Ip6Multicast = omega (arith, eth_le link)
count_le link (Vlan id) = omega (arith, eth_le link, id_le id 7)
count_le link (Mpls label) = omega (arith, label_le label)
count_le link PppoeDiscovery = omega (arith, eth_le link)
count_le link (PppoeSession id) = omega (arith, eth_le link, id_le id 6)
count_le link (IpProtoChain n) = omega (arith, eth_le link)
count_le link (Ip6ProtoChain n) = omega (arith, eth_le link)
count_le link (Len op value) = omega (arith, cmp_le op)
count_le link Inbound = omega arith
count_le link Outbound = omega arith
count_le link (ByteAccess x) = omega (arith, layer_le x.layer, swap_le x.size, cmp_le x.op)

pass : (b : Bool) (x y : Primitive) (t : ℕ) → steps_of x ≡ 0 → steps_of y ≤ t → steps_of (cond b x y) ≤ t
pass true x y t e h = omega arith
pass false x y t e h = h

last : (b : Bool) (x : Primitive) (n : ℕ) → steps_of x ≡ n → steps_of (cond b x Outbound) ≤ cond b n 0
unfolding steps_of
last true x n e = omega arith
last false x n e = omega arith

-- the primitive of a record takes the steps that the record says
steps_le : (s : List ℕ) (at : ℕ) → steps_of (decode_at s at) ≤ cond (eqb (get_or s at 0) 23) (be2 s (at + 12)) 0
unfolding decode_at host_at host6_at port_at range_at net_at net6_at ether_host_at mpls_at session_at len_at steps_of access_at
steps_le s at =
    let k = get_or s at 0 in
    pass (eqb k 1) _ _ _ refl
    (pass (eqb k 2) _ _ _ refl
    (pass (eqb k 3) _ _ _ refl
    (pass (eqb k 4) _ _ _ refl
    (pass (eqb k 5) _ _ _ refl
    (pass (eqb k 6) _ _ _ refl
    (pass (eqb k 7) _ _ _ refl
    (pass (eqb k 8) _ _ _ refl
    (pass (eqb k 9) _ _ _ refl
    (pass (eqb k 10) _ _ _ refl
    (pass (eqb k 11) _ _ _ refl
    (pass (eqb k 12) _ _ _ refl
    (pass (eqb k 13) _ _ _ refl
    (pass (eqb k 14) _ _ _ refl
    (pass (eqb k 15) _ _ _ refl
    (pass (eqb k 16) _ _ _ refl
    (pass (eqb k 17) _ _ _ refl
    (pass (eqb k 18) _ _ _ refl
    (pass (eqb k 19) _ _ _ refl
    (pass (eqb k 20) _ _ _ refl
    (pass (eqb k 21) _ _ _ refl
    (last (eqb k 23) (ByteAccess (access_at s at)) (be2 s (at + 12)) refl)))))))))))))))))))))

size_le : (link : LinkType) (steps prims : List ℕ) (i : ℕ) → size_at link steps prims i ≤ 128 + takes prims i
unfolding size_at size_of takes
size_le link steps prims i =
    let x = decode_at prims (24 * i) in
    let h : count_of link x ≤ 128 + steps_of x = count_le link x in
    let g : steps_of x ≤ cond (eqb (get_or prims (24 * i) 0) 23) (be2 prims (24 * i + 12)) 0 = steps_le prims (24 * i) in
    go (eqb (refusal link steps (steps_before prims i) x) 0) (count_of link x) _ (omega arith)
  where
    go : (t : Bool) (n m : ℕ) → n ≤ m → cond t n 0 ≤ m
    go true n m h = h
    go false n m h = omega arith

pub sizes_le : (link : LinkType) (steps prims : List ℕ) (n : ℕ) → sizes_of link steps prims n ≤ 128 * n + steps_before prims n
unfolding sizes_of steps_before
sizes_le link steps prims zero = omega arith
sizes_le link steps prims (suc n) = omega (arith, sizes_le link steps prims n, size_le link steps prims n)

jumps_le : (ts : List ℕ) (n : ℕ) → count is_jump (take n ts) ≤ n
unfolding count
jumps_le ts zero = omega arith
jumps_le [] (suc n) = omega arith
jumps_le (t ∷ ts) (suc n) = go (is_jump t) (count is_jump (take n ts)) (jumps_le ts n)
  where
    go : (b : Bool) (m : ℕ) → m ≤ n → cond b (suc m) m ≤ suc n
    go true m h = omega arith
    go false m h = omega arith

pub length_le : (link : LinkType) (steps prims tokens : List ℕ) (b c : ℕ)
    → program_length link steps prims tokens b c ≤ 6 + c + 128 * b + steps_before prims b
unfolding program_length
length_le link steps prims tokens b c = omega (arith, jumps_le tokens c, sizes_le link steps prims b)

-- none of refusals 3 to 6
pub record Accepted (link : LinkType) (steps prims tokens : List ℕ) (a b c : ℕ) : Type 0 where
  pub right : 5 * a + 24 * b + c + 6 ≤ lowest_wrong steps prims tokens a b c
  pub whole : one_tree (shape_of tokens) b ≡ true
  pub taken : steps_before prims b ≡ a
  pub near : b ≤ first (far_offset link prims) b 0
  pub short : b ≤ first (shift_at steps prims) b 0

-- one whole tree, with as many primitives as there are
pub whole_shape : (x : Option ℕ) (b : ℕ) → one_tree x b ≡ true → x ≡ Some b
unfolding one_tree
whole_shape (Some n) b e = ap Some (eqb-true n b e)
whole_shape None b e = let never : ◌≡◌ {A = ℕ} 0 1 = cc in absurd (omega arith)

pub first_true : (x y : Bool) → x && y ≡ true → x ≡ true
first_true true y e = refl
first_true false y e = e

pub second_true : (x y : Bool) → x && y ≡ true → y ≡ true
second_true true y e = e
second_true false y e = let never : ◌≡◌ {A = ℕ} 0 1 = cc in absurd (omega arith)

-- no refusal is found in the parts of an accepted sheet
pub good_parts : (link : LinkType) (steps prims tokens : List ℕ) (a b c : ℕ) {x y z : ℕ} → check_parts link steps prims tokens a b c ≡ Given (counts x y z)
    → Accepted link steps prims tokens a b c × (x ≡ a) × (y ≡ b) × (z ≡ c)
unfolding check_parts check_accesses complete
good_parts link steps prims tokens a b c {x} {y} {z} =
    go (ltb (lowest_wrong steps prims tokens a b c) (5 * a + 24 * b + c + 6)) (one_tree (shape_of tokens) b && eqb (steps_before prims b) a)
    (ltb (first (far_offset link prims) b 0) b) (ltb (first (shift_at steps prims) b 0) b) refl refl refl refl
  where
    go : (p q r t : Bool) → ltb (lowest_wrong steps prims tokens a b c) (5 * a + 24 * b + c + 6) ≡ p → one_tree (shape_of tokens) b && eqb (steps_before prims b) a ≡ q
        → ltb (first (far_offset link prims) b 0) b ≡ r → ltb (first (shift_at steps prims) b 0) b ≡ t
        → cond p (Refused 3 (lowest_wrong steps prims tokens a b c)) (cond q (cond r (Refused 5 (first (far_offset link prims) b 0)) (cond t (Refused 6 (first (shift_at steps prims) b 0)) (Given (counts a b c)))) (Refused 4 0)) ≡ Given (counts x y z)
        → Accepted link steps prims tokens a b c × (x ≡ a) × (y ≡ b) × (z ≡ c)
    go true q r t ep eq er et e = let never : ◌≡◌ {A = ℕ} 0 1 = cc in absurd (omega arith)
    go false false r t ep eq er et e = let never : ◌≡◌ {A = ℕ} 0 1 = cc in absurd (omega arith)
    go false true true t ep eq er et e = let never : ◌≡◌ {A = ℕ} 0 1 = cc in absurd (omega arith)
    go false true false true ep eq er et e = let never : ◌≡◌ {A = ℕ} 0 1 = cc in absurd (omega arith)
    go false true false false ep eq er et e =
        let q : counts a b c ≡ counts x y z = cc in (
          record {
            right = ltb-false _ _ ep;
            whole = first_true _ _ eq;
            taken = eqb-true _ _ (second_true (one_tree (shape_of tokens) b) _ eq);
            near = ltb-false _ _ er;
            short = ltb-false _ _ et;
          },
          sym (ap (λ (k : Counts). k.steps) q),
          sym (ap (λ (k : Counts). k.prims) q),
          sym (ap (λ (k : Counts). k.tokens) q),
        )

-- none of refusals 1 to 6
pub record Taken (s : List ℕ) (link a b c : ℕ) : Type 0 where
  pub low : link ≤ 2
  pub found : sections_of s ≡ Some (counts a b c)
  pub parts : Accepted (link_of link) (steps_part s a) (prims_part s a b) (tokens_part s a b c) a b c

moved : (s : List ℕ) (link : ℕ) {a b c x y z : ℕ} → a ≡ x → b ≡ y → c ≡ z → Taken s link x y z → Taken s link a b c
moved s link {a} {b} {c} {x} {y} {z} p q r t =
    subst (λ (n : ℕ). Taken s link n b c) (sym p)
    (subst (λ (n : ℕ). Taken s link x n c) (sym q) (subst (λ (n : ℕ). Taken s link x y n) (sym r) t))

-- a sheet that is accepted, with these counts
pub good : (s : List ℕ) (link : ℕ) {a b c : ℕ} → check_of s link ≡ Given (counts a b c) → Taken s link a b c
unfolding check_of check_sections
good s link {a} {b} {c} = on_link (ltb 2 link) refl
  where
    on_sections : (x : Option Counts) → link ≤ 2 → sections_of s ≡ x → check_sections (link_of link) s x ≡ Given (counts a b c) → Taken s link a b c
    on_sections (Some n) h f e =
        let g =
        good_parts
        (link_of link)
        (steps_part s n.steps)
        (prims_part s n.steps n.prims)
        (tokens_part s n.steps n.prims n.tokens)
        n.steps
        n.prims
        n.tokens
        e in
        moved s link g.1 g.2 g.3 (record { low = h; found = f; parts = g.0 })
    on_sections None h f e = let never : ◌≡◌ {A = ℕ} 0 1 = cc in absurd (omega arith)

    on_link : (t : Bool) → ltb 2 link ≡ t → cond t (Refused 1 0) (check_sections (link_of link) s (sections_of s)) ≡ Given (counts a b c) → Taken s link a b c
    on_link true h e = let never : ◌≡◌ {A = ℕ} 0 1 = cc in absurd (omega arith)
    on_link false h e = on_sections (sections_of s) (ltb-false 2 link h) refl e

-- an accepted sheet's L
pub good_length : (s : List ℕ) (link : ℕ) {a b c : ℕ} → check_of s link ≡ Given (counts a b c)
    → program_length (link_of link) (steps_part s a) (prims_part s a b) (tokens_part s a b c) b c ≤ 6 + c + 128 * b + a
good_length s link {a} {b} {c} e =
    let t = (good s link e).parts.taken in
    omega (arith, length_le (link_of link) (steps_part s a) (prims_part s a b) (tokens_part s a b c) b c)

-- a measured sheet's L
pub measured_length : (s : List ℕ) (link : ℕ) {a b c l : ℕ} → measure_of s link ≡ Given (asks (counts a b c) l) → l ≤ 6 + c + 128 * b + a
unfolding measure_of measured
measured_length s link {a} {b} {c} {l} = on_check (check_of s link) refl
  where
    on_check : (x : Answer Counts) → check_of s link ≡ x → measured x s link ≡ Given (asks (counts a b c) l) → l ≤ 6 + c + 128 * b + a
    on_check (Refused number place) e m = let never : ◌≡◌ {A = ℕ} 0 1 = cc in absurd (omega arith)
    on_check (Given n) e m =
        let q : asks n (program_length (link_of link) (steps_part s n.steps) (prims_part s n.steps n.prims) (tokens_part s n.steps n.prims n.tokens) n.prims n.tokens) ≡ asks (counts a b c) l = cc in
        let ea : n.steps ≡ a = ap (λ (m : Measured). m.counts.steps) q in
        let eb : n.prims ≡ b = ap (λ (m : Measured). m.counts.prims) q in
        let ec : n.tokens ≡ c = ap (λ (m : Measured). m.counts.tokens) q in
        let el : program_length (link_of link) (steps_part s n.steps) (prims_part s n.steps n.prims) (tokens_part s n.steps n.prims n.tokens) n.prims n.tokens ≡ l = ap (λ (m : Measured). m.length) q in
        omega (arith, good_length s link e)
