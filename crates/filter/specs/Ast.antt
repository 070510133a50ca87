-- The codes of the sheet, each in its type's order. A code past the last stands for the last, so that every record can be read.
use Rattle.std.specs.Prelude.{ℕ, ◌-◌, ◌*◌, ◌/◌, ◌%◌, ◌^◌, Bool, true, false, Option, Some, None, cond, eqb, ltb}
use Rattle.filter.specs.declared.ast.Dir.{Dir}
use Rattle.filter.specs.declared.ast.Dir.TheVariants.{SrcOrDst, Src, Dst, SrcAndDst}
use Rattle.filter.specs.declared.ast.Proto.{Proto}
use Rattle.filter.specs.declared.ast.Proto.TheVariants.{Ip, Ip6, Arp, Rarp, Tcp, Udp, Icmp, Icmp6, Igmp, Sctp, Num, Ip6Proto}
use Rattle.filter.specs.declared.ast.ArithOp.{ArithOp}
use Rattle.filter.specs.declared.ast.ArithOp.TheVariants.{Add, Sub, Mul, Div, Mod, And, Or, Xor, Shl, Shr}
use Rattle.filter.specs.declared.ast.CmpOp.{CmpOp}
use Rattle.filter.specs.declared.ast.CmpOp.TheVariants.{Eq, Ne, Lt, Le, Gt, Ge, BitAnd}
use Rattle.filter.specs.declared.ast.AccessSize.{AccessSize}
use Rattle.filter.specs.declared.ast.AccessSize.TheVariants.{Byte, Half, Word}
use Rattle.filter.specs.declared.ast.Layer.{Layer}
use Rattle.filter.specs.declared.ast.Layer.TheVariants.{Raw, Net, Trans}
use Rattle.filter.specs.declared.ast.LinkType.{LinkType}
use Rattle.filter.specs.declared.ast.LinkType.TheVariants.{Ethernet, RawIp, LinuxSll}
use Rattle.filter.specs.declared.ast.Link.{Link}
use Rattle.filter.specs.declared.ast.Ipv6Addr.{Ipv6Addr}

-- "Link 0, Ethernet", "Link 1, RawIp", "Link 2 is new"
unfoldable pub link_of : ℕ → LinkType
link_of b = cond (eqb b 0) Ethernet (cond (eqb b 1) RawIp LinuxSll)

-- "Describe a link by a record: where the ethertype is, if anywhere; where the network header starts; whether MAC addresses are there."
-- "Ethernet: ethertype at byte 12, network header at 14"; "RawIp: no ethertype, network header at 0"; "Linux's cooked header .. has 16 bytes, its protocol at 14".
unfoldable pub link_record : LinkType → Link
link_record Ethernet = record { ethertype = Some 12; net = 14; macs = true }
link_record RawIp = record { ethertype = None; net = 0; macs = false }
link_record LinuxSll = record { ethertype = Some 14; net = 16; macs = false }

-- "All offsets .. that name 12, 14 or 16 from the frame's start .. are read from this record"
unfoldable pub ether_proto_offset : LinkType → Option ℕ
ether_proto_offset link = (link_record link).ethertype

unfoldable pub net_offset : LinkType → ℕ
net_offset link = (link_record link).net

unfoldable pub has_macs : LinkType → Bool
has_macs link = (link_record link).macs

-- "1 direction (`Dir` order, 0 to 3)"
unfoldable pub dir_of : ℕ → Dir
dir_of b = cond (eqb b 0) SrcOrDst (cond (eqb b 1) Src (cond (eqb b 2) Dst SrcAndDst))

-- "p is a `Proto`, 1 to 12 in its order", "q is the number of 11 and 12"
unfoldable pub proto_of : ℕ → ℕ → Proto
proto_of p q =
    cond (eqb p 1) Ip
    (cond (eqb p 2) Ip6
    (cond (eqb p 3) Arp
    (cond (eqb p 4) Rarp
    (cond (eqb p 5) Tcp
    (cond (eqb p 6) Udp
    (cond (eqb p 7) Icmp
    (cond (eqb p 8) Icmp6
    (cond (eqb p 9) Igmp
    (cond (eqb p 10) Sctp
    (cond (eqb p 11) (Num q)
    (Ip6Proto q)))))))))))

-- "0 for none in 3 and 4 only"
unfoldable pub maybe_proto_of : ℕ → ℕ → Option Proto
maybe_proto_of p q = cond (eqb p 0) None (Some (proto_of p q))

-- "operator 0 to 9 in `ArithOp` order"
unfoldable pub arith_of : ℕ → ArithOp
arith_of b =
    cond (eqb b 0) Add
    (cond (eqb b 1) Sub
    (cond (eqb b 2) Mul
    (cond (eqb b 3) Div
    (cond (eqb b 4) Mod
    (cond (eqb b 5) And
    (cond (eqb b 6) Or
    (cond (eqb b 7) Xor
    (cond (eqb b 8) Shl
    Shr))))))))

-- "p is a `CmpOp`, 0 to 6"
unfoldable pub cmp_of : ℕ → CmpOp
cmp_of b =
    cond (eqb b 0) Eq
    (cond (eqb b 1) Ne
    (cond (eqb b 2) Lt
    (cond (eqb b 3) Le
    (cond (eqb b 4) Gt
    (cond (eqb b 5) Ge
    BitAnd)))))

-- "byte 1 layer", 0 to 2
unfoldable pub layer_of : ℕ → Layer
layer_of b = cond (eqb b 0) Raw (cond (eqb b 1) Net Trans)

-- "q size", 0 to 2
unfoldable pub access_size_of : ℕ → AccessSize
access_size_of b = cond (eqb b 0) Byte (cond (eqb b 1) Half Word)

-- how many bytes a load of a size reads
unfoldable pub bytes_of : AccessSize → ℕ
bytes_of Byte = 1
bytes_of Half = 2
bytes_of Word = 4

-- `addr.segments()`: segment i of an address, from 0 to 7, 16 bits
unfoldable pub segment_of : Ipv6Addr → ℕ → ℕ
segment_of addr i = cond (ltb i 4) (addr.hi / 2 ^ (16 * (3 - i)) % 65536) (addr.lo / 2 ^ (16 * (7 - i)) % 65536)
