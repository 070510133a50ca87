-- What a record of 24 bytes at a place says: "0 kind; 1 direction; 2 p; 3 q; 4-7 n; 8-23 a". A kind past 23 is read as the last of the plain ones.
use Rattle.std.specs.Prelude.{ℕ, ◌+◌, List, Option, Some, None, cond, get_or, eqb}
use Rattle.filter.specs.Bytes.{be2, be4, be6, be8}
use Rattle.filter.specs.Ast.{dir_of, cmp_of, arith_of, layer_of, access_size_of, proto_of, maybe_proto_of}
use Rattle.filter.specs.declared.ast.Dir.{Dir}
use Rattle.filter.specs.declared.ast.Proto as ast
use Rattle.filter.specs.declared.ast.Ipv6Addr.{Ipv6Addr}
use Rattle.filter.specs.declared.ast.IpNet.{IpNet}
use Rattle.filter.specs.declared.ast.Ipv6Net.{Ipv6Net}
use Rattle.filter.specs.declared.ast.ByteLoad.{ByteLoad}
use Rattle.filter.specs.declared.ast.CmpRhs.{CmpRhs}
use Rattle.filter.specs.declared.ast.CmpRhs.TheVariants.{Const, Load}
use Rattle.filter.specs.declared.ast.Step.{Step}
use Rattle.filter.specs.declared.ast.ByteAccess as struct
use Rattle.filter.specs.declared.ast.Primitive.{Primitive}
use Rattle.filter.specs.declared.ast.Primitive.TheVariants.{Host, Host6, Port, PortRange, Net, Net6, Proto, EtherHost, EtherProto, EtherMulticast, IpBroadcast, IpMulticast, Ip6Multicast, Vlan, Mpls, PppoeDiscovery, PppoeSession, IpProtoChain, Ip6ProtoChain, Len, Inbound, Outbound, ByteAccess}

-- a: an IPv6 address
unfoldable pub ipv6_at : List ℕ → ℕ → Ipv6Addr
ipv6_at s at = record { hi = be8 s (at + 8); lo = be8 s (at + 16) }

-- an IPv4 network: n, "mask in 8-11"
unfoldable pub ip_net_at : List ℕ → ℕ → IpNet
ip_net_at s at = record { addr = be4 s (at + 4); mask = be4 s (at + 8) }

-- an IPv6 network: "p prefix", a
unfoldable pub ipv6_net_at : List ℕ → ℕ → Ipv6Net
ipv6_net_at s at = record { addr = ipv6_at s at; prefix_len = get_or s (at + 2) 0 }

-- "14 Vlan and 17 PppoeSession (p 1: number n to 65535; p 0: none, n 0)"
unfoldable pub id_at : List ℕ → ℕ → Option ℕ
id_at s at = cond (eqb (get_or s (at + 2) 0) 0) None (Some (be2 s (at + 6)))

-- "15 Mpls (the same, n any)"
unfoldable pub label_at : List ℕ → ℕ → Option ℕ
label_at s at = cond (eqb (get_or s (at + 2) 0) 0) None (Some (be4 s (at + 4)))

-- "a load: layer 15, size 16, same codes, any offset 17-20"
unfoldable pub load_at : List ℕ → ℕ → ByteLoad
load_at s at =
    record { layer = layer_of (get_or s (at + 15) 0); offset = be4 s (at + 17); size = access_size_of (get_or s (at + 16) 0) }

-- "14 is 0 (constant in 8-11) or 1 (a load ..)"
unfoldable pub rhs_at : List ℕ → ℕ → CmpRhs
rhs_at s at = cond (eqb (get_or s (at + 14) 0) 0) (Const (be4 s (at + 8))) (Load (load_at s at))

-- "In 23: byte 1 layer, q size, n signed offset, 12-13 how many steps it takes next from the steps section", p a `CmpOp`
unfoldable pub access_at : List ℕ → ℕ → struct.ByteAccess
access_at s at =
    record {
      layer = layer_of (get_or s (at + 1) 0);
      offset = be4 s (at + 4);
      size = access_size_of (get_or s (at + 3) 0);
      steps = be2 s (at + 12);
      op = cmp_of (get_or s (at + 2) 0);
      rhs = rhs_at s at;
    }

-- "1 direction (`Dir` order, 0 to 3)"
unfoldable pub dir_at : List ℕ → ℕ → Dir
dir_at s at = dir_of (get_or s (at + 1) 0)

-- "In kinds 3, 4, 7, p is a `Proto` .. and 0 for none in 3 and 4 only; q is the number of 11 and 12"
unfoldable pub proto_at : List ℕ → ℕ → Option ast.Proto
proto_at s at = maybe_proto_of (get_or s (at + 2) 0) (get_or s (at + 3) 0)

-- "1 Host IPv4 (direction, n)"
unfoldable pub host_at : List ℕ → ℕ → Primitive
host_at s at = Host (be4 s (at + 4)) (dir_at s at)

-- "2 Host IPv6 (direction, a)"
unfoldable pub host6_at : List ℕ → ℕ → Primitive
host6_at s at = Host6 (ipv6_at s at) (dir_at s at)

-- "3 Port (direction, p, q, n to 65535)"
unfoldable pub port_at : List ℕ → ℕ → Primitive
port_at s at = Port (be2 s (at + 6)) (dir_at s at) (proto_at s at)

-- "4 PortRange (direction, p, q, n = lo x 65536 + hi)"
unfoldable pub range_at : List ℕ → ℕ → Primitive
range_at s at = PortRange (be2 s (at + 4)) (be2 s (at + 6)) (dir_at s at) (proto_at s at)

-- "5 Net (direction, n, mask in 8-11)"
unfoldable pub net_at : List ℕ → ℕ → Primitive
net_at s at = Net (ip_net_at s at) (dir_at s at)

-- "6 Net6 (direction, p prefix, a)"
unfoldable pub net6_at : List ℕ → ℕ → Primitive
net6_at s at = Net6 (ipv6_net_at s at) (dir_at s at)

-- "8 EtherHost (direction, 8-13)"
unfoldable pub ether_host_at : List ℕ → ℕ → Primitive
ether_host_at s at = EtherHost (be6 s (at + 8)) (dir_at s at)

-- "15 Mpls"
unfoldable pub mpls_at : List ℕ → ℕ → Primitive
mpls_at s at = Mpls (label_at s at)

-- "17 PppoeSession"
unfoldable pub session_at : List ℕ → ℕ → Primitive
session_at s at = PppoeSession (id_at s at)

-- "20 Len (p, n)"
unfoldable pub len_at : List ℕ → ℕ → Primitive
len_at s at = Len (cmp_of (get_or s (at + 2) 0)) (be4 s (at + 4))

-- "Kinds", by byte 0: "7 Proto (p, q)", "9 EtherProto (n to 65535)", "18 IpProtoChain, 19 Ip6ProtoChain (p)"
unfoldable pub decode_at : List ℕ → ℕ → Primitive
decode_at s at =
    let k = get_or s at 0 in
    cond (eqb k 1) (host_at s at)
    (cond (eqb k 2) (host6_at s at)
    (cond (eqb k 3) (port_at s at)
    (cond (eqb k 4) (range_at s at)
    (cond (eqb k 5) (net_at s at)
    (cond (eqb k 6) (net6_at s at)
    (cond (eqb k 7) (Proto (proto_of (get_or s (at + 2) 0) (get_or s (at + 3) 0)))
    (cond (eqb k 8) (ether_host_at s at)
    (cond (eqb k 9) (EtherProto (be2 s (at + 6)))
    (cond (eqb k 10) EtherMulticast
    (cond (eqb k 11) IpBroadcast
    (cond (eqb k 12) IpMulticast
    (cond (eqb k 13) Ip6Multicast
    (cond (eqb k 14) (Vlan (id_at s at))
    (cond (eqb k 15) (mpls_at s at)
    (cond (eqb k 16) PppoeDiscovery
    (cond (eqb k 17) (session_at s at)
    (cond (eqb k 18) (IpProtoChain (get_or s (at + 2) 0))
    (cond (eqb k 19) (Ip6ProtoChain (get_or s (at + 2) 0))
    (cond (eqb k 20) (len_at s at)
    (cond (eqb k 21) Inbound
    (cond (eqb k 23) (ByteAccess (access_at s at))
    Outbound)))))))))))))))))))))

-- "Steps, 5 bytes: operator 0 to 9 in `ArithOp` order, operand (4)"
unfoldable pub step_at : List ℕ → ℕ → Step
step_at s at = record { op = arith_of (get_or s at 0); operand = be4 s (at + 1) }
