-- The refusal that a primitive earns, or 0, is at most 19.
use Prim.Native.Nat.{ℕ, zero, suc, ◌*◌, ◌≤◌}
use mathlib.Core.Path.{◌≡◌, refl}
use mathlib.Core.List.{List}
use mathlib.Core.Bool.{Bool, true, false, cond}
use native.Mathlib.Omega.{arith}
use lib.Dec.{eqb}
use Rattle.std.specs.Prelude.{Option, Some, None}
use Rattle.filter.specs.Record.{step_at}
use Rattle.filter.specs.declared.ast.LinkType.{LinkType}
use Rattle.filter.specs.Ast.{ether_proto_offset, has_macs}
use Rattle.filter.specs.declared.ast.Proto as p
use Rattle.filter.specs.declared.ast.Proto.TheVariants.{Ip, Ip6, Arp, Rarp, Tcp, Udp, Icmp, Icmp6, Igmp, Sctp, Num, Ip6Proto}
use Rattle.filter.specs.declared.ast.ArithOp.{ArithOp}
use Rattle.filter.specs.declared.ast.ArithOp.TheVariants.{Add, Sub, Mul, Div, Mod, And, Or, Xor, Shl, Shr}
use Rattle.filter.specs.declared.ast.CmpRhs.{CmpRhs}
use Rattle.filter.specs.declared.ast.CmpRhs.TheVariants.{Const, Load}
use Rattle.filter.specs.declared.ast.ByteAccess as access
use Rattle.filter.specs.declared.ast.Primitive.{Primitive}
use Rattle.filter.specs.declared.ast.Primitive.TheVariants.{Host, Host6, Port, PortRange, Net, Net6, Proto, EtherHost, EtherProto, EtherMulticast, IpBroadcast, IpMulticast, Ip6Multicast, Vlan, Mpls, PppoeDiscovery, PppoeSession, IpProtoChain, Ip6ProtoChain, Len, Inbound, Outbound, ByteAccess}
use Rattle.checks.specs.Refusal.{etherless, unless_ether, unless_macs, ether_refusal, proto_refusal, l4_refusal, port_refusal, op_refusal, step_refusal, steps_refusal, rhs_refusal, access_refusal, refusal}

-- What holds of both sides of a choice, each under its test, holds of the choice.
pub either : {A : Type 0} (P : A → Type 0) (b : Bool) (x y : A) → (b ≡ true → P x) → (b ≡ false → P y) → P (cond b x y)
either P true x y p q = p refl
either P false x y p q = q refl

abbrev pub Most : ℕ → Type 0
Most n = n ≤ 19

without_ether : (link : LinkType) (n : ℕ) → Most n → Most (unless_ether link n)
unfolding unless_ether
without_ether link n h = go (ether_proto_offset link)
  where
    go : (e : Option ℕ) → Most (etherless e n)
    go (Some off) = omega arith
    go None = h

without_macs : (link : LinkType) (n : ℕ) → Most n → Most (unless_macs link n)
unfolding unless_macs
without_macs link n h = either Most (has_macs link) 0 n (λ e. omega arith) (λ e. h)

ether : (link : LinkType) (et : ℕ) → Most (ether_refusal link et)
unfolding ether_refusal
ether link et = either Most (eqb et 0x0800) 0 (unless_ether link 11) (λ e. omega arith) (λ e. without_ether link 11 (omega arith))

proto : (link : LinkType) (x : p.Proto) → Most (proto_refusal link x)
unfolding proto_refusal
proto link Ip = omega arith
proto link Ip6 = ether link 0x86dd
proto link Arp = ether link 0x0806
proto link Rarp = ether link 0x8035
proto link Tcp = omega arith
proto link Udp = omega arith
proto link Icmp = omega arith
proto link Icmp6 = ether link 0x86dd
proto link Igmp = omega arith
proto link Sctp = omega arith
proto link (Num n) = omega arith
proto link (Ip6Proto n) = ether link 0x86dd

l4 : (x : p.Proto) → Most (l4_refusal x)
unfolding l4_refusal
l4 Ip = omega arith
l4 Ip6 = omega arith
l4 Arp = omega arith
l4 Rarp = omega arith
l4 Tcp = omega arith
l4 Udp = omega arith
l4 Icmp = omega arith
l4 Icmp6 = omega arith
l4 Igmp = omega arith
l4 Sctp = omega arith
l4 (Num n) = omega arith
l4 (Ip6Proto n) = omega arith

port : (x : Option p.Proto) → Most (port_refusal x)
unfolding port_refusal
port None = omega arith
port (Some x) = l4 x

op : (x : ArithOp) (n : ℕ) → Most (op_refusal x n)
unfolding op_refusal
op Add n = omega arith
op Sub n = omega arith
op Mul n = omega arith
op Div n = either Most (eqb n 0) 18 0 (λ e. omega arith) (λ e. omega arith)
op Mod n = omega arith
op And n = omega arith
op Or n = omega arith
op Xor n = omega arith
op Shl n = omega arith
op Shr n = omega arith

step : (steps : List ℕ) (j : ℕ) → Most (step_refusal steps j)
unfolding step_refusal
step steps j = op (step_at steps (5 * j)).op (step_at steps (5 * j)).operand

all_steps : (steps : List ℕ) (n j : ℕ) → Most (steps_refusal steps n j)
unfolding steps_refusal
all_steps steps zero j = omega arith
all_steps steps (suc n) j =
    either Most (eqb (step_refusal steps j) 0) (steps_refusal steps n (suc j)) (step_refusal steps j) (λ e. all_steps steps n (suc j)) (λ e. step steps j)

rhs : (x : CmpRhs) (n : ℕ) → Most n → Most (rhs_refusal x n)
unfolding rhs_refusal
rhs (Const v) n h = h
rhs (Load l) n h = omega arith

byte_access : (steps : List ℕ) (from : ℕ) (x : access.ByteAccess) → Most (access_refusal steps from x)
unfolding access_refusal
byte_access steps from x = rhs x.rhs (steps_refusal steps x.steps from) (all_steps steps x.steps from)

pub at_most : (link : LinkType) (steps : List ℕ) (from : ℕ) (x : Primitive) → Most (refusal link steps from x)
unfolding refusal
at_most link steps from (Host addr dir) = omega arith
at_most link steps from (Host6 addr dir) = ether link 0x86dd
at_most link steps from (Port number dir x) = port x
at_most link steps from (PortRange lo hi dir x) = port x
at_most link steps from (Net net dir) = omega arith
at_most link steps from (Net6 net dir) = ether link 0x86dd
at_most link steps from (Proto x) = proto link x
at_most link steps from (EtherHost addr dir) = without_macs link 13 (omega arith)
at_most link steps from (EtherProto et) = ether link et
at_most link steps from EtherMulticast = without_macs link 14 (omega arith)
at_most link steps from IpBroadcast = omega arith
at_most link steps from IpMulticast = omega arith
at_most link steps from Ip6Multicast = ether link 0x86dd
at_most link steps from (Vlan id) = ether link 0x8100
at_most link steps from (Mpls label) = without_ether link 15 (omega arith)
at_most link steps from PppoeDiscovery = ether link 0x8863
at_most link steps from (PppoeSession id) = ether link 0x8864
at_most link steps from (IpProtoChain n) = omega arith
at_most link steps from (Ip6ProtoChain n) = ether link 0x86dd
at_most link steps from (Len x value) = omega arith
at_most link steps from Inbound = omega arith
at_most link steps from Outbound = omega arith
at_most link steps from (ByteAccess x) = byte_access steps from x
