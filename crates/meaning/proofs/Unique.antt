-- Any two answers that a public function's contract allows are equal: the result, and the last value of everything lent.
use Rattle.std.proofs.Common.{sym, refl, ◌∙◌}
use Rattle.unique.proofs.Unique.{Unique, by_result, unique, plain}
use Rattle.refusals.proofs.Numbers.{one_told}
use Rattle.meaning.specs.contracts as crate

pub arith : Unique crate.access.arith.ended (λ M 𝓤 𝓛. crate.access.arith.clauses 𝓛)
arith = by_result _ (λ κs a ws ws'. refl)

pub stepped : Unique crate.access.stepped.ended (λ M 𝓤 𝓛. crate.access.stepped.clauses 𝓛)
stepped = by_result _ (λ κs a ws ws'. refl)

pub compared : Unique crate.access.compared.ended (λ M 𝓤 𝓛. crate.access.compared.clauses 𝓛)
compared = by_result _ (λ κs a ws ws'. refl)

pub byte_access : Unique crate.packet.Packet.byte_access.ended (λ M 𝓤 𝓛. crate.packet.Packet.byte_access.clauses 𝓛)
byte_access = by_result _ (λ κs a ws ws'. refl)

pub ethertype : Unique crate.packet.Packet.ethertype.ended (λ M 𝓤 𝓛. crate.packet.Packet.ethertype.clauses 𝓛)
ethertype = by_result _ (λ κs a ws ws'. refl)

pub ether_host : Unique crate.packet.Packet.ether_host.ended (λ M 𝓤 𝓛. crate.packet.Packet.ether_host.clauses 𝓛)
ether_host = by_result _ (λ κs a ws ws'. refl)

pub vlan : Unique crate.packet.Packet.vlan.ended (λ M 𝓤 𝓛. crate.packet.Packet.vlan.clauses 𝓛)
vlan = by_result _ (λ κs a ws ws'. refl)

pub mpls : Unique crate.packet.Packet.mpls.ended (λ M 𝓤 𝓛. crate.packet.Packet.mpls.clauses 𝓛)
mpls = by_result _ (λ κs a ws ws'. refl)

pub pppoe : Unique crate.packet.Packet.pppoe.ended (λ M 𝓤 𝓛. crate.packet.Packet.pppoe.clauses 𝓛)
pppoe = by_result _ (λ κs a ws ws'. refl)

pub evaluate : Unique crate.evaluate.evaluate.ended (λ M 𝓤 𝓛. crate.evaluate.evaluate.clauses 𝓛)
evaluate = unique (plain _) (λ κs a r r' ws ws' p q. (one_told r r' (p ∙ sym q), refl))

pub has : Unique crate.frame.has.ended (λ M 𝓤 𝓛. crate.frame.has.clauses 𝓛)
has = by_result _ (λ κs a ws ws'. refl)

pub byte_at : Unique crate.frame.byte_at.ended (λ M 𝓤 𝓛. crate.frame.byte_at.clauses 𝓛)
byte_at = by_result _ (λ κs a ws ws'. refl)

pub half_at : Unique crate.frame.half_at.ended (λ M 𝓤 𝓛. crate.frame.half_at.clauses 𝓛)
half_at = by_result _ (λ κs a ws ws'. refl)

pub word_at : Unique crate.frame.word_at.ended (λ M 𝓤 𝓛. crate.frame.word_at.clauses 𝓛)
word_at = by_result _ (λ κs a ws ws'. refl)

pub mac_at : Unique crate.frame.mac_at.ended (λ M 𝓤 𝓛. crate.frame.mac_at.clauses 𝓛)
mac_at = by_result _ (λ κs a ws ws'. refl)

pub byte_is : Unique crate.frame.byte_is.ended (λ M 𝓤 𝓛. crate.frame.byte_is.clauses 𝓛)
byte_is = by_result _ (λ κs a ws ws'. refl)

pub half_is : Unique crate.frame.half_is.ended (λ M 𝓤 𝓛. crate.frame.half_is.clauses 𝓛)
half_is = by_result _ (λ κs a ws ws'. refl)

pub word_is : Unique crate.frame.word_is.ended (λ M 𝓤 𝓛. crate.frame.word_is.clauses 𝓛)
word_is = by_result _ (λ κs a ws ws'. refl)

pub mac_is : Unique crate.frame.mac_is.ended (λ M 𝓤 𝓛. crate.frame.mac_is.clauses 𝓛)
mac_is = by_result _ (λ κs a ws ws'. refl)

pub half_under : Unique crate.frame.half_under.ended (λ M 𝓤 𝓛. crate.frame.half_under.clauses 𝓛)
half_under = by_result _ (λ κs a ws ws'. refl)

pub word_under : Unique crate.frame.word_under.ended (λ M 𝓤 𝓛. crate.frame.word_under.clauses 𝓛)
word_under = by_result _ (λ κs a ws ws'. refl)

pub ip_byte : Unique crate.packet.Packet.ip_byte.ended (λ M 𝓤 𝓛. crate.packet.Packet.ip_byte.clauses 𝓛)
ip_byte = by_result _ (λ κs a ws ws'. refl)

pub ip6_byte : Unique crate.packet.Packet.ip6_byte.ended (λ M 𝓤 𝓛. crate.packet.Packet.ip6_byte.clauses 𝓛)
ip6_byte = by_result _ (λ κs a ws ws'. refl)

pub ip_word : Unique crate.packet.Packet.ip_word.ended (λ M 𝓤 𝓛. crate.packet.Packet.ip_word.clauses 𝓛)
ip_word = by_result _ (λ κs a ws ws'. refl)

pub ip_class : Unique crate.packet.Packet.ip_class.ended (λ M 𝓤 𝓛. crate.packet.Packet.ip_class.clauses 𝓛)
ip_class = by_result _ (λ κs a ws ws'. refl)

pub ip4_proto : Unique crate.packet.Packet.ip4_proto.ended (λ M 𝓤 𝓛. crate.packet.Packet.ip4_proto.clauses 𝓛)
ip4_proto = by_result _ (λ κs a ws ws'. refl)

pub ip6_proto : Unique crate.packet.Packet.ip6_proto.ended (λ M 𝓤 𝓛. crate.packet.Packet.ip6_proto.clauses 𝓛)
ip6_proto = by_result _ (λ κs a ws ws'. refl)

pub dual_proto : Unique crate.packet.Packet.dual_proto.ended (λ M 𝓤 𝓛. crate.packet.Packet.dual_proto.clauses 𝓛)
dual_proto = by_result _ (λ κs a ws ws'. refl)

pub protocol : Unique crate.packet.Packet.protocol.ended (λ M 𝓤 𝓛. crate.packet.Packet.protocol.clauses 𝓛)
protocol = by_result _ (λ κs a ws ws'. refl)

pub host4 : Unique crate.packet.Packet.host4.ended (λ M 𝓤 𝓛. crate.packet.Packet.host4.clauses 𝓛)
host4 = by_result _ (λ κs a ws ws'. refl)

pub address4 : Unique crate.packet.Packet.address4.ended (λ M 𝓤 𝓛. crate.packet.Packet.address4.clauses 𝓛)
address4 = by_result _ (λ κs a ws ws'. refl)

pub net4 : Unique crate.packet.Packet.net4.ended (λ M 𝓤 𝓛. crate.packet.Packet.net4.clauses 𝓛)
net4 = by_result _ (λ κs a ws ws'. refl)

pub halves : Unique crate.packet.Packet.halves.ended (λ M 𝓤 𝓛. crate.packet.Packet.halves.clauses 𝓛)
halves = by_result _ (λ κs a ws ws'. refl)

pub net6 : Unique crate.packet.Packet.net6.ended (λ M 𝓤 𝓛. crate.packet.Packet.net6.clauses 𝓛)
net6 = by_result _ (λ κs a ws ws'. refl)

pub start4 : Unique crate.packet.Packet.start4.ended (λ M 𝓤 𝓛. crate.packet.Packet.start4.clauses 𝓛)
start4 = unique (plain _) (λ κs a r r' ws ws' p q. (p.0 ∙ sym q.0, refl))

pub ports : Unique crate.packet.Packet.ports.ended (λ M 𝓤 𝓛. crate.packet.Packet.ports.clauses 𝓛)
ports = by_result _ (λ κs a ws ws'. refl)

pub means : Unique crate.packet.Packet.means.ended (λ M 𝓤 𝓛. crate.packet.Packet.means.clauses 𝓛)
means = by_result _ (λ κs a ws ws'. refl)

pub directed : Unique crate.side.directed.ended (λ M 𝓤 𝓛. crate.side.directed.clauses 𝓛)
directed = by_result _ (λ κs a ws ws'. refl)
