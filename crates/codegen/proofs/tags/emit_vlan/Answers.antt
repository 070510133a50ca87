-- The number, where the link has an ethertype.
use Rattle.std.proofs.Common.{arith, sym, ◌∙◌}
use Rattle.pieces.proofs.Laws.{laws}
use Rattle.codegen.proofs.Laws.{vlan_is}
use Rattle.codegen.proofs.tags.emit_vlan.Goals as goal

pub emit_load_from-requires : goal.emit_load_from-requires
emit_load_from-requires c = grind (arith, laws, vlan_is c.args.code.now.mode c.args.code.now.link c.args.id _ _ c.in-Some.is (sym c.ether_proto_offset-off.ensures ∙ c.in-Some-off.is))

pub push-requires : goal.push-requires
push-requires c = grind (arith, laws, vlan_is c.args.code.now.mode c.args.code.now.link c.args.id _ _ c.in-Some.is (sym c.ether_proto_offset-off.ensures ∙ c.in-Some-off.is))

pub push_failure-requires : goal.push_failure-requires
push_failure-requires c = grind (arith, laws, vlan_is c.args.code.now.mode c.args.code.now.link c.args.id _ _ c.in-Some.is (sym c.ether_proto_offset-off.ensures ∙ c.in-Some-off.is))

pub returns-in-Some-off : goal.returns-in-Some-off
returns-in-Some-off c = grind (arith, laws, vlan_is c.args.code.now.mode c.args.code.now.link c.args.id _ _ c.in-Some.is (sym c.ether_proto_offset-off.ensures ∙ c.in-Some-off.is))
