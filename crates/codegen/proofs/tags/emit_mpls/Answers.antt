-- One of two ethertypes, then the label if one is asked.
use Rattle.std.proofs.Common.{arith, sym, ◌∙◌}
use Rattle.pieces.proofs.Laws.{laws}
use Rattle.codegen.proofs.Laws.{mpls_room, mpls_is, mpls_any}
use Rattle.codegen.proofs.tags.emit_mpls.Goals as goal

pub push_jump-requires : goal.push_jump-requires
push_jump-requires c = grind (arith, laws, mpls_room c.args.code.now.mode c.args.code.now.link _ c.args.label (sym c.ether_proto_offset.ensures ∙ c.in-Some.is))

pub push_failure-requires : goal.push_failure-requires
push_failure-requires c = grind (arith, laws, mpls_room c.args.code.now.mode c.args.code.now.link _ c.args.label (sym c.ether_proto_offset.ensures ∙ c.in-Some.is))

pub emit_load_from-requires : goal.emit_load_from-requires
emit_load_from-requires c = grind (arith, laws, mpls_is c.args.code.now.mode c.args.code.now.link c.args.label _ _ c.in-Some-label.is (sym c.ether_proto_offset.ensures ∙ c.in-Some.is))

pub push-requires : goal.push-requires
push-requires c = grind (arith, laws, mpls_is c.args.code.now.mode c.args.code.now.link c.args.label _ _ c.in-Some-label.is (sym c.ether_proto_offset.ensures ∙ c.in-Some.is))

pub push_failure-requires-in-Some-label : goal.push_failure-requires-in-Some-label
push_failure-requires-in-Some-label c = grind (arith, laws, mpls_is c.args.code.now.mode c.args.code.now.link c.args.label _ _ c.in-Some-label.is (sym c.ether_proto_offset.ensures ∙ c.in-Some.is))

pub returns-in-Some-label : goal.returns-in-Some-label
returns-in-Some-label c = grind (arith, laws, mpls_is c.args.code.now.mode c.args.code.now.link c.args.label _ _ c.in-Some-label.is (sym c.ether_proto_offset.ensures ∙ c.in-Some.is))

pub returns-in_default-label : goal.returns-in_default-label
returns-in_default-label c = grind (arith, laws, mpls_any c.args.code.now.mode c.args.code.now.link _ (sym c.ether_proto_offset.ensures ∙ c.in-Some.is))
