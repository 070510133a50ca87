-- The load at its place, then the steps and the comparison.
use Rattle.std.proofs.Common.{arith}
use Rattle.pieces.proofs.Laws.{chains, rooms}
use Rattle.codegen.proofs.Laws.{raw_when, net_when}
use Rattle.codegen.proofs.access.emit_byte_access.Goals as goal

pub emit_load-requires : goal.emit_load-requires
emit_load-requires c = grind (arith, chains, rooms, raw_when c.args.code.now.mode c.args.code.now.link c.args.steps.now c.args.from c.args.x _ c.in-Const.is c.in-Raw.is)

pub emit_steps_and_cmp-requires : goal.emit_steps_and_cmp-requires
emit_steps_and_cmp-requires c = grind (arith, chains, rooms, raw_when c.args.code.now.mode c.args.code.now.link c.args.steps.now c.args.from c.args.x _ c.in-Const.is c.in-Raw.is)

pub emit_load_from-requires : goal.emit_load_from-requires
emit_load_from-requires c = grind (arith, chains, rooms, net_when c.args.code.now.mode c.args.code.now.link c.args.steps.now c.args.from c.args.x _ c.in-Const.is c.in-Net.is)

pub emit_steps_and_cmp-requires-in-Net : goal.emit_steps_and_cmp-requires-in-Net
emit_steps_and_cmp-requires-in-Net c = grind (arith, chains, rooms, net_when c.args.code.now.mode c.args.code.now.link c.args.steps.now c.args.from c.args.x _ c.in-Const.is c.in-Net.is)

pub returns-in-Raw : goal.returns-in-Raw
returns-in-Raw c = grind (arith, chains, rooms, raw_when c.args.code.now.mode c.args.code.now.link c.args.steps.now c.args.from c.args.x _ c.in-Const.is c.in-Raw.is)

pub returns-in-Net : goal.returns-in-Net
returns-in-Net c = grind (arith, chains, rooms, net_when c.args.code.now.mode c.args.code.now.link c.args.steps.now c.args.from c.args.x _ c.in-Const.is c.in-Net.is)
