-- `Insn::store` puts the eight bytes where there is room.
use Rattle.ebpf.proofs.Coding.{store_room}
use Rattle.std.proofs.Common.{◌≡◌, ◌+◌, ◌∙◌, arith}
use Rattle.ebpf.proofs.insn.Insn.store.Goals as goal

pub returns : goal.returns
returns c =
    let q : c.in-Some.end ≡ c.args.at + 8 = c.in-Some.ensures.1 in
    store_room _ _ _ _ _ (omega arith) (omega arith) (c.copy_from_slice.ensures.after ∙ c.to_le_bytes.ensures)
