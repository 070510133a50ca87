-- What is left of the halves decides as all of them do.
use Rattle.meaning.specs.Meaning.{halves}
use Rattle.std.proofs.Common.{◌≡◌, ◌-◌}
use Rattle.meaning.proofs.packet.Packet.halves.Given as goal

abbrev pub invariant-loop-i : goal.invariant-loop-i
invariant-loop-i l =
    halves l.fn.self.link l.fn.self.frame.now l.net.addr l.net.prefix_len l.at 8 0
    ≡ halves l.fn.self.link l.fn.self.frame.now l.net.addr l.net.prefix_len l.at (8 - l.i) l.i
