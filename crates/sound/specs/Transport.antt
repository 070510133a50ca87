-- What the Rust's `emit_port_prereqs` comes to.
use Rattle.std.specs.Prelude.{ℕ, ◌+◌, ◌≤◌, ◌≡◌, Bool, true, ◌&&◌, ◌||◌, List, length, Option}
use Rattle.std.proofs.Math.Option.{none, some}
use Rattle.filter.specs.declared.ast.Proto.{Proto}
use Rattle.codegen.specs.Primitives.{emit_port_prereqs}
use Rattle.filter.specs.Ast.{net_offset}
use Rattle.filter.specs.declared.ast.LinkType.{LinkType}
use Rattle.meaning.specs.Frame.{there}
use Rattle.meaning.specs.Meaning.{ip, ip6, l4, start4, start6}
use Rattle.sound.specs.Piece.{knows, nothing, falls, Piece}

-- R6 comes to a place of the frame with four bytes behind it, and what is tested there is tested at the transport header that document 01 names.
pub record Header (frame : List ℕ) (start mode : ℕ) (link : LinkType) (proto : Option Proto) : Type 0 where
  pub place : ℕ
  pub found : Bool
  pub comes : Piece frame start falls nothing (knows none (some (start + place))) nothing (emit_port_prereqs mode link proto) found
  pub room : found ≡ true → place + 4 ≤ length frame
  pub exact : (test : ℕ → Bool) → (found && test place)
      ≡ ((ip link frame 1 9 (l4 proto) && (there frame 1 (net_offset link) && (there frame 4 (start4 link frame) && test (start4 link frame))))
      || (ip6 link frame 1 6 (l4 proto) && (there frame 4 (start6 link frame) && test (start6 link frame))))
