-- Ports and port ranges, of the four directions.
use Prim.Native.Nat.{ℕ, ◌+◌, ◌<◌, ◌≤◌}
use mathlib.Core.Path.{◌≡◌, refl}
use mathlib.Core.Bool.{Bool, ◌&&◌}
use mathlib.Core.List.{List}
use mathlib.Core.Option.{Option, none, some}
use native.Mathlib.Omega.{arith}
use lib.Dec.{eqb, leb}
use lib.ListN.{length}
use Rattle.filter.specs.Ast.{bytes_of}
use Rattle.std.specs.Prelude as std
use Rattle.filter.specs.declared.ast.Proto.{Proto}
use Rattle.codegen.specs.Primitives.{check_port, check_ports, check_range, emit_port, emit_portrange}
use Rattle.filter.specs.declared.ast.LinkType.{LinkType}
use Rattle.filter.specs.declared.ast.Dir.{Dir}
use Rattle.filter.specs.declared.ast.Dir.TheVariants.{SrcOrDst, Src, Dst, SrcAndDst}
use Rattle.filter.specs.declared.ast.AccessSize.TheVariants.{Half}
use Rattle.filter.specs.declared.ast.CmpOp.TheVariants.{Eq, Le, Ge}
use Rattle.checks.specs.Refusal.{port_refusal}
use Rattle.meaning.specs.Frame.{number}
use Rattle.meaning.specs.Meaning.{compared, directed, ports_at, ports}
use Rattle.program.specs.Ends.{Frame}
use Rattle.sound.specs.Piece.{knows, nothing, falls, jumps, Piece, Means}
use Rattle.sound.specs.Reads.{Reads}
use Rattle.sound.proofs.Pieces.{both, decides, lands, forgets, forgets_on_failure, forgets_four, by_direction}
use Rattle.sound.proofs.Loads.{loads_at, number_low}
use Rattle.sound.proofs.Compares.{takes_always, reads, reads_equal, fails_unless_equal, fails_below, fails_above, equal_or}
use Rattle.sound.proofs.Transport.{header_comes}

module _ {frame : List ℕ} {start : ℕ} (w : Frame frame start) (mode : ℕ) (link : LinkType) where
  module _ (t : ℕ) (room : t + 4 ≤ length frame) where
    -- One port, with R6 at the transport header.
    port_means : {four : Option ℕ} {test : ℕ → Bool} (off j port : ℕ) → off ≤ 2 → t + off ≡ j → Reads mode Eq port test
        → Piece frame start falls (knows four (some (start + t))) (knows none (some (start + t))) nothing (check_port mode link off port)
        (test (number frame 2 j))
    unfolding check_port bytes_of
    port_means off j port m e r =
        both (loads_at w t Half off j (omega arith) e (omega arith)) (λ q. forgets_on_failure (forgets_four (fails_unless_equal r (number_low w Half j))))

    ports_mean : {test : ℕ → Bool} (port : ℕ) (dir : Dir) → Reads mode Eq port test
        → Piece frame start jumps (knows none (some (start + t))) nothing nothing (check_ports mode link port dir)
        (directed dir (test (number frame 2 t)) (test (number frame 2 (t + 2))))
    unfolding check_ports directed bytes_of
    ports_mean port SrcOrDst r =
        both (loads_at w t Half 0 t (omega arith) (omega arith) (omega arith))
        (λ q. equal_or r (number_low w Half t) (lands (forgets (port_means 2 (t + 2) port (omega arith) refl r))))
    ports_mean port Src r = lands (forgets (port_means 0 t port (omega arith) (omega arith) r))
    ports_mean port Dst r = lands (forgets (port_means 2 (t + 2) port (omega arith) refl r))
    ports_mean port SrcAndDst r =
        lands (forgets (both (port_means 0 t port (omega arith) (omega arith) r) (λ q. port_means 2 (t + 2) port (omega arith) refl r)))

    -- One port between two.
    range_means : (off j lo hi : ℕ) → off ≤ 2 → t + off ≡ j → lo < 65536 → hi < 65536
        → Piece frame start falls (knows none (some (start + t))) (knows none (some (start + t))) (knows none (some (start + t)))
        (check_range mode link off lo hi) (leb lo (number frame 2 j) && leb (number frame 2 j) hi)
    unfolding check_range bytes_of compared
    range_means off j lo hi m e l l' =
        let low = number_low w Half j in
        both (loads_at w t Half off j (omega arith) e (omega arith))
        (λ q. forgets_four (both (fails_below (reads Ge (takes_always mode (omega arith))) low) (λ q. fails_above (reads Le (takes_always mode (omega arith))) low)))

  -- "All four port bytes must be there, even for one port."
  pub port_tests : (port : ℕ) (dir : Dir) (proto : std.Option Proto) → port < 65536 → port_refusal proto ≡ 0
      → Means frame start (emit_port mode link port dir proto) (ports link frame proto dir (eqb port))
  unfolding emit_port ports ports_at
  port_tests port dir proto m e =
      let h = header_comes w mode link proto e in
      decides (both h.comes (λ q. ports_mean h.place (h.room q) port dir (reads_equal (takes_always mode (omega arith)))))
      (h.exact (λ t. directed dir (eqb port (number frame 2 t)) (eqb port (number frame 2 (t + 2)))))

  pub range_tests : (lo hi : ℕ) (dir : Dir) (proto : std.Option Proto) → lo < 65536 → hi < 65536 → port_refusal proto ≡ 0
      → Means frame start (emit_portrange mode link lo hi dir proto) (ports link frame proto dir (λ x. leb lo x && leb x hi))
  unfolding emit_portrange ports ports_at
  range_tests lo hi dir proto l l' e =
      let h = header_comes w mode link proto e in
      let within : ℕ → Bool = λ x. leb lo x && leb x hi in
      decides (both h.comes (λ q. forgets (by_direction dir
      (range_means h.place (h.room q) 0 h.place lo hi (omega arith) (omega arith) l l')
      (range_means h.place (h.room q) 2 (h.place + 2) lo hi (omega arith) refl l l'))))
      (h.exact (λ t. directed dir (within (number frame 2 t)) (within (number frame 2 (t + 2)))))
