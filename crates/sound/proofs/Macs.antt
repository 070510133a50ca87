-- MAC addresses: four bytes and two against the number of six.
use Prim.Native.Nat.{ℕ, ◌+◌, ◌*◌, ◌/◌, ◌%◌, ◌^◌, ◌<◌}
use mathlib.Core.Path.{◌≡◌, refl, sym}
use mathlib.Core.Bool.{Bool, true, false, ◌&&◌}
use mathlib.Core.List.{List}
use native.Mathlib.Omega.{arith}
use native.Mathlib.Nat.{add-zero, add_assoc}
use borrow.Author.Tests.{leb-true, leb-false, le-leb, lt-leb, eqb-true, eqb-false, eq-eqb, ne_eqb}
use lib.Dec.{eqb, leb, ltb}
use lib.ListN.{length}
use Rattle.filter.specs.Ast.{bytes_of}
use Rattle.codegen.specs.Primitives.{mirrored, check_mac, emit_ether_host}
use Rattle.filter.specs.declared.ast.LinkType.{LinkType}
use Rattle.filter.specs.declared.ast.Dir.{Dir}
use Rattle.filter.specs.declared.ast.Dir.TheVariants.{SrcOrDst, Src, Dst, SrcAndDst}
use Rattle.filter.specs.declared.ast.AccessSize.TheVariants.{Half, Word}
use Rattle.filter.specs.declared.ast.CmpOp.TheVariants.{Eq}
use Rattle.meaning.specs.Frame.{there, number, passes}
use Rattle.meaning.specs.Meaning.{directed, ether_host}
use Rattle.program.specs.Ends.{Frame}
use Rattle.sound.specs.Piece.{Tests, Means}
use Rattle.sound.specs.Reads.{Reads}
use Rattle.sound.proofs.Bools.{and_false}
use Rattle.sound.proofs.Pieces.{both, decides, by_direction}
use Rattle.sound.proofs.Loads.{number2_low}
use Rattle.sound.proofs.Compares.{takes_small, takes_always, reads_equal}
use Rattle.sound.proofs.Fields.{checks}

-- A direction seen from the other end.
mirrored_directed : (dir : Dir) (p q : Bool) → directed (mirrored dir) p q ≡ directed dir q p
unfolding mirrored directed
mirrored_directed SrcOrDst true true = refl
mirrored_directed SrcOrDst true false = refl
mirrored_directed SrcOrDst false true = refl
mirrored_directed SrcOrDst false false = refl
mirrored_directed Src p q = refl
mirrored_directed Dst p q = refl
mirrored_directed SrcAndDst true true = refl
mirrored_directed SrcAndDst true false = refl
mirrored_directed SrcAndDst false true = refl
mirrored_directed SrcAndDst false false = refl

-- A number is equal to another where its upper part and its lower sixteen bits are.
equal_parts : (n high low : ℕ) → low < 65536 → (eqb (n / 65536) high && eqb (n % 65536) low) ≡ eqb n (high * 65536 + low)
equal_parts n high low l = go (eqb (n / 65536) high) (eqb (n % 65536) low) refl refl
  where
    go : (p q : Bool) → eqb (n / 65536) high ≡ p → eqb (n % 65536) low ≡ q → (p && q) ≡ eqb n (high * 65536 + low)
    go true true e f = sym (eq-eqb n (high * 65536 + low) (omega (arith, eqb-true (n / 65536) high e, eqb-true (n % 65536) low f)))
    go true false e f = sym (ne_eqb n (high * 65536 + low) (λ h. eqb-false (n % 65536) low f (omega arith)))
    go false q e f = sym (ne_eqb n (high * 65536 + low) (λ h. eqb-false (n / 65536) high e (omega arith)))

six_bytes : (frame : List ℕ) (off : ℕ) → number frame 6 off ≡ number frame 4 off * 65536 + number frame 2 (off + 4)
unfolding number
six_bytes frame off = rw (add-zero (off + 4), add_assoc off 4 1) (omega arith)

-- The first four bytes of a number of six.
first_four : (addr : ℕ) → addr < 2 ^ 48 → addr / 65536 % 2 ^ 32 ≡ addr / 65536
first_four addr l = omega arith

pub first_four_read : (mode addr : ℕ) → addr < 2 ^ 48 → (mode ≡ 0 → ltb (addr / 65536) (2 ^ 31) ≡ true)
    → Reads mode Eq (addr / 65536 % 2 ^ 32) (eqb (addr / 65536))
first_four_read mode addr l s = rw (first_four addr l) (reads_equal (takes_small mode (addr / 65536) s))

module _ {frame : List ℕ} {start : ℕ} (w : Frame frame start) where
  -- Four bytes and the two after them are the six.
  six_pass : (off addr : ℕ)
      → (passes frame 4 off (eqb (addr / 65536)) && passes frame 2 (off + 4) (eqb (addr % 65536))) ≡ passes frame 6 off (eqb addr)
  unfolding passes there
  six_pass off addr = go (leb (off + 6) (length frame)) refl
    where
      go : (t : Bool) → leb (off + 6) (length frame) ≡ t
          → ((leb (off + 4) (length frame) && eqb (addr / 65536) (number frame 4 off))
          && (leb (off + 4 + 2) (length frame) && eqb (addr % 65536) (number frame 2 (off + 4)))) ≡ (t && eqb addr (number frame 6 off))
      go true e =
          let l = leb-true (off + 6) (length frame) e in
          rw (le-leb (off + 4) (length frame) (omega arith), le-leb (off + 4 + 2) (length frame) (omega arith), six_bytes frame off)
          (equal_parts addr (number frame 4 off) (number frame 2 (off + 4)) (number2_low w (off + 4)))
      go false e =
          let l = leb-false (off + 6) (length frame) e in
          rw (lt-leb (off + 4 + 2) (length frame) (omega arith)) (and_false (leb (off + 4) (length frame) && eqb (addr / 65536) (number frame 4 off)))

  module _ {mode : ℕ} {test : ℕ → Bool} (link : LinkType) (addr : ℕ) (r : Reads mode Eq (addr / 65536 % 2 ^ 32) test) where
    mac_means : (off : ℕ) → off < 2 ^ 14
        → Tests frame start (check_mac mode link off addr) (passes frame 4 off test && passes frame 2 (off + 4) (eqb (addr % 65536)))
    unfolding check_mac bytes_of
    mac_means off m = both (checks w Word off r (omega arith)) (λ t. checks w Half (off + 4) (reads_equal (takes_always mode (omega arith))) (omega arith))

    -- "MAC: destination 0, source 6".
    pub ether_host_means : (dir : Dir) → Means frame start (emit_ether_host mode link addr dir)
        (directed dir (passes frame 4 6 test && passes frame 2 10 (eqb (addr % 65536))) (passes frame 4 0 test && passes frame 2 4 (eqb (addr % 65536))))
    unfolding emit_ether_host
    ether_host_means dir =
        decides (by_direction (mirrored dir) (mac_means 0 (omega arith)) (mac_means 6 (omega arith))) (mirrored_directed dir _ _)

  pub ether_host_exact : (link : LinkType) (dir : Dir) (addr : ℕ)
      → directed dir (passes frame 4 6 (eqb (addr / 65536)) && passes frame 2 10 (eqb (addr % 65536)))
      (passes frame 4 0 (eqb (addr / 65536)) && passes frame 2 4 (eqb (addr % 65536))) ≡ ether_host link frame addr dir
  unfolding ether_host
  ether_host_exact link dir addr = rw (six_pass 6 addr, six_pass 0 addr)
