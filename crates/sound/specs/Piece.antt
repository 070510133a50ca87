-- What a piece of code does: it decides a test, and goes on where the test says, knowing what it knows of R4 and R6.
use Rattle.std.specs.Prelude.{ℕ, ◌^◌, ◌<◌, ◌≡◌, Bool, true, false, List, ◌++◌}
use Rattle.std.proofs.Math.Option.{Option, none, some}
use Rattle.ebpf.specs.declared.insn.Insn.{Insn}
use Rattle.patches.specs.Code.{Slot}
use Rattle.program.specs.Ends.{Ends, Cell, holds, between}
use Rattle.sound.specs.Filled.{filled}

-- What is known of R4 and of R6: the number that it holds, or nothing.
pub data Known : Type 0 where
  knows : Option ℕ → Option ℕ → Known

abbrev pub nothing : Known
nothing = knows none none

abbrev pub Is : Option ℕ → Cell → Type 0
Is none c = Unit {0}
Is (some x) c = c ≡ holds x

abbrev pub Knows : Known → Cell → Cell → Type 0
Knows (knows four six) c4 c6 = Is four c4 × Is six c6

-- A piece falls through on success, or jumps there as well.
pub data Way : Type 0 where
  falls jumps : Way

module _ (frame : List ℕ) (start : ℕ) where
  -- From k instructions into the rest the program exits with v, whatever the scratch registers hold beside what is known.
  abbrev pub Goes : Known → ℕ → ℕ → List Insn → Type 0
  Goes known v k rest = (c0 c4 c5 c6 : Cell) → Knows known c4 c6 → Ends frame start v k rest (between frame start c0 c4 c5 c6)

  -- Success: the rest's first instruction, and for a piece that jumps the one a instructions into the rest.
  abbrev pub Succeeds : Way → Known → ℕ → ℕ → List Insn → Type 0
  Succeeds falls known v a rest = Goes known v 0 rest
  Succeeds jumps known v a rest = Goes known v 0 rest × Goes known v a rest

  -- A piece xs decides p: from what is known first it comes to success, where `then` is known, if p holds, and else to failure, where `else` is known.
  pub record Piece (way : Way) (first then else : Known) (xs : List Slot) (p : Bool) : Type 0 where
    pub runs : (v a b : ℕ) (rest : List Insn) → (p ≡ true → Succeeds way then v a rest) → (p ≡ false → Goes else v b rest)
        → Goes first v 0 (filled a b xs ++ rest)

  -- With nothing known before and after: the piece falls through when p holds.
  abbrev pub Tests : List Slot → Bool → Type 0
  Tests xs p = Piece falls nothing nothing nothing xs p

  -- The same, and success may jump.
  abbrev pub Means : List Slot → Bool → Type 0
  Means xs p = Piece jumps nothing nothing nothing xs p

  -- A piece that makes `work x` of R4's number x, both of 32 bits.
  pub record Changes (xs : List Slot) (work : ℕ → ℕ) : Type 0 where
    pub makes : (x : ℕ) → x < 2 ^ 32 → Piece falls (knows (some x) none) (knows (some (work x)) none) nothing xs true
    pub stays_low : (x : ℕ) → x < 2 ^ 32 → work x < 2 ^ 32
