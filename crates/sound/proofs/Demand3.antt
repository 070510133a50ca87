-- THEOREM, demand 3, from the sheet's bytes: what the program that `compile` makes does on the machine.
use Prim.Native.Nat.{ℕ, ◌*◌, ◌<◌}
use mathlib.Core.Path.{◌≡◌, refl}
use mathlib.Core.Bool.{Bool, false, cond}
use mathlib.Core.List.{List}
use lib.Dec.{ltb}
use lib.ListN.{length, get_or, take}
use Rattle.ebpf.specs.Run.{run_of, first_state}
use Rattle.filter.specs.Ast.{link_of}
use Rattle.filter.specs.Sheet.{counts, step_count, prim_count, token_count, steps_part, prims_part, tokens_part}
use Rattle.checks.specs.Check.{check_of}
use Rattle.checks.specs.Length.{program_length}
use Rattle.refusals.specs.Refusal.Answer.{Given}
use Rattle.meaning.specs.Evaluate.{expression_holds, first_refused}
use Rattle.program.specs.Program.{code_of}
use Rattle.program.specs.Ends.{Exits, Frame}
use Rattle.generator.specs.Compile.{outcome_of, answer_of, output_after}
use Rattle.sound.specs.Demand.{Bytes, sheet_holds, SmallSheet}
use Rattle.sound.specs.Memory.{asks_of, AllInside}
use Rattle.sound.specs.Trees.{program}
use Rattle.sound.specs.Sheets.{sheet_code, Small, Near}
use Rattle.sound.proofs.Accepted.{accepted}
use Rattle.sound.proofs.Checked.{sheet_allowed, sheet_short, tokens_few}
use Rattle.sound.proofs.ProgramLength.{sheet_length}
use Rattle.sound.proofs.Sheets.{sheet_runs, sheet_exits}
use Rattle.sound.proofs.Memory.{exits_inside}

-- A sheet s of bytes with a steps, b primitives and c tokens, past refusals 1 to 6; no primitive earns 11 to 19, no jump 10.
module _ {frame : List ℕ} {start : ℕ} (w : Frame frame start) (mode link : ℕ) (s : List ℕ) (a b c : ℕ) (byte : (p : ℕ) → get_or s p 0 < 256)
    (good : check_of s link ≡ Given (counts a b c)) (allowed : ltb (first_refused (link_of link) (steps_part s a) (prims_part s a b) b) b ≡ false)
    (near : Near mode (link_of link) (steps_part s a) (prims_part s a b) (tokens_part s a b c)) where
  -- The program has L instructions.
  pub compiled_length : length (program (sheet_code mode (link_of link) (steps_part s a) (prims_part s a b) (tokens_part s a b c)))
      ≡ program_length (link_of link) (steps_part s a) (prims_part s a b) (tokens_part s a b c) b c
  compiled_length = sheet_length mode c (sheet_allowed s link a b c byte good allowed) (tokens_few s a b c)

  -- "passes the frame exactly when the expression holds": R0 is 2, and else 1, after at most L steps; in plain mode where all constants are below 2^31.
  pub compiled_runs : Small mode (prims_part s a b) b
      → Exits (cond (expression_holds (link_of link) (steps_part s a) (prims_part s a b) (tokens_part s a b c) frame) 2 1)
      (program_length (link_of link) (steps_part s a) (prims_part s a b) (tokens_part s a b c) b c)
      (run_of (code_of (program (sheet_code mode (link_of link) (steps_part s a) (prims_part s a b) (tokens_part s a b c)))) frame start
      (program_length (link_of link) (steps_part s a) (prims_part s a b) (tokens_part s a b c) b c))
  compiled_runs small = rw (← compiled_length) (sheet_runs w mode (sheet_allowed s link a b c byte good allowed) near (rw compiled_length (sheet_short s link a b c byte good)) small)

  -- In either mode and with any constants it exits with 1 or 2, after at most L steps.
  pub compiled_exits : (q : Bool) × Exits (cond q 2 1) (program_length (link_of link) (steps_part s a) (prims_part s a b) (tokens_part s a b c) b c)
      (run_of (code_of (program (sheet_code mode (link_of link) (steps_part s a) (prims_part s a b) (tokens_part s a b c)))) frame start
      (program_length (link_of link) (steps_part s a) (prims_part s a b) (tokens_part s a b c) b c))
  compiled_exits = rw (← compiled_length) (sheet_exits w mode (sheet_allowed s link a b c byte good allowed) near (rw compiled_length (sheet_short s link a b c byte good)))

-- The same program and the same budget, written otherwise.
same_run : (frame : List ℕ) (start : ℕ) {v : ℕ} (p q : List ℕ) (l m : ℕ) → p ≡ q → l ≡ m → Exits v m (run_of q frame start m) → Exits v l (run_of p frame start l)
same_run frame start p q l m e f h = rw (e, f) h

-- The expression by the counts that the check gave.
same_counts : (s : List ℕ) (link a b c : ℕ) (frame : List ℕ) → (step_count s ≡ a) × (prim_count s ≡ b) × (token_count s ≡ c)
    → sheet_holds s link frame ≡ expression_holds (link_of link) (steps_part s a) (prims_part s a b) (tokens_part s a b c) frame
unfolding sheet_holds
same_counts s link a b c frame (e, f, g) = rw (e, f, g) refl

same_small : (mode : ℕ) (s : List ℕ) (a b : ℕ) → step_count s ≡ a → prim_count s ≡ b → (mode ≡ 0 → SmallSheet s) → Small mode (prims_part s a b) b
same_small mode s a b e f small i h m = rw (← e, ← f) (small m i (rw f h))

-- THEOREM, demand 3, of `compile`: whatever the sheet, the link, the mode, the lent places, the frame and its start, an accepted program,
-- run on the first 8 x L bytes of the output with budget L, stops 0 after at most L steps, and R0 is 2 exactly when the expression holds, else 1.
module _ (s : List ℕ) (link mode work l : ℕ) (out : List ℕ) (byte : Bytes s) (compiles : answer_of (outcome_of s link mode (length out) work) ≡ Given l)
    {frame : List ℕ} {start : ℕ} (w : Frame frame start) where
  -- In mended mode; in plain mode where every comparison constant is below 2^31.
  pub passes_exactly : (mode ≡ 0 → SmallSheet s)
      → Exits (cond (sheet_holds s link frame) 2 1) l (run_of (take (8 * l) (output_after (outcome_of s link mode (length out) work) out)) frame start l)
  passes_exactly small =
      let v = accepted s link mode work l out byte compiles in
      let n = v.counts in
      rw (same_counts s link v.a v.b v.c frame n)
      (same_run frame start _ _ l _ v.written v.length_is
      (compiled_runs w mode link s v.a v.b v.c byte v.checked v.allowed v.near (same_small mode s v.a v.b n.0 n.1 small)))

  -- In either mode and with any constants: it exits with 1 or 2.
  pub always_exits : (q : Bool) × Exits (cond q 2 1) l (run_of (take (8 * l) (output_after (outcome_of s link mode (length out) work) out)) frame start l)
  always_exits =
      let v = accepted s link mode work l out byte compiles in
      let x = compiled_exits w mode link s v.a v.b v.c byte v.checked v.allowed v.near in
      (x.0, same_run frame start _ _ l _ v.written v.length_is x.1)

  -- "reads nothing outside the frame but its two context words": in however many steps, in either mode and with any constants.
  pub reads_nothing_outside : (k : ℕ) → AllInside frame start (asks_of k (take (8 * l) (output_after (outcome_of s link mode (length out) work) out)) frame start first_state)
  reads_nothing_outside = exits_inside frame start (take (8 * l) (output_after (outcome_of s link mode (length out) work) out)) l always_exits.1.exits
