-- THEOREM: the program of a checked sheet passes a frame exactly when the sheet's expression holds.
use Prim.Native.Nat.{ℕ, ◌*◌, ◌^◌, ◌<◌}
use mathlib.Core.Bool.{Bool, cond}
use mathlib.Core.List.{List}
use native.Mathlib.Omega.{arith}
use lib.ListN.{length}
use Rattle.ebpf.specs.Run.{run_of}
use Rattle.tree.specs.Tree.{tree_of}
use Rattle.filter.specs.Record.{decode_at}
use Rattle.filter.specs.declared.ast.LinkType.{LinkType}
use Rattle.checks.specs.Check.{steps_before}
use Rattle.checks.specs.Refusal.{refusal_at}
use Rattle.meaning.specs.Evaluate.{primitive_holds, expression_holds}
use Rattle.program.specs.Program.{code_of, Fits}
use Rattle.program.specs.Ends.{Exits, Frame}
use Rattle.program.proofs.Whole.{run_ends}
use Rattle.sound.specs.Piece.{Means}
use Rattle.sound.specs.Trees.{program}
use Rattle.sound.specs.Fine.{Fine}
use Rattle.sound.specs.Sheets.{primitive_code, sheet_code, Allowed, Small, Near}
use Rattle.sound.proofs.Primitives.{primitive_means}
use Rattle.sound.proofs.Decided.{primitive_decides}
use Rattle.sound.proofs.Decoded.{decoded_fine}
use Rattle.sound.proofs.Fitting.{tree_fits, program_fits}
use Rattle.sound.proofs.FittingPrimitives.{primitive_fits}
use Rattle.sound.proofs.Trees.{tree_means, tree_decides, program_ends}

module _ {frame : List ℕ} {start : ℕ} (w : Frame frame start) (mode : ℕ) {link : LinkType} {steps prims tokens : List ℕ} {b : ℕ}
    (s : Allowed link steps prims tokens b) where
  fine : (i : ℕ) → i < b → Fine link steps (steps_before prims i) (decode_at prims (24 * i))
  fine i l = decoded_fine link steps prims i s.step_byte s.prim_byte (s.not_far i l) (s.not_shifted i l)

  -- THEOREM: what the sheet's code means; in plain mode where its constants are small.
  pub sheet_means : Small mode prims b → Means frame start (sheet_code mode link steps prims tokens) (expression_holds link steps prims tokens frame)
  unfolding sheet_code primitive_code expression_holds primitive_holds refusal_at
  sheet_means small =
      tree_means (primitive_code mode link steps prims) (primitive_holds link steps prims frame) (tree_of tokens) 0
      (λ i l l'. let i-in : i < b = omega (arith, s.whole) in
      primitive_means w mode link steps (steps_before prims i) (decode_at prims (24 * i))
      (fine i i-in) (s.not_refused i i-in) (small i i-in))

  -- Each primitive of the sheet decides something.
  pub primitives_decide : (i : ℕ) → i < b → (q : Bool) × Means frame start (primitive_code mode link steps prims i) q
  unfolding primitive_code refusal_at
  primitives_decide i i-in = primitive_decides w mode link steps (steps_before prims i) (decode_at prims (24 * i)) (fine i i-in) (s.not_refused i i-in)

  -- THEOREM: whatever its constants, it decides something.
  pub sheet_decides : (q : Bool) × Means frame start (sheet_code mode link steps prims tokens) q
  unfolding sheet_code primitive_code refusal_at
  sheet_decides =
      tree_decides (primitive_code mode link steps prims) (tree_of tokens) 0
      (λ i l l'. let i-in : i < b = omega (arith, s.whole) in
      primitive_decides w mode link steps (steps_before prims i) (decode_at prims (24 * i))
      (fine i i-in) (s.not_refused i i-in))

  pub sheet_fits : Near mode link steps prims tokens → Fits (program (sheet_code mode link steps prims tokens))
  unfolding sheet_code primitive_code
  sheet_fits n =
      program_fits (tree_fits (primitive_code mode link steps prims) (tree_of tokens) 0
      (λ i l l'. let i-in : i < b = omega (arith, s.whole) in
      primitive_fits mode link steps (steps_before prims i) (decode_at prims (24 * i)) (fine i i-in)) n.inside) n.to_accept n.to_drop

  -- THEOREM, demand 3: on the machine, with a budget of its length, the program exits with 2 exactly when the expression holds, and else with 1.
  module _ (n : Near mode link steps prims tokens) (short : length (program (sheet_code mode link steps prims tokens)) < 2 ^ 32) where
    pub sheet_runs : Small mode prims b
        → Exits (cond (expression_holds link steps prims tokens frame) 2 1) (length (program (sheet_code mode link steps prims tokens)))
        (run_of (code_of (program (sheet_code mode link steps prims tokens))) frame start (length (program (sheet_code mode link steps prims tokens))))
    sheet_runs small = run_ends w (sheet_fits n) short (program_ends w (sheet_means small))

    -- With what the code decides.
    pub sheet_exits_as : {q : Bool} → Means frame start (sheet_code mode link steps prims tokens) q → Exits (cond q 2 1) (length (program (sheet_code mode link steps prims tokens)))
        (run_of (code_of (program (sheet_code mode link steps prims tokens))) frame start (length (program (sheet_code mode link steps prims tokens))))
    sheet_exits_as m = run_ends w (sheet_fits n) short (program_ends w m)

    -- In either mode and with any constants it exits, and with 1 or 2.
    pub sheet_exits : (q : Bool) × Exits (cond q 2 1) (length (program (sheet_code mode link steps prims tokens)))
        (run_of (code_of (program (sheet_code mode link steps prims tokens))) frame start (length (program (sheet_code mode link steps prims tokens))))
    sheet_exits = (sheet_decides.0, run_ends w (sheet_fits n) short (program_ends w sheet_decides.1))
