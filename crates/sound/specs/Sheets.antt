-- The code of a checked sheet: its tree over its primitives.
use Rattle.std.specs.Prelude.{ℕ, ◌*◌, ◌<◌, ◌≡◌, true, false, List, get_or}
use Rattle.tree.specs.Tree.{leaves, flat, tree_of}
use Rattle.patches.specs.Code.{Slot}
use Rattle.filter.specs.Record.{decode_at}
use Rattle.filter.specs.declared.ast.LinkType.{LinkType}
use Rattle.checks.specs.Check.{steps_before, far_offset, shift_at}
use Rattle.checks.specs.Refusal.{refusal_at}
use Rattle.meaning.specs.Constants.{small_constants}
use Rattle.codegen.specs.Primitives.{emit_primitive}
use Rattle.sound.specs.Trees.{tree_code}
use Rattle.sound.specs.Fitting.{SuccessNear, FailureNear, TreeNear}

-- Primitive i of the section, with the steps that it takes.
unfoldable pub primitive_code : ℕ → LinkType → List ℕ → List ℕ → ℕ → List Slot
primitive_code mode link steps prims i = emit_primitive mode link steps (steps_before prims i) (decode_at prims (24 * i))

unfoldable pub sheet_code : ℕ → LinkType → List ℕ → List ℕ → List ℕ → List Slot
sheet_code mode link steps prims tokens = tree_code (primitive_code mode link steps prims) (tree_of tokens) 0

-- What is left of a sheet of b primitives after refusals 3 to 6 and 11 to 19.
pub record Allowed (link : LinkType) (steps prims tokens : List ℕ) (b : ℕ) : Type 0 where
  pub step_byte : (p : ℕ) → get_or steps p 0 < 256
  pub prim_byte : (p : ℕ) → get_or prims p 0 < 256
  pub one_tree : flat (tree_of tokens) ≡ tokens
  pub whole : leaves (tree_of tokens) ≡ b
  pub not_far : (i : ℕ) → i < b → far_offset link prims i ≡ false
  pub not_shifted : (i : ℕ) → i < b → shift_at steps prims i ≡ false
  pub not_refused : (i : ℕ) → i < b → refusal_at link steps prims i ≡ 0

-- Plain mode's promise is for sheets whose comparison constants are all below 2^31.
abbrev pub Small : ℕ → List ℕ → ℕ → Type 0
Small mode prims b = (i : ℕ) → i < b → mode ≡ 0 → small_constants (decode_at prims (24 * i)) ≡ true

-- Refusal 10 meets none of the `resolve_all`, neither in `emit_expr` nor at the end of `compile`.
pub record Near (mode : ℕ) (link : LinkType) (steps prims tokens : List ℕ) : Type 0 where
  pub inside : TreeNear (primitive_code mode link steps prims) (tree_of tokens) 0
  pub to_accept : SuccessNear 0 (sheet_code mode link steps prims tokens)
  pub to_drop : FailureNear 2 (sheet_code mode link steps prims tokens)
