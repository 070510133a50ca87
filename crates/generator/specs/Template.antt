-- What a primitive of a sheet comes to: its code, or the refusal that it earns.
use Rattle.std.specs.Prelude.{ℕ, ◌*◌, List, cond, eqb}
use Rattle.filter.specs.Record.{decode_at}
use Rattle.filter.specs.declared.ast.LinkType.{LinkType}
use Rattle.filter.specs.declared.ast.Primitive.{Primitive}
use Rattle.checks.specs.Check.{steps_before}
use Rattle.checks.specs.Refusal.{refusal}
use Rattle.codegen.specs.Primitives.{emit_primitive}
use Rattle.patches.specs.Machine.{Tpl}
use Rattle.patches.specs.Machine.Tpl.{code, refused}

-- A primitive whose steps start at step `from`.
unfoldable pub template_of : ℕ → LinkType → List ℕ → ℕ → Primitive → Tpl
template_of mode link steps from prim =
    cond (eqb (refusal link steps from prim) 0) (code (emit_primitive mode link steps from prim)) (refused (refusal link steps from prim))

-- Primitive k of the section, with the steps that it takes.
unfoldable pub template : ℕ → LinkType → List ℕ → List ℕ → ℕ → Tpl
template mode link steps prims k = template_of mode link steps (steps_before prims k) (decode_at prims (24 * k))
