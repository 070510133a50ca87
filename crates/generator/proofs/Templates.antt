-- A primitive that is not refused comes to its code, any other to its refusal.
use Prim.Native.Nat.{ℕ, ◌^◌, ◌<◌}
use mathlib.Core.Path.{◌≡◌, ap, subst}
use mathlib.Core.List.{List}
use native.Mathlib.Omega.{arith}
use borrow.Author.Tests.{ne_eqb}
use lib.ListN.{length}
use Rattle.filter.specs.declared.ast.LinkType.{LinkType}
use Rattle.filter.specs.declared.ast.Primitive.{Primitive}
use Rattle.checks.specs.Refusal.{refusal}
use Rattle.pieces.specs.Fragments.{Fits}
use Rattle.codegen.specs.Primitives.{emit_primitive}
use Rattle.patches.specs.declared.Patches.{Patches}
use Rattle.patches.specs.Machine.{size_of}
use Rattle.patches.specs.Machine.Tpl.{code, refused}
use Rattle.patches.specs.Rel.{SomeLeaf}
use Rattle.generator.specs.Template.{template_of}

module _ (mode : ℕ) (link : LinkType) (steps : List ℕ) (from : ℕ) (prim : Primitive) where
  pub coded : refusal link steps from prim ≡ 0 → template_of mode link steps from prim ≡ code (emit_primitive mode link steps from prim)
  unfolding template_of
  coded e = rw e

  pub denied : (refusal link steps from prim ≡ 0 → ⊥) → template_of mode link steps from prim ≡ refused (refusal link steps from prim)
  unfolding template_of
  denied e = rw (ne_eqb _ _ e)

  -- The room that a primitive has is room for its code.
  pub leaf_size : {l n : ℕ} {work : List ℕ} {st : Patches} → refusal link steps from prim ≡ 0
      → SomeLeaf l work n st (size_of (template_of mode link steps from prim)) → SomeLeaf l work n st (length (emit_primitive mode link steps from prim))
  leaf_size {l} {n} {work} {st} e s = subst (λ (k : ℕ). SomeLeaf l work n st k) (ap size_of (coded e)) s

  pub leaf_fits : {l n : ℕ} {work : List ℕ} {st : Patches} → l < 2 ^ 32 → refusal link steps from prim ≡ 0
      → SomeLeaf l work n st (size_of (template_of mode link steps from prim)) → Fits (emit_primitive mode link steps from prim) st
  leaf_fits h e s = record { room = omega (arith, (leaf_size e s).budget) }
