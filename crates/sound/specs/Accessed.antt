-- A byte access with any test in the place of its comparison.
use Rattle.std.specs.Prelude.{ℕ, ◌+◌, List, Bool, ◌&&◌}
use Rattle.filter.specs.Ast.{net_offset, bytes_of}
use Rattle.filter.specs.declared.ast.LinkType.{LinkType}
use Rattle.filter.specs.declared.ast.Layer as layers
use Rattle.filter.specs.declared.ast.Layer.TheVariants as layer
use Rattle.filter.specs.declared.ast.ByteAccess as access
use Rattle.meaning.specs.Frame.{there, passes}
use Rattle.meaning.specs.Meaning.{stepped, start4}

module _ (link : LinkType) (frame steps : List ℕ) (j : ℕ) (x : access.ByteAccess) (test : ℕ → Bool) where
  abbrev pub accessed_at : ℕ → Bool
  accessed_at base = passes frame (bytes_of x.size) (base + x.offset) (λ v. test (stepped steps x.steps j v))

  abbrev pub accessed : layers.Layer → Bool
  accessed layer.Raw = accessed_at 0
  accessed layer.Net = accessed_at (net_offset link)
  accessed layer.Trans = there frame 1 (net_offset link) && accessed_at (start4 link frame)
