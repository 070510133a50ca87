-- THEOREM, document 02's A10: on a link without an ethertype a VLAN or a PPPoE session earns 11, with or without a number, so that no offset of its code is ever asked for.
use Prim.Native.Nat.{ℕ, ◌*◌}
use mathlib.Core.Path.{◌≡◌, refl}
use mathlib.Core.List.{List}
use Rattle.std.specs.Prelude.{Option, None}
use Rattle.filter.specs.Ast.{ether_proto_offset}
use Rattle.filter.specs.Record.{decode_at}
use Rattle.filter.specs.declared.ast.LinkType.{LinkType}
use Rattle.filter.specs.declared.ast.Primitive.{Primitive}
use Rattle.filter.specs.declared.ast.Primitive.TheVariants.{Vlan, PppoeSession}
use Rattle.checks.specs.Check.{steps_before}
use Rattle.checks.specs.Refusal.{refusal, ether_refusal, unless_ether}
use Rattle.patches.specs.Machine.Tpl.{refused}
use Rattle.generator.specs.Template.{template_of, template}

module _ (mode : ℕ) (link : LinkType) (steps prims : List ℕ) (k : ℕ) (none : ether_proto_offset link ≡ None) where
  -- A primitive that asks for an ethertype other than IPv4's.
  asks : (p : Primitive) → ((from : ℕ) → refusal link steps from p ≡ 11) → decode_at prims (24 * k) ≡ p → template mode link steps prims k ≡ refused 11
  unfolding template template_of
  asks p earns e = rw (e, earns (steps_before prims k)) refl

  pub vlan_refused : (id : Option ℕ) → decode_at prims (24 * k) ≡ Vlan id → template mode link steps prims k ≡ refused 11
  unfolding refusal ether_refusal unless_ether
  vlan_refused id = asks (Vlan id) (λ from. rw none)

  pub session_refused : (id : Option ℕ) → decode_at prims (24 * k) ≡ PppoeSession id → template mode link steps prims k ≡ refused 11
  unfolding refusal ether_refusal unless_ether
  session_refused id = asks (PppoeSession id) (λ from. rw none)
