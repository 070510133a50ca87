-- Every primitive that is read from a sheet of bytes, and that refusals 5 and 6 do not meet, is fine.
use Prim.Native.Nat.{ℕ, ◌+◌, ◌*◌, ◌^◌, ◌<◌}
use mathlib.Core.Path.{◌≡◌, refl}
use mathlib.Core.Bool.{Bool, true, false, cond}
use mathlib.Core.List.{List}
use native.Mathlib.Omega.{arith}
use lib.Dec.{eqb}
use lib.ListN.{get_or}
use Rattle.filter.specs.Bytes.{be2, be4, be6, be8}
use Rattle.filter.specs.Ast.{proto_of}
use Rattle.filter.specs.Record.{ipv6_at, ip_net_at, ipv6_net_at, id_at, label_at, rhs_at, access_at, decode_at}
use Rattle.filter.specs.Record.{host_at, host6_at, port_at, range_at, net_at, net6_at, ether_host_at, mpls_at, session_at, len_at}
use Rattle.filter.specs.declared.ast.LinkType.{LinkType}
use Rattle.filter.specs.declared.ast.Primitive.TheVariants.{ByteAccess}
use Rattle.checks.specs.Check.{takes, steps_before, far_offset, shift_at}
use Rattle.sound.specs.Fine.{FineProto, FineId, FineLabel, FineRhs, Fine}

-- x satisfies P.
pub record Such {A : Type 0} (P : A → Type 0) (x : A) : Type 0 where
  pub it : P x

pub such : {A : Type 0} {P : A → Type 0} {x : A} → P x → Such P x
such p = record { it = p }

-- What both cases satisfy, the first where the test holds.
pub pick : {A : Type 0} {P : A → Type 0} (t : Bool) {x y : A} → (t ≡ true → Such P x) → Such P y → Such P (cond t x y)
pick true f g = f refl
pick false f g = g

fine_proto : (p q : ℕ) → q < 256 → Such FineProto (proto_of p q)
unfolding proto_of
fine_proto p q l =
    pick (eqb p 1) (λ e. such tt) (pick (eqb p 2) (λ e. such tt) (pick (eqb p 3) (λ e. such tt) (pick (eqb p 4) (λ e. such tt)
    (pick (eqb p 5) (λ e. such tt) (pick (eqb p 6) (λ e. such tt) (pick (eqb p 7) (λ e. such tt) (pick (eqb p 8) (λ e. such tt)
    (pick (eqb p 9) (λ e. such tt) (pick (eqb p 10) (λ e. such tt) (pick (eqb p 11) (λ e. such l) (such l)))))))))))

module _ (s : List ℕ) (byte : (i : ℕ) → get_or s i 0 < 256) where
  pub be2_low : (p : ℕ) → be2 s p < 65536
  unfolding be2
  be2_low p = omega (arith, byte p, byte (p + 1))

  be4_low : (p : ℕ) → be4 s p < 2 ^ 32
  unfolding be4
  be4_low p = omega (arith, be2_low p, be2_low (p + 2))

  be6_low : (p : ℕ) → be6 s p < 2 ^ 48
  unfolding be6
  be6_low p = omega (arith, be4_low p, be2_low (p + 4))

  be8_low : (p : ℕ) → be8 s p < 2 ^ 64
  unfolding be8
  be8_low p = omega (arith, be4_low p, be4_low (p + 4))

  fine_id : (at : ℕ) → Such FineId (id_at s at)
  unfolding id_at
  fine_id at = pick (eqb (get_or s (at + 2) 0) 0) (λ e. such tt) (such (be2_low (at + 6)))

  fine_label : (at : ℕ) → Such FineLabel (label_at s at)
  unfolding label_at
  fine_label at = pick (eqb (get_or s (at + 2) 0) 0) (λ e. such tt) (such (be4_low (at + 4)))

  fine_rhs : (at : ℕ) → Such FineRhs (rhs_at s at)
  unfolding rhs_at
  fine_rhs at = pick (eqb (get_or s (at + 14) 0) 0) (λ e. such (be4_low (at + 8))) (such tt)

  -- All kinds, given that of the byte access.
  fine_kinds : (link : LinkType) (steps : List ℕ) (j at : ℕ) → (eqb (get_or s at 0) 23 ≡ true → Fine link steps j (ByteAccess (access_at s at)))
      → Such (Fine link steps j) (decode_at s at)
  unfolding decode_at ipv6_at ip_net_at ipv6_net_at host_at host6_at port_at range_at net_at net6_at ether_host_at mpls_at session_at len_at
  fine_kinds link steps j at a =
      let k = get_or s at 0 in
      (pick (eqb k 1) (λ e. such (be4_low (at + 4)))
      (pick (eqb k 2) (λ e. such (be8_low (at + 8), be8_low (at + 16)))
      (pick (eqb k 3) (λ e. such (be2_low (at + 6)))
      (pick (eqb k 4) (λ e. such (be2_low (at + 4), be2_low (at + 6)))
      (pick (eqb k 5) (λ e. such (be4_low (at + 4), be4_low (at + 8)))
      (pick (eqb k 6) (λ e. such (be8_low (at + 8), be8_low (at + 16)))
      (pick (eqb k 7) (λ e. such (fine_proto (get_or s (at + 2) 0) (get_or s (at + 3) 0) (byte (at + 3))).it)
      (pick (eqb k 8) (λ e. such (be6_low (at + 8)))
      (pick (eqb k 9) (λ e. such (be2_low (at + 6)))
      (pick (eqb k 10) (λ e. such tt)
      (pick (eqb k 11) (λ e. such tt)
      (pick (eqb k 12) (λ e. such tt)
      (pick (eqb k 13) (λ e. such tt)
      (pick (eqb k 14) (λ e. such (fine_id at).it)
      (pick (eqb k 15) (λ e. such (fine_label at).it)
      (pick (eqb k 16) (λ e. such tt)
      (pick (eqb k 17) (λ e. such (fine_id at).it)
      (pick (eqb k 18) (λ e. such (byte (at + 2)))
      (pick (eqb k 19) (λ e. such (byte (at + 2)))
      (pick (eqb k 20) (λ e. such (be4_low (at + 4)))
      (pick (eqb k 21) (λ e. such tt)
      (pick (eqb k 23) (λ e. such (a e))
      (such tt)))))))))))))))))))))))

-- THEOREM: the record of primitive i, with the steps that it takes.
pub decoded_fine : (link : LinkType) (steps prims : List ℕ) (i : ℕ) → ((p : ℕ) → get_or steps p 0 < 256) → ((p : ℕ) → get_or prims p 0 < 256)
    → far_offset link prims i ≡ false → shift_at steps prims i ≡ false → Fine link steps (steps_before prims i) (decode_at prims (24 * i))
unfolding far_offset shift_at takes access_at
decoded_fine link steps prims i byte byte' f s =
    (fine_kinds prims byte' link steps (steps_before prims i) (24 * i)
    (λ e. (rw e at f, rw e at s, byte, (fine_rhs prims byte' (24 * i)).it))).it
