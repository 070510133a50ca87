-- The loops over a byte access's steps and over the halves of an IPv6 address: what is left, one turn, the end.
use Rattle.filter.specs.Ast.{segment_of}
use Rattle.std.proofs.Common.{◌≡◌, sym, ◌∙◌, ℕ, suc, ◌+◌, ◌-◌, ◌*◌, ◌<◌, ◌≤◌, Bool, true, false, eqb, List, add-one, arith, le-leb}
use borrow.Author.Tests.{lt-leb}
use lib.Bits.{bit_and}
use Rattle.filter.specs.Record.{step_at}
use Rattle.filter.specs.declared.ast.LinkType.{LinkType}
use Rattle.filter.specs.declared.ast.Ipv6Addr.{Ipv6Addr}
use Rattle.meaning.specs.Frame.{passes}
use Rattle.meaning.specs.Meaning.{arith as step_of_lem, stepped, half_mask, halves}
use Rattle.filter.proofs.Firsts.{suc_of}

-- k of n steps from step j on are done, and the value is w
module _ (steps : List ℕ) (n j : ℕ) where
  pub stepped_all : (v : ℕ) → stepped steps n j v ≡ stepped steps (n - 0) (j + 0) v
  stepped_all v =
      let z : n - 0 ≡ n = omega arith in
      let y : j + 0 ≡ j = omega arith in
      rw (z, y)

  pub stepped_none : (k : ℕ) {w : ℕ} → n ≤ k → stepped steps (n - k) (j + k) w ≡ w
  unfolding stepped
  stepped_none k h = let z : n - k ≡ 0 = omega arith in rw z

  pub stepped_more : (k w : ℕ) {r : ℕ} → k < n → r ≡ step_of_lem (step_at steps (5 * (j + k))).op w (step_at steps (5 * (j + k))).operand
      → stepped steps (n - k) (j + k) w ≡ stepped steps (n - (k + 1)) (j + (k + 1)) r
  unfolding stepped
  stepped_more k w h e =
      let z : j + (k + 1) ≡ suc (j + k) = omega arith in
      rw (suc_of k n h, z, e)

-- i of the eight halves of the address at `at` are done
module _ (link : LinkType) (f : List ℕ) (addr : Ipv6Addr) (prefix at i : ℕ) where
  pub halves_none : 8 ≤ i → halves link f addr prefix at (8 - i) i ≡ true
  unfolding halves
  halves_none h = let z : 8 - i ≡ 0 = omega arith in rw z

  pub halves_end : i < 8 → prefix ≤ 16 * i → halves link f addr prefix at (8 - i) i ≡ true
  unfolding halves
  halves_end h p = rw (suc_of i 8 h, le-leb prefix (16 * i) p)

  abbrev pub Same : Bool → Type 0
  Same r = r ≡ passes f 2 (at + 2 * i) (λ x. eqb (bit_and x (half_mask prefix i)) (bit_and (segment_of addr i) (half_mask prefix i)))

  pub halves_differ : {r : Bool} → i < 8 → 16 * i < prefix → Same r → r ≡ false → halves link f addr prefix at (8 - i) i ≡ false
  unfolding halves
  halves_differ h p e other = rw (suc_of i 8 h, lt-leb prefix (16 * i) p, sym e ∙ other)

  pub halves_more : {r : Bool} → i < 8 → 16 * i < prefix → Same r → r ≡ true
      → halves link f addr prefix at (8 - i) i ≡ halves link f addr prefix at (8 - (i + 1)) (i + 1)
  unfolding halves
  halves_more h p e same = rw (suc_of i 8 h, lt-leb prefix (16 * i) p, sym e ∙ same, add-one i)
