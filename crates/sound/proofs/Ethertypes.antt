-- The ethertype, and the protocol behind it: on IPv4, on IPv6, and on either.
use Prim.Native.Nat.{ℕ, ◌+◌, ◌<◌}
use mathlib.Core.Path.{◌≡◌, refl, sym}
use mathlib.Core.Bool.{Bool, true, false, cond, ◌&&◌, ◌||◌}
use mathlib.Core.List.{List}
use native.Mathlib.Omega.{arith}
use borrow.Author.Tests.{eqb-true}
use lib.Dec.{eqb}
use Rattle.std.specs.Prelude.{Option, Some, None}
use Rattle.pieces.specs.Fragments.{past, guard, load, emit_load, check, fails, ethertype_at_code, emit_ethertype, emit_ip4_l4, emit_ip6_l4, dual_at, emit_dual_l4}
use Rattle.filter.specs.Ast.{ether_proto_offset, net_offset, bytes_of}
use Rattle.filter.specs.declared.ast.LinkType.{LinkType}
use Rattle.filter.specs.declared.ast.AccessSize.TheVariants.{Byte, Half}
use Rattle.checks.specs.Refusal.{etherless, unless_ether, ether_refusal}
use Rattle.meaning.specs.Frame.{there, number, passes}
use Rattle.meaning.specs.Meaning.{ethertype_at, ethertype, ip, ip6, ip4_proto, ip6_proto, dual_proto}
use Rattle.program.specs.Ends.{Frame}
use Rattle.sound.specs.Piece.{nothing, Tests}
use Rattle.sound.proofs.Bools.{or_false}
use Rattle.sound.proofs.Pieces.{both, no_code, decides, forgets, ignores}
use Rattle.sound.proofs.Loads.{number_low}
use Rattle.sound.proofs.Compares.{takes_always, reads_equal, fails_unless_equal, two_ways}
use Rattle.sound.proofs.Fields.{field, checks}
use Rattle.filter.proofs.Links.{Low, net_low, ether_low}
use Rattle.filter.proofs.Links.Low.{below, absent}

-- Two different numbers are not both the same number.
pub not_both : (k k' x : ℕ) → eqb k' k ≡ false → eqb k x ≡ true → eqb k' x ≡ false
not_both k k' x e t = rw (← eqb-true k x t) e

-- What is not refused is true.
unrefused : (is_ip : Bool) → cond {A = ℕ} is_ip 0 11 ≡ 0 → is_ip ≡ true
unrefused true q = refl
unrefused false q = absurd (omega arith)

module _ {frame : List ℕ} {start : ℕ} (w : Frame frame start) (mode : ℕ) where
  -- "Ethertype x: the half at 12 is x. On RawIp 0x0800 is true."
  pub ethertype_means : (link : LinkType) (et : ℕ) → et < 65536 → ether_refusal link et ≡ 0
      → Tests frame start (emit_ethertype mode link et) (ethertype link frame et)
  unfolding emit_ethertype ethertype ether_refusal unless_ether bytes_of
  ethertype_means link et m r = go (ether_proto_offset link) (ether_low link) r
    where
      go : (e : Option ℕ) → Low e → cond {A = ℕ} (eqb et 0x0800) 0 (etherless e 11) ≡ 0
          → Tests frame start (ethertype_at_code mode e et) (ethertype_at link frame e et)
      go (Some off) (below h) q = checks w Half off (reads_equal (takes_always mode (omega arith))) (omega arith)
      go None absent q = decides no_code (sym (unrefused (eqb et 0x0800) q))

  pub is_ip : (link : LinkType) → Tests frame start (emit_ethertype mode link 0x0800) (ethertype link frame 0x0800)
  unfolding ether_refusal
  is_ip link = ethertype_means link 0x0800 (omega arith) refl

  -- "protocol at net+9", "next header net+6".
  pub ip4_means : (link : LinkType) (proto : ℕ) → proto < 256 → Tests frame start (emit_ip4_l4 mode link proto) (ip4_proto link frame proto)
  unfolding emit_ip4_l4 ip4_proto ip bytes_of
  ip4_means link proto m =
      let near = net_low link in
      both (is_ip link) (λ t. checks w Byte (net_offset link + 9) (reads_equal (takes_always mode (omega arith))) (omega arith))

  pub ip6_means : (link : LinkType) (next : ℕ) → next < 256 → ether_refusal link 0x86dd ≡ 0
      → Tests frame start (emit_ip6_l4 mode link next) (ip6_proto link frame next)
  unfolding emit_ip6_l4 ip6_proto ip6 bytes_of
  ip6_means link next m e =
      let near = net_low link in
      both (ethertype_means link 0x86dd (omega arith) e)
      (λ t. checks w Byte (net_offset link + 6) (reads_equal (takes_always mode (omega arith))) (omega arith))

  -- The ethertype decides between two tests: as the code asks, and as document 01 says it.
  by_ethertype : (t : Bool) (x : ℕ) (p q : Bool)
      → (t && cond (eqb 0x0800 x) p (eqb 0x86dd x && q)) ≡ (((t && eqb 0x0800 x) && p) || ((t && eqb 0x86dd x) && q))
  by_ethertype false x p q = refl
  by_ethertype true x p q = go (eqb 0x0800 x) (eqb 0x86dd x) (not_both 0x0800 0x86dd x refl)
    where
      go : (four six : Bool) → (four ≡ true → six ≡ false) → cond four p (six && q) ≡ ((four && p) || (six && q))
      go true six h = rw (h refl) (sym (or_false p))
      go false six h = refl

  -- "IPv4 or IPv6 (RawIp: IPv4 only)".
  pub dual_means : (link : LinkType) (proto : ℕ) → proto < 256 → Tests frame start (emit_dual_l4 mode link proto) (dual_proto link frame proto)
  unfolding emit_dual_l4 dual_proto ip4_proto ip6_proto ip ip6 ethertype passes bytes_of check emit_load guard load fails past
  dual_means link proto m = go (ether_proto_offset link) refl (ether_low link)
    where
      go : (e : Option ℕ) → ether_proto_offset link ≡ e → Low e → Tests frame start (dual_at mode e link proto)
          ((ethertype_at link frame e 0x0800 && passes frame 1 (net_offset link + 9) (eqb proto))
          || (ethertype_at link frame e 0x86dd && passes frame 1 (net_offset link + 6) (eqb proto)))
      go (Some off) q (below h) =
          let near = net_low link in
          let x : ℕ = number frame 2 off in
          let small = number_low w Half off in
          let on4 = checks w Byte (net_offset link + 9) (reads_equal (takes_always mode {k = proto} (omega arith))) (omega arith) in
          let on6 = checks w Byte (net_offset link + 6) (reads_equal (takes_always mode {k = proto} (omega arith))) (omega arith) in
          decides (field w Half off (omega arith)
          (two_ways (λ b. nothing) (reads_equal (takes_always mode {k = 0x0800} (omega arith))) small (ignores on4)
          (both (forgets (fails_unless_equal (reads_equal (takes_always mode {k = 0x86dd} (omega arith))) small)) (λ t. on6))))
          (by_ethertype (there frame 2 off) x (passes frame 1 (net_offset link + 9) (eqb proto)) (passes frame 1 (net_offset link + 6) (eqb proto)))
      go None q absent = decides (ip4_means link proto m) (rw q (sym (or_false _)))
