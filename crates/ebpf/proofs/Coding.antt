-- The laws of an instruction's bytes: where there is room and where not, and the two round trips.
use Rattle.std.proofs.Common.{◌≡◌, ℕ, ◌+◌, ◌*◌, ◌/◌, ◌%◌, ◌^◌, ◌<◌, ◌≤◌, Some, List, ◌++◌, length, get_or, take, drop, ap, append_assoc, ◌∙◌, subst, add-zero, arith, length-append, length-take-le, get_or-append-add, le-leb}
use native.Mathlib.Numerals.{towards_suc}
use lib.ListN.{get_or-append}
use borrow.Rule.Slice.PartMut.{put_mid}
use Rattle.std.proofs.lemmas.List.{drop-drop}
use lib.Seq.{sets, length-sets, set-get_or, sets-eq}
use Rattle.ebpf.specs.Insn.{to_le_bytes, insn_at, stored_at, fetch_at}
use Rattle.ebpf.specs.declared.insn.Insn.{Insn}

-- the eight bytes put into the part that they take
pub store_room : (s b : List ℕ) (at k : ℕ) (i : Insn) → at + 8 ≤ length s → k ≡ 8 → b ≡ to_le_bytes i → put_mid at k s b ≡ stored_at s at i
unfolding stored_at to_le_bytes
store_room s b at k i h e eb = simp (le-leb (at + 8) (length s) h, e, eb, sets-eq (to_le_bytes i) s at h, append_assoc, drop-drop)

-- what stands in a run of stores
sets_get : (s : List ℕ) (at : ℕ) (vs : List ℕ) (k : ℕ) → at + length vs ≤ length s → k < length vs
    → get_or (sets s at vs) (at + k) 0 ≡ get_or vs k 0
sets_get s at vs k h hk =
    ap (λ (l : List ℕ). get_or l (at + k) 0) (sets-eq vs s at h)
    ∙ subst (λ (n : ℕ). get_or ((take at s ++ vs) ++ drop (at + length vs) s) (n + k) 0 ≡ get_or vs k 0) (length-take-le at s (omega arith))
    (get_or-append (take at s ++ vs) (drop (at + length vs) s) 0 (length (take at s) + k) (simp length-append (omega arith))
    ∙ get_or-append-add (take at s) vs k 0)

-- an instruction of the widths that its struct has
pub record Sized (i : Insn) : Type 0 where
  pub off16 : i.off < 2 ^ 16
  pub imm32 : i.imm < 2 ^ 32

pub split16 : (x : ℕ) → x < 2 ^ 16 → x % 256 + x / 256 * 256 ≡ x
split16 x h = omega arith

pub split32 : (x : ℕ) → x < 2 ^ 32 → x % 256 + x / 256 % 256 * 256 + x / 65536 % 256 * 65536 + x / 16777216 * 16777216 ≡ x
split32 x h = omega arith

-- THEOREM: any record written and read back is the same record.
pub written_read : (s : List ℕ) (at : ℕ) (i : Insn) → at + 8 ≤ length s → Sized i → fetch_at (stored_at s at i) at ≡ Some i
unfolding fetch_at insn_at stored_at to_le_bytes
written_read s at i h z =
    let g : (k : ℕ) → k < 8 → get_or (sets s at (to_le_bytes i)) (at + k) 0 ≡ get_or (to_le_bytes i) k 0 = λ k hk. sets_get s at (to_le_bytes i) k h hk in
    let l : at + 8 ≤ length (sets s at (to_le_bytes i)) = simp length-sets h in
    let g0 : get_or (sets s at (to_le_bytes i)) at 0 ≡ i.code = rw add-zero at (g 0 (omega arith)) in
    rw (le-leb (at + 8) (length s) h) (rw (le-leb (at + 8) (length (sets s at (to_le_bytes i))) l)
    (simp (g0, g 1 (omega arith), g 2 (omega arith), g 3 (omega arith), g 4 (omega arith), g 5 (omega arith), g 6 (omega arith), g 7 (omega arith), split16 i.off z.off16, split32 i.imm z.imm32)))

low16 : (x y : ℕ) → x < 256 → (x + y * 256) % 256 ≡ x
low16 x y h = omega arith

high16 : (x y : ℕ) → x < 256 → (x + y * 256) / 256 ≡ y
high16 x y h = omega arith

pub byte0 : (x y z w : ℕ) → x < 256 → (x + y * 256 + z * 65536 + w * 16777216) % 256 ≡ x
byte0 x y z w h = omega arith

pub byte1 : (x y z w : ℕ) → x < 256 → y < 256 → (x + y * 256 + z * 65536 + w * 16777216) / 256 % 256 ≡ y
byte1 x y z w hx hy = omega arith

pub byte2 : (x y z w : ℕ) → x < 256 → y < 256 → z < 256 → (x + y * 256 + z * 65536 + w * 16777216) / 65536 % 256 ≡ z
byte2 x y z w hx hy hz = omega arith

pub byte3 : (x y z w : ℕ) → x < 256 → y < 256 → z < 256 → (x + y * 256 + z * 65536 + w * 16777216) / 16777216 ≡ w
byte3 x y z w hx hy hz = omega arith

-- THEOREM: any eight bytes read and written back are the same eight bytes, and all others stay.
pub read_written : (s : List ℕ) (at : ℕ) → at + 8 ≤ length s → ((k : ℕ) → get_or s k 0 < 256) → stored_at s at (insn_at s at) ≡ s
unfolding insn_at stored_at to_le_bytes
read_written s at h b =
    let x2 = b (at + 2) in let x3 = b (at + 3) in let x4 = b (at + 4) in let x5 = b (at + 5) in let x6 = b (at + 6) in let x7 = b (at + 7) in
    rw (le-leb (at + 8) (length s) h)
    (simp (
      low16 _ (get_or s (at + 3) 0) x2,
      high16 _ (get_or s (at + 3) 0) x2,
      byte0 _ (get_or s (at + 5) 0) (get_or s (at + 6) 0) (get_or s (at + 7) 0) x4,
      byte1 _ _ (get_or s (at + 6) 0) (get_or s (at + 7) 0) x4 x5,
      byte2 _ _ _ (get_or s (at + 7) 0) x4 x5 x6,
      byte3 _ _ _ (get_or s (at + 7) 0) x4 x5 x6,
    )
    (simp (towards_suc, set-get_or)))
