-- What a sheet satisfies once refusals 1 to 6 and 11 to 19 are past.
use Prim.Native.Nat.{ℕ, zero, suc, ◌+◌, ◌-◌, ◌*◌, ◌^◌, ◌<◌, ◌≤◌}
use mathlib.Core.Path.{◌≡◌, sym, ap, ◌∙◌}
use mathlib.Core.Bool.{Bool, true, false, not}
use mathlib.Core.List.{List, [], ◌∷◌}
use native.Mathlib.Omega.{arith}
use borrow.Author.Tests.{ltb-false, eqb-true, not-false}
use lib.Dec.{eqb, ltb}
use lib.ListN.{length, get_or, take, drop}
use lib.Seq.{get_or-drop}
use Rattle.std.specs.Prelude.{Some}
use Rattle.tree.specs.Tree.{leaves, flat, tree_of}
use Rattle.tree.specs.Shape.{shape_of}
use Rattle.tree.proofs.Prefix.{tree_flat}
use Rattle.tree.proofs.Exact.{flat_whole}
use Rattle.filter.specs.Ast.{link_of}
use Rattle.filter.specs.First.{first}
use Rattle.filter.specs.Sheet.{counts, step_count, prim_count, token_count, sections_of, steps_part, prims_part, tokens_part}
use Rattle.filter.specs.declared.ast.LinkType.{LinkType}
use Rattle.filter.proofs.Firsts.{first_lowest}
use Rattle.filter.proofs.Sheets.{found}
use Rattle.checks.specs.Check.{one_tree, far_offset, shift_at, check_of}
use Rattle.refusals.specs.Refusal.Answer.{Given}
use Rattle.checks.specs.Refusal.{refusal_at}
use Rattle.meaning.specs.Evaluate.{first_refused}
use Rattle.checks.specs.Length.{program_length}
use Rattle.sound.specs.Sheets.{Allowed}
use Rattle.sound.proofs.Decoded.{be2_low}
use Rattle.checks.proofs.Bounds.{Accepted, good, good_length, whole_shape}

-- Below b, none passes, where the first that passes is not below b.
none_below : (f : ℕ → Bool) (b : ℕ) → b ≤ first f b 0 → (i : ℕ) → i < b → f i ≡ false
none_below f b h i l = first_lowest f b 0 i (omega arith) (omega arith)

-- The tree of tokens that are one whole tree with b primitives.
pub whole_tree : (tokens : List ℕ) (b : ℕ) → one_tree (shape_of tokens) b ≡ true → (flat (tree_of tokens) ≡ tokens) × (leaves (tree_of tokens) ≡ b)
whole_tree tokens b e =
    let t = flat_whole tokens b (whole_shape (shape_of tokens) b e) in
    let same : tree_of tokens ≡ t.0 = ap tree_of (sym t.1) ∙ tree_flat t.0 in
    (ap flat same ∙ t.1, ap leaves same ∙ t.2)

-- Bytes of a part are bytes.
take_byte : (n : ℕ) (s : List ℕ) (i : ℕ) → ((p : ℕ) → get_or s p 0 < 256) → get_or (take n s) i 0 < 256
take_byte zero s i byte = omega arith
take_byte (suc n) [] i byte = omega arith
take_byte (suc n) (x ∷ s) zero byte = byte 0
take_byte (suc n) (x ∷ s) (suc i) byte = take_byte n s i (λ p. byte (suc p))

part_byte : (n k : ℕ) (s : List ℕ) → ((p : ℕ) → get_or s p 0 < 256) → (i : ℕ) → get_or (take n (drop k s)) i 0 < 256
part_byte n k s byte i = take_byte n (drop k s) i (λ p. rw (get_or-drop k s p 0) (byte (k + p)))

-- Past 3 to 6, and past 11 to 19.
parts_allowed : (link : LinkType) (steps prims tokens : List ℕ) (a b c : ℕ)
    → ((p : ℕ) → get_or steps p 0 < 256) → ((p : ℕ) → get_or prims p 0 < 256)
    → Accepted link steps prims tokens a b c → ltb (first_refused link steps prims b) b ≡ false
    → Allowed link steps prims tokens b
unfolding first_refused
parts_allowed link steps prims tokens a b c byte byte' t f =
    let tree = whole_tree tokens b t.whole in
    record {
      step_byte = byte;
      prim_byte = byte';
      one_tree = tree.0;
      whole = tree.1;
      not_far = none_below (far_offset link prims) b t.near;
      not_shifted = none_below (shift_at steps prims) b t.short;
      not_refused = λ i l. eqb-true (refusal_at link steps prims i) 0
          (not-false (eqb (refusal_at link steps prims i) 0)
          (none_below (λ k. not (eqb (refusal_at link steps prims k) 0)) b (ltb-false (first (λ k. not (eqb (refusal_at link steps prims k) 0)) b 0) b f) i l));
    }

-- THEOREM: a sheet of bytes that is past refusals 1 to 6, no primitive of which earns 11 to 19.
pub sheet_allowed : (s : List ℕ) (link a b c : ℕ) → ((p : ℕ) → get_or s p 0 < 256) → check_of s link ≡ Given (counts a b c)
    → ltb (first_refused (link_of link) (steps_part s a) (prims_part s a b) b) b ≡ false
    → Allowed (link_of link) (steps_part s a) (prims_part s a b) (tokens_part s a b c) b
unfolding steps_part prims_part
sheet_allowed s link a b c byte e f =
    parts_allowed (link_of link) (steps_part s a) (prims_part s a b) (tokens_part s a b c) a b c
    (part_byte (5 * a + 2 - 2) 2 s byte) (part_byte (5 * a + 24 * b + 4 - (5 * a + 4)) (5 * a + 4) s byte) (good s link e).parts f

-- The counts have 16 bits.
counts_low : (s : List ℕ) (a b c : ℕ) → ((p : ℕ) → get_or s p 0 < 256) → sections_of s ≡ Some (counts a b c) → (a < 65536) × (b < 65536) × (c < 65536)
unfolding step_count prim_count token_count
counts_low s a b c byte e =
    let f = found s e in (
      omega (arith, f.steps, be2_low s byte 0),
      omega (arith, f.prims, be2_low s byte (5 * step_count s + 2)),
      omega (arith, f.tokens, be2_low s byte (5 * step_count s + 24 * prim_count s + 4)),
    )

-- THEOREM: L of a checked sheet is below 2^32.
pub sheet_short : (s : List ℕ) (link a b c : ℕ) → ((p : ℕ) → get_or s p 0 < 256) → check_of s link ≡ Given (counts a b c)
    → program_length (link_of link) (steps_part s a) (prims_part s a b) (tokens_part s a b c) b c < 2 ^ 32
sheet_short s link a b c byte e =
    let l = counts_low s a b c byte (good s link e).found in
    omega (arith, good_length s link e, l.0, l.1, l.2)

take_few : (n : ℕ) (s : List ℕ) → length (take n s) ≤ n
take_few zero s = omega arith
take_few (suc n) [] = omega arith
take_few (suc n) (x ∷ s) = let h = take_few n s in omega arith

pub tokens_few : (s : List ℕ) (a b c : ℕ) → length (tokens_part s a b c) ≤ c
unfolding tokens_part
tokens_few s a b c =
    let from : ℕ = 5 * a + 24 * b + 6 in
    let n : ℕ = 5 * a + 24 * b + c + 6 - from in
    let h = take_few n (drop from s) in
    omega arith
