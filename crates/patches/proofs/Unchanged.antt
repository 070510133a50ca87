-- What each write leaves from a place on.
use Prim.Native.Nat.{ℕ, suc, ◌+◌, ◌-◌, ◌*◌, ◌<◌, ◌≤◌, ◌/◌, ◌%◌}
use mathlib.Core.Path.{◌≡◌, refl, ◌∙◌}
use mathlib.Core.List.{List, [], ◌∷◌}
use mathlib.Core.Bool.{Bool, true, false, cond}
use native.Mathlib.Omega.{arith}
use borrow.Author.Tests.{eqb-false}
use lib.Dec.{eqb, leb, ltb}
use lib.ListN.{get_or, length, set, length-set}
use lib.Seq.{sets, get_or-set_other}
use Rattle.ebpf.specs.Insn.{stored_at, to_le_bytes}
use Rattle.ebpf.specs.declared.insn.Insn.{Insn}
use Rattle.patches.specs.declared.PatchList.{PatchList}
use Rattle.patches.specs.Chain.{put_off, resolved}
use Rattle.patches.specs.Lists.{save_at, joined_links, pushed_links}
use Rattle.patches.specs.Code.{put_insn, Slot, insn, outs, Emission, block, push1}
use Rattle.patches.specs.Code.Slot.{fixed, success, failure}
use Rattle.patches.specs.Same.{SameFrom, Kept}
use Rattle.patches.proofs.Bytes.{length_put}
use Rattle.patches.proofs.Places.{AllLt}
use Rattle.patches.proofs.Places.AllLt.{lt_cons}

pub from_set : (m : ℕ) (a : List ℕ) (q v : ℕ) → q < m → SameFrom m a (set a q v)
from_set m a q v h p i = get_or-set_other a q p v 0 (λ e. omega arith)

pub from_trans : (m : ℕ) (a b c : List ℕ) → SameFrom m a b → SameFrom m b c → SameFrom m a c
from_trans m a b c f g p i = g p i ∙ f p i

pub from_more : (m k : ℕ) (a b : List ℕ) → m ≤ k → SameFrom m a b → SameFrom k a b
from_more m k a b h f p i = f p (omega arith)

pub from_save : (m : ℕ) (w : List ℕ) (b op : ℕ) (x : PatchList) → b + 3 ≤ m → SameFrom m w (save_at w b op x)
unfolding save_at
from_save m w b op x h p i =
    let w1 = set w b op in let w2 = set w1 (b + 1) x.head in
    get_or-set_other w2 (b + 2) p x.tail 0 (λ e. omega arith) ∙ get_or-set_other w1 (b + 1) p x.head 0 (λ e. omega arith) ∙ get_or-set_other w b p op 0 (λ e. omega arith)

pub from_join : (m : ℕ) (w : List ℕ) (a b : PatchList) → ((a.head ≡ 0 → ⊥) → a.tail < m) → SameFrom m w (joined_links w a b)
unfolding joined_links
from_join m w a b h p i = go (eqb a.head 0) refl (eqb b.head 0)
  where
    go : (x : Bool) → eqb a.head 0 ≡ x → (y : Bool) → get_or (cond x w (cond y w (set w a.tail b.head))) p 0 ≡ get_or w p 0
    go true e y = refl
    go false e true = refl
    go false e false = let z : a.tail < m = h (eqb-false _ _ e) in get_or-set_other w a.tail p b.head 0 (λ q. omega arith)

from_sets : (m : ℕ) (vs o : List ℕ) (q : ℕ) → q + length vs ≤ m → SameFrom m o (sets o q vs)
unfolding sets
from_sets m [] o q h p j = refl
from_sets m (v ∷ vs) o q h p j = from_sets m vs (set o q v) (suc q) (omega arith) p j ∙ get_or-set_other o q p v 0 (λ e. omega arith)

pub from_insn : (l : ℕ) (o : List ℕ) (q : ℕ) (i : Insn) → q < l → SameFrom (8 * l) o (put_insn o q i)
unfolding put_insn stored_at to_le_bytes
from_insn l o q i h p j = go (leb (8 * q + 8) (length o))
  where
    go : (b : Bool) → get_or (cond b (sets o (8 * q) (to_le_bytes i)) o) p 0 ≡ get_or o p 0
    go true = from_sets (8 * l) (to_le_bytes i) o (8 * q) (omega arith) p j
    go false = refl

from_off : (l : ℕ) (o : List ℕ) (q d : ℕ) → q < l → SameFrom (8 * l) o (put_off o q d)
unfolding put_off
from_off l o q d h p j = get_or-set_other (set o (8 * q + 2) (d % 256)) (8 * q + 3) p (d / 256) 0 (λ e. omega arith) ∙ get_or-set_other o (8 * q + 2) p (d % 256) 0 (λ e. omega arith)

pub from_resolved : (l t : ℕ) (ps o : List ℕ) → AllLt l ps → SameFrom (8 * l) o (resolved t ps o)
unfolding resolved
from_resolved l t [] o a p j = refl
from_resolved l t (q ∷ ps) o (lt_cons h a) p j = go (ltb 32767 (t - suc q)) (from_resolved l t ps (put_off o q (t - suc q)) a p j ∙ from_off l o q (t - suc q) h p j)
  where
    go : (b : Bool) → get_or (resolved t ps (put_off o q (t - suc q))) p 0 ≡ get_or o p 0 → get_or (cond b o (resolved t ps (put_off o q (t - suc q)))) p 0 ≡ get_or o p 0
    go true e = refl
    go false e = e

pub from_outs : (l : ℕ) (xs : List Slot) (q : ℕ) (o : List ℕ) → q + length xs ≤ l → SameFrom (8 * l) o (outs xs q o)
unfolding outs
from_outs l [] q o h p j = refl
from_outs l (x ∷ xs) q o h p j = from_outs l xs (q + 1) (put_insn o q (insn x)) (omega arith) p j ∙ from_insn l o q (insn x) (omega arith) p j

from_push : (l : ℕ) (x : Slot) (e : Emission) → e.patches.pos < l → SameFrom l e.work (push1 x e).work
unfolding push1 pushed_links
from_push l (fixed i) e h p j = refl
from_push l (success i) e h p j = get_or-set_other e.work e.patches.pos p _ 0 (λ z. omega arith)
from_push l (failure i) e h p j = get_or-set_other e.work e.patches.pos p _ 0 (λ z. omega arith)

push_pos : (x : Slot) (e : Emission) → (push1 x e).patches.pos ≡ e.patches.pos + 1
unfolding push1
push_pos (fixed i) e = refl
push_pos (success i) e = refl
push_pos (failure i) e = refl

pub from_block : (l : ℕ) (xs : List Slot) (e : Emission) → e.patches.pos + length xs ≤ l → SameFrom l e.work (block xs e).work
unfolding block
from_block l [] e h p j = refl
from_block l (x ∷ xs) e h p j =
    from_block l xs (push1 x e) (omega (arith, push_pos x e)) p j ∙ from_push l x e (omega arith) p j

-- What stays: mode, link, buffers and their lengths.
pub kept_trans : {a b c : Emission} → Kept a b → Kept b c → Kept a c
kept_trans h k = record { setting = k.setting ∙ h.setting; out_len = k.out_len ∙ h.out_len; work_len = k.work_len ∙ h.work_len }

pub length_join : (w : List ℕ) (a b : PatchList) → length (joined_links w a b) ≡ length w
unfolding joined_links
length_join w a b = go (eqb a.head 0) (eqb b.head 0)
  where
    go : (x y : Bool) → length (cond x w (cond y w (set w a.tail b.head))) ≡ length w
    go true y = refl
    go false true = refl
    go false false = length-set w a.tail b.head

pub length_save : (w : List ℕ) (b op : ℕ) (x : PatchList) → length (save_at w b op x) ≡ length w
unfolding save_at
length_save w b op x = simp length-set

pub push_kept : (x : Slot) (e : Emission) → Kept e (push1 x e)
unfolding push1 pushed_links
push_kept (fixed i) e = record { setting = refl; out_len = length_put e.out e.patches.pos i; work_len = refl }
push_kept (success i) e = record { setting = refl; out_len = length_put e.out e.patches.pos i; work_len = length-set e.work e.patches.pos e.patches.success.head }
push_kept (failure i) e = record { setting = refl; out_len = length_put e.out e.patches.pos i; work_len = length-set e.work e.patches.pos e.patches.failure.head }

pub block_kept : (xs : List Slot) (e : Emission) → Kept e (block xs e)
unfolding block
block_kept [] e = record { setting = refl; out_len = refl; work_len = refl }
block_kept (x ∷ xs) e = kept_trans (push_kept x e) (block_kept xs (push1 x e))
