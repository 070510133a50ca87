-- What an opened file says of its header.
use Prim.Native.Nat.{ℕ, ◌≤◌}
use mathlib.Core.Path.{◌≡◌, refl}
use mathlib.Core.Bool.{Bool, true, false, cond}
use mathlib.Core.List.{List}
use native.Mathlib.Omega.{arith}
use lib.ListN.{length}
use lib.Dec.{eqb, ltb, nltb→le}
use Rattle.savefile.specs.Savefile.{magic_of, header_in, by_magic, header_of, file_walk, walked_of, whole_of, opened_of}
use Rattle.std.specs.Prelude.{Option, Some, None}
use Rattle.refusals.specs.Refusal.{Answer}
use Rattle.refusals.specs.Refusal.Answer.{Refused, Given}
use Rattle.savefile.specs.declared.ByteOrder.{ByteOrder}
use Rattle.savefile.specs.declared.Header as declared

-- A header that is not refused has its 24 bytes.
pub header_long : (s : List ℕ) (h : declared.Header) → header_of s ≡ Given h → 24 ≤ length s
unfolding header_of header_in
header_long s h e = go (ltb (length s) 4) (magic_of s) e
  where
    within : (x : Answer declared.Header) (t : Bool) → ltb (length s) 24 ≡ t → cond t (Refused 42 0) x ≡ Given h → 24 ≤ length s
    within x true f q = let z : ◌≡◌ {A = ℕ} 0 1 = cc in absurd (omega arith)
    within x false f q = nltb→le (length s) 24 (rw f tt)

    go : (t : Bool) (m : Option ByteOrder) → cond t (Refused 42 0) (by_magic m s) ≡ Given h → 24 ≤ length s
    go true m q = let z : ◌≡◌ {A = ℕ} 0 1 = cc in absurd (omega arith)
    go false (Some order) q = within _ (ltb (length s) 24) refl q
    go false None q = let z : ◌≡◌ {A = ℕ} 0 1 = cc in absurd (omega arith)

-- An opened file has the header's byte order and link, and its walk met no fault.
pub record Header (s : List ℕ) (h : declared.Header) : Type 0 where
  pub header : header_of s ≡ Given h
  pub sound : eqb (file_walk h.order s).fault 0 ≡ true

pub opened_header : (s : List ℕ) (h : declared.Header) → opened_of s ≡ Given h → Header s h
unfolding opened_of walked_of
opened_header s h e = go (header_of s) refl e
  where
    walked : (k : declared.Header) → header_of s ≡ Given k → (t : Bool) → eqb (file_walk k.order s).fault 0 ≡ t
        → cond t (Given k) (Refused (file_walk k.order s).fault (file_walk k.order s).next) ≡ Given h → Header s h
    walked k a true f q = let e : k ≡ h = cc in record { header = rw e at a; sound = rw e at f }
    walked k a false f q = let z : ◌≡◌ {A = ℕ} 0 1 = cc in absurd (omega arith)

    go : (x : Answer declared.Header) → header_of s ≡ x → whole_of x s ≡ Given h → Header s h
    go (Given k) a q = walked k a (eqb (file_walk k.order s).fault 0) refl q
    go (Refused number place) a q = let z : ◌≡◌ {A = ℕ} 0 1 = cc in absurd (omega arith)
