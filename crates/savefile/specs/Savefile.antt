-- The libpcap savefile format (document 02, A1), over the file's bytes.
use Rattle.std.specs.Prelude.{ℕ, zero, suc, ◌+◌, ◌*◌, Bool, cond, ◌||◌, List, [], ◌∷◌, length, get_or, take, drop, eqb, ltb, Option, Some, None}
use Rattle.refusals.specs.Refusal.{Answer}
use Rattle.refusals.specs.Refusal.Answer.{Refused, Given}
use Rattle.savefile.specs.declared.ByteOrder.{ByteOrder}
use Rattle.savefile.specs.declared.ByteOrder.TheVariants.{Big, Little}
use Rattle.savefile.specs.declared.Header.{Header}
use Rattle.savefile.specs.declared.Record.{Record}

-- Four bytes as a number, the first the highest.
unfoldable pub joined : ℕ → ℕ → ℕ → ℕ → ℕ
joined a b c d = a * 16777216 + b * 65536 + c * 256 + d

-- The 32-bit number at byte `at`, "in either byte order".
unfoldable pub number_at : ByteOrder → List ℕ → ℕ → ℕ
number_at Big s at = joined (get_or s at 0) (get_or s (at + 1) 0) (get_or s (at + 2) 0) (get_or s (at + 3) 0)
number_at Little s at = joined (get_or s (at + 3) 0) (get_or s (at + 2) 0) (get_or s (at + 1) 0) (get_or s at 0)

-- "magic a1b2c3d4 or, for nanoseconds, a1b23c4d".
unfoldable pub is_magic : ℕ → Bool
is_magic x = eqb x 0xa1b2c3d4 || eqb x 0xa1b23c4d

-- "in either byte order".
unfoldable pub magic_of : List ℕ → Option ByteOrder
magic_of s = cond (is_magic (number_at Big s 0)) (Some Big) (cond (is_magic (number_at Little s 0)) (Some Little) None)

-- What a header says, and what a record's header says.
abbrev pub opens : ByteOrder → ℕ → Header
opens order link = record { order = order; link = link }

abbrev pub entry : ℕ → ℕ → Record
entry captured original = record { captured = captured; original = original }

-- "24 byte header", "link type 1 Ethernet, 101 raw IP", "A1 takes type 113" for link 2: "one 32-bit number, picks the link". "42 file ends inside a header", "41 other link type".
unfoldable pub header_in : ByteOrder → List ℕ → Answer Header
header_in order s =
    cond (ltb (length s) 24) (Refused 42 0)
    (cond (eqb (number_at order s 20) 1) (Given (opens order 0))
    (cond (eqb (number_at order s 20) 101) (Given (opens order 1))
    (cond (eqb (number_at order s 20) 113) (Given (opens order 2)) (Refused 41 20))))

abbrev pub by_magic : Option ByteOrder → List ℕ → Answer Header
by_magic (Some order) s = header_in order s
by_magic None s = Refused 40 0

-- "The magic bytes are compared before anything else in the file is believed": "40 unknown magic", "a file below four bytes too" is 42.
unfoldable pub header_of : List ℕ → Answer Header
header_of s = cond (ltb (length s) 4) (Refused 42 0) (by_magic (magic_of s) s)

-- "16 byte record headers": captured length at 8, original length at 12, then the captured bytes.
-- "42 file ends inside a header or record, 43 captured length above 16,384, before the record's body".
unfoldable pub next_of : ByteOrder → List ℕ → ℕ → Answer Record
next_of order s at =
    cond (ltb (length s) (at + 16)) (Refused 42 at)
    (cond (ltb 16384 (number_at order s (at + 8))) (Refused 43 at)
    (cond (ltb (length s) (at + 16 + number_at order s (at + 8))) (Refused 42 at)
    (Given (entry (number_at order s (at + 8)) (number_at order s (at + 12))))))

-- A record: where its captured bytes start, how many there are, how many bytes the frame had.
pub record Rec : Type 0 where
  pub from : ℕ
  pub captured : ℕ
  pub original : ℕ

-- A walk over records: those that were met, the place behind the last of them, and what is wrong there, 0 if nothing is.
pub record Walk : Type 0 where
  pub records : List Rec
  pub next : ℕ
  pub fault : ℕ

abbrev pub stays : ℕ → Walk
stays at = record { records = []; next = at; fault = 0 }

abbrev pub after : Rec → Walk → Walk
after r w = record { records = r ∷ w.records; next = w.next; fault = w.fault }

abbrev pub onward : Answer Record → ℕ → (ℕ → Walk) → Walk
onward (Given r) at more = after (record { from = at + 16; captured = r.captured; original = r.original }) (more (at + 16 + r.captured))
onward (Refused number place) at more = record { records = []; next = place; fault = number }

-- "in file order": at most so many records from the place `at` on, up to the file's end or the first fault.
unfoldable pub walk_of : ℕ → ByteOrder → List ℕ → ℕ → Walk
walk_of zero order s at = stays at
walk_of (suc most) order s at = cond (ltb at (length s)) (onward (next_of order s at) at (λ to. walk_of most order s to)) (stays at)

-- All records of a file: it has fewer than bytes.
unfoldable pub file_walk : ByteOrder → List ℕ → Walk
file_walk order s = walk_of (length s) order s 24

-- A walk without fault, or the fault and where its record starts.
unfoldable pub walked_of : Walk → Header → Answer Header
walked_of w header = cond (eqb w.fault 0) (Given header) (Refused w.fault w.next)

abbrev pub whole_of : Answer Header → List ℕ → Answer Header
whole_of (Given header) s = walked_of (file_walk header.order s) header
whole_of (Refused number place) s = Refused number place

-- "looked for in file order through the whole file".
unfoldable pub opened_of : List ℕ → Answer Header
opened_of s = whole_of (header_of s) s

-- "cut by the capturing machine (captured length below original)".
unfoldable pub is_cut : Rec → Bool
is_cut r = ltb r.captured r.original

-- The captured bytes of a record.
unfoldable pub frame_of : List ℕ → Rec → List ℕ
frame_of s r = take r.captured (drop r.from s)

-- How many records a test holds of.
unfoldable pub counted : (Rec → Bool) → List Rec → ℕ
counted f [] = 0
counted f (r ∷ rs) = cond (f r) 1 0 + counted f rs
