-- The definitions, computed: magics and byte orders, and each refusal where document 02 says.
use Prim.Native.Nat.{ℕ}
use mathlib.Core.Path.{◌≡◌, refl}
use mathlib.Core.List.{List, [], ◌∷◌, ◌++◌}
use Rattle.savefile.specs.Savefile.{joined, opens, number_at, is_magic, magic_of, header_in, header_of, next_of, walk_of, file_walk, walked_of, opened_of}
use Rattle.refusals.specs.Refusal.Answer.{Refused, Given}
use Rattle.savefile.specs.declared.ByteOrder.TheVariants.{Big, Little}

abbrev big_micro : List ℕ
big_micro = 0xa1 ∷ 0xb2 ∷ 0xc3 ∷ 0xd4 ∷ []

abbrev little_nano : List ℕ
little_nano = 0x4d ∷ 0x3c ∷ 0xb2 ∷ 0xa1 ∷ []

-- Version, zone, accuracy and snap length are not looked at.
abbrev rest : List ℕ
rest = 0 ∷ 2 ∷ 0 ∷ 4 ∷ 0 ∷ 0 ∷ 0 ∷ 0 ∷ 0 ∷ 0 ∷ 0 ∷ 0 ∷ 0 ∷ 0 ∷ 0 ∷ 0 ∷ []

abbrev ethernet : List ℕ
ethernet = 0 ∷ 0 ∷ 0 ∷ 1 ∷ []

abbrev raw_ip : List ℕ
raw_ip = 101 ∷ 0 ∷ 0 ∷ 0 ∷ []

abbrev cooked : List ℕ
cooked = 113 ∷ 0 ∷ 0 ∷ 0 ∷ []

-- A record of two bytes, captured whole; its header alone; one that claims 16,385 bytes.
abbrev two_bytes : List ℕ
two_bytes = 0 ∷ 0 ∷ 0 ∷ 0 ∷ 0 ∷ 0 ∷ 0 ∷ 0 ∷ 0 ∷ 0 ∷ 0 ∷ 2 ∷ 0 ∷ 0 ∷ 0 ∷ 2 ∷ 7 ∷ 7 ∷ []

abbrev long_record : List ℕ
long_record = 0 ∷ 0 ∷ 0 ∷ 0 ∷ 0 ∷ 0 ∷ 0 ∷ 0 ∷ 0 ∷ 0 ∷ 64 ∷ 1 ∷ 0 ∷ 0 ∷ 64 ∷ 1 ∷ []

abbrev cut_header : List ℕ
cut_header = 0 ∷ 0 ∷ 0 ∷ 0 ∷ 0 ∷ 0 ∷ 0 ∷ 0 ∷ 0 ∷ 0 ∷ 64 ∷ 1 ∷ []

-- THEOREM: each row is an input and its answer.
pub checked :
    (opened_of (big_micro ++ rest ++ ethernet ++ two_bytes) ≡ Given (opens Big 0))
    × (opened_of (little_nano ++ rest ++ raw_ip) ≡ Given (opens Little 1))
    × (opened_of (little_nano ++ rest ++ cooked) ≡ Given (opens Little 2))
    × (opened_of [] ≡ Refused 42 0)
    × (opened_of (9 ∷ 9 ∷ 9 ∷ []) ≡ Refused 42 0)
    × (opened_of (9 ∷ 9 ∷ 9 ∷ 9 ∷ []) ≡ Refused 40 0)
    × (opened_of big_micro ≡ Refused 42 0)
    × (opened_of (big_micro ++ rest ++ raw_ip) ≡ Refused 41 20)
    × (opened_of (big_micro ++ rest ++ ethernet ++ two_bytes ++ cut_header) ≡ Refused 42 42)
    × (opened_of (big_micro ++ rest ++ ethernet ++ two_bytes ++ long_record) ≡ Refused 43 42)
    × (opened_of (big_micro ++ rest ++ ethernet ++ two_bytes ++ two_bytes ++ (0 ∷ [])) ≡ Refused 42 60)
unfolding opened_of header_of magic_of is_magic number_at joined header_in walked_of file_walk walk_of next_of
checked = (refl, refl, refl, refl, refl, refl, refl, refl, refl, refl, refl)
