-- Refusal 3, "a code or unused byte is wrong". A byte of a record is wrong when it is above the most, or below the least, that its kind allows there.
use Rattle.std.specs.Prelude.{ℕ, ◌+◌, ◌*◌, ◌/◌, ◌%◌, List, [], ◌∷◌, Bool, false, cond, ◌&&◌, ◌||◌, get_or, eqb, ltb, leb}

-- by kind, from 0 on (no kind): byte 1, "direction (`Dir` order, 0 to 3)", in the kinds that name it
abbrev pub dir_table : List ℕ
dir_table = 0 ∷ 3 ∷ 3 ∷ 3 ∷ 3 ∷ 3 ∷ 3 ∷ 0 ∷ 3 ∷ []

-- by kind: byte 2, "p is a `Proto`, 1 to 12 in its order, and 0 for none", "p prefix", "p 1 .. p 0", "(p)", "p is a `CmpOp`, 0 to 6"
abbrev pub p_table : List ℕ
p_table = 0 ∷ 0 ∷ 0 ∷ 12 ∷ 12 ∷ 0 ∷ 255 ∷ 12 ∷ 0 ∷ 0 ∷ 0 ∷ 0 ∷ 0 ∷ 0 ∷ 1 ∷ 1 ∷ 0 ∷ 1 ∷ 255 ∷ 255 ∷ 6 ∷ []

-- byte 3, "q is the number of 11 and 12, else zero", in kinds 3, 4 and 7
abbrev pub q_table : List ℕ
q_table = 0 ∷ 0 ∷ 0 ∷ 255 ∷ 255 ∷ 0 ∷ 0 ∷ 255 ∷ []

unfoldable pub q_most : ℕ → ℕ → ℕ
q_most k p = cond (ltb p 11) 0 (get_or q_table k 0)

-- by kind: the first byte that it uses from byte 4 on: 4 for n, 6 for "n to 65535", 8 for a
abbrev pub from_table : List ℕ
from_table = 0 ∷ 4 ∷ 8 ∷ 6 ∷ 4 ∷ 4 ∷ 8 ∷ 0 ∷ 8 ∷ 6 ∷ 0 ∷ 0 ∷ 0 ∷ 0 ∷ 6 ∷ 4 ∷ 0 ∷ 6 ∷ 0 ∷ 0 ∷ 4 ∷ []

-- by kind: the byte after the last that it uses: 8 for n, 12 for "mask in 8-11", 14 for "8-13", 24 for a
abbrev pub to_table : List ℕ
to_table = 0 ∷ 8 ∷ 24 ∷ 8 ∷ 8 ∷ 12 ∷ 24 ∷ 0 ∷ 14 ∷ 8 ∷ 0 ∷ 0 ∷ 0 ∷ 0 ∷ 8 ∷ 8 ∷ 0 ∷ 8 ∷ 0 ∷ 0 ∷ 8 ∷ []

-- "Fields not named are zero": a used byte may be anything
unfoldable pub field_most : ℕ → ℕ → ℕ
field_most k i = cond (leb (get_or from_table k 0) i) (cond (ltb i (get_or to_table k 0)) 255 0) 0

-- Vlan, Mpls and PppoeSession, whose p says whether there is a number
unfoldable pub optional : ℕ → Bool
optional k = eqb k 14 || (eqb k 15 || eqb k 17)

-- "p 0: none, n 0"
unfoldable pub number_most : ℕ → ℕ → ℕ → ℕ
number_most k p i = cond (eqb p 0 && optional k) 0 (field_most k i)

-- the most that byte i may be, in a record of kind 1 to 22 with byte 2 at p
unfoldable pub plain_most : ℕ → ℕ → ℕ → ℕ
plain_most k p i =
    cond (eqb i 0) 23
    (cond (eqb i 1) (get_or dir_table k 0)
    (cond (eqb i 2) (get_or p_table k 0)
    (cond (eqb i 3) (q_most k p)
    (number_most k p i))))

-- kind 23 with 14 at 0: "constant in 8-11", "12-13 how many steps"
abbrev pub const_table : List ℕ
const_table =
    23 ∷ 2 ∷ 6 ∷ 2 ∷ 255 ∷ 255 ∷ 255 ∷ 255 ∷ 255 ∷ 255 ∷ 255 ∷ 255 ∷ 255 ∷ 255 ∷ 1 ∷ 0 ∷ 0 ∷ 0 ∷ 0 ∷ 0 ∷ 0 ∷ 0 ∷ 0 ∷ 0 ∷ []

-- kind 23 with 14 at 1: "a load: layer 15, size 16, same codes, any offset 17-20; 8-11 zero"
abbrev pub load_table : List ℕ
load_table =
    23 ∷ 2 ∷ 6 ∷ 2 ∷ 255 ∷ 255 ∷ 255 ∷ 255 ∷ 0 ∷ 0 ∷ 0 ∷ 0 ∷ 255 ∷ 255 ∷ 1 ∷ 2 ∷ 2 ∷ 255 ∷ 255 ∷ 255 ∷ 255 ∷ 0 ∷ 0 ∷ 0 ∷ []

-- "if 14 is neither, it is the only fault looked for in 8-23"
abbrev pub other_table : List ℕ
other_table =
    23 ∷ 2 ∷ 6 ∷ 2 ∷ 255 ∷ 255 ∷ 255 ∷ 255 ∷ 255 ∷ 255 ∷ 255 ∷ 255 ∷ 255 ∷ 255 ∷ 1 ∷ 255 ∷ 255 ∷ 255 ∷ 255 ∷ 255 ∷ 255 ∷ 255 ∷ 255 ∷ 255 ∷ []

-- the most that byte i may be, in a record of kind 23 with byte 14 at l
unfoldable pub access_most : ℕ → ℕ → ℕ
access_most l i = cond (eqb l 0) (get_or const_table i 0) (cond (eqb l 1) (get_or load_table i 0) (get_or other_table i 0))

-- the most that byte i may be, by the record's kind k, its byte 2 and its byte 14
unfoldable pub most : ℕ → ℕ → ℕ → ℕ → ℕ
most k p l i = cond (eqb k 23) (access_most l i) (plain_most k p i)

-- the least that byte i may be: kinds start at 1, and in kind 7 p is not 0
unfoldable pub least : ℕ → ℕ → ℕ
least k i = cond (eqb i 0) 1 (cond (eqb i 2) (cond (eqb k 7) 1 0) 0)

-- byte i of the record at a place is wrong
unfoldable pub wrong_byte : List ℕ → ℕ → ℕ → Bool
wrong_byte s at i =
    let k = get_or s at 0 in
    ltb (get_or s (at + i) 0) (least k i) || ltb (most k (get_or s (at + 2) 0) (get_or s (at + 14) 0) i) (get_or s (at + i) 0)

-- byte j of the primitives is wrong: each 24 bytes are a record
unfoldable pub record_wrong : List ℕ → ℕ → Bool
record_wrong s j = wrong_byte s (24 * (j / 24)) (j % 24)

-- byte j of the steps is wrong: each 5 bytes start with an "operator 0 to 9"
unfoldable pub step_wrong : List ℕ → ℕ → Bool
step_wrong s j = cond (eqb (j % 5) 0) (ltb 9 (get_or s j 0)) false

-- byte j of the tree is wrong: "0 the next primitive, 1 And, 2 Or, 3 Not"
unfoldable pub token_wrong : List ℕ → ℕ → Bool
token_wrong s j = ltb 3 (get_or s j 0)
