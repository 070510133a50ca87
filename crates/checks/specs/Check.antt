-- Refusals 1 to 6, over the parts of the sheet: the steps, the primitives and the tokens, a, b and c in number.
use Rattle.std.specs.Prelude.{ℕ, zero, suc, ◌+◌, ◌-◌, ◌*◌, List, Bool, true, false, cond, ◌&&◌, ◌||◌, get_or, eqb, ltb, leb, Option, Some, None}
use Rattle.filter.specs.declared.sheet.Counts.{Counts}
use Rattle.filter.specs.Bytes.{be2}
use Rattle.filter.specs.Ast.{link_of, net_offset}
use Rattle.filter.specs.First.{first, any}
use Rattle.filter.specs.Record.{access_at, step_at}
use Rattle.filter.specs.Sheet.{counts, sections_of, steps_part, prims_part, tokens_part}
use Rattle.filter.specs.Wrong.{record_wrong, step_wrong, token_wrong}
use Rattle.filter.specs.declared.ast.LinkType.{LinkType}
use Rattle.filter.specs.declared.ast.Layer.{Layer}
use Rattle.filter.specs.declared.ast.Layer.TheVariants.{Raw, Net, Trans}
use Rattle.filter.specs.declared.ast.ArithOp.{ArithOp}
use Rattle.filter.specs.declared.ast.ArithOp.TheVariants.{Add, Sub, Mul, Div, Mod, And, Or, Xor, Shl, Shr}
use Rattle.filter.specs.declared.ast.ByteAccess.{ByteAccess}
use Rattle.tree.specs.Shape.{shape_of}
use Rattle.refusals.specs.Refusal.{Answer}
use Rattle.refusals.specs.Refusal.Answer.{Refused, Given}

-- byte j of the sheet lies in the part of n bytes that starts at `from`, and is wrong there
unfoldable pub wrong_in : ℕ → ℕ → (ℕ → Bool) → ℕ → Bool
wrong_in from n wrong j = (leb from j && ltb j (from + n)) && wrong (j - from)

-- byte j of the sheet is wrong: "a code or unused byte", of a step, a primitive or a token
unfoldable pub sheet_wrong : List ℕ → List ℕ → List ℕ → ℕ → ℕ → ℕ → ℕ → Bool
sheet_wrong steps prims tokens a b c j =
    wrong_in 2 (5 * a) (step_wrong steps) j
    || wrong_in (5 * a + 4) (24 * b) (record_wrong prims) j
    || wrong_in (5 * a + 24 * b + 6) c (token_wrong tokens) j

-- Refusal 3, "lowest wrong byte": counted from the sheet's first byte; the sheet's length if there is none
unfoldable pub lowest_wrong : List ℕ → List ℕ → List ℕ → ℕ → ℕ → ℕ → ℕ
lowest_wrong steps prims tokens a b c = first (sheet_wrong steps prims tokens a b c) (5 * a + 24 * b + c + 6) 0

-- "12-13 how many steps it takes next from the steps section", of record i
unfoldable pub takes : List ℕ → ℕ → ℕ
takes prims i = cond (eqb (get_or prims (24 * i) 0) 23) (be2 prims (24 * i + 12)) 0

-- how many steps the first i records take, which is the first step of record i
unfoldable pub steps_before : List ℕ → ℕ → ℕ
steps_before prims zero = 0
steps_before prims (suc i) = steps_before prims i + takes prims i

-- the tokens are one whole tree, with b primitives
unfoldable pub one_tree : Option ℕ → ℕ → Bool
one_tree (Some leaves) b = eqb leaves b
one_tree None b = false

-- Refusal 4, if not: "tokens are not one whole tree, or primitives or steps are left over or lacking"
unfoldable pub complete : List ℕ → List ℕ → ℕ → ℕ → Bool
complete prims tokens a b = one_tree (shape_of tokens) b && eqb (steps_before prims b) a

-- "(Net: plus the header offset)"
unfoldable pub base_of : LinkType → Layer → ℕ
base_of link Raw = 0
base_of link Net = net_offset link
base_of link Trans = 0

-- "a byte access's left offset is negative as given, or above 32767 (Net: plus the header offset)": a signed number's bits are negative from 2^31 on
unfoldable pub far : LinkType → ByteAccess → Bool
far link x = leb 2147483648 x.offset || ltb 32767 (x.offset + base_of link x.layer)

-- Refusal 5, of record i
unfoldable pub far_offset : LinkType → List ℕ → ℕ → Bool
far_offset link prims i = cond (eqb (get_or prims (24 * i) 0) 23) (far link (access_at prims (24 * i))) false

-- the two shifts
unfoldable pub shifts : ArithOp → Bool
shifts Add = false
shifts Sub = false
shifts Mul = false
shifts Div = false
shifts Mod = false
shifts And = false
shifts Or = false
shifts Xor = false
shifts Shl = true
shifts Shr = true

-- "a shift by 32 or more", of step j
unfoldable pub big_shift : List ℕ → ℕ → Bool
big_shift steps j = shifts (step_at steps (5 * j)).op && leb 32 (step_at steps (5 * j)).operand

-- Refusal 6, of record i: one of the steps that it takes
unfoldable pub shift_at : List ℕ → List ℕ → ℕ → Bool
shift_at steps prims i = any (big_shift steps) (takes prims i) (steps_before prims i)

-- "5 is looked for in the whole sheet before 6", each at the "first such primitive"
unfoldable pub check_accesses : LinkType → List ℕ → List ℕ → ℕ → ℕ → ℕ → Answer Counts
check_accesses link steps prims a b c =
    let x = first (far_offset link prims) b 0 in
    let y = first (shift_at steps prims) b 0 in
    cond (ltb x b) (Refused 5 x) (cond (ltb y b) (Refused 6 y) (Given (counts a b c)))

-- refusals 3 and 4, and what is found further on where there is neither
abbrev pub whole_parts : List ℕ → List ℕ → List ℕ → ℕ → ℕ → ℕ → Answer Counts → Answer Counts
whole_parts steps prims tokens a b c further =
    let x = lowest_wrong steps prims tokens a b c in
    cond (ltb x (5 * a + 24 * b + c + 6)) (Refused 3 x)
    (cond (complete prims tokens a b) further (Refused 4 0))

-- refusals 3 to 6
unfoldable pub check_parts : LinkType → List ℕ → List ℕ → List ℕ → ℕ → ℕ → ℕ → Answer Counts
check_parts link steps prims tokens a b c = whole_parts steps prims tokens a b c (check_accesses link steps prims a b c)

-- Refusal 2: "sheet length differs from what its counts ask, or a count is cut"; else its three parts
unfoldable pub check_sections : LinkType → List ℕ → Option Counts → Answer Counts
check_sections link s (Some n) =
    check_parts link (steps_part s n.steps) (prims_part s n.steps n.prims) (tokens_part s n.steps n.prims n.tokens) n.steps n.prims n.tokens
check_sections link s None = Refused 2 0

-- refusals 2 to 4, for which no link is asked
unfoldable pub whole_sections : List ℕ → Option Counts → Answer Counts
whole_sections s (Some n) =
    whole_parts (steps_part s n.steps) (prims_part s n.steps n.prims) (tokens_part s n.steps n.prims n.tokens)
    n.steps n.prims n.tokens (Given n)
whole_sections s None = Refused 2 0

unfoldable pub whole_of : List ℕ → Answer Counts
whole_of s = whole_sections s (sections_of s)

-- Refusal 1: "a link above 2"
unfoldable pub check_of : List ℕ → ℕ → Answer Counts
check_of s link = cond (ltb 2 link) (Refused 1 0) (check_sections (link_of link) s (sections_of s))

-- Refusal 1: "a link above 2 or a mode above 1"
unfoldable pub check_mode_of : List ℕ → ℕ → ℕ → Answer Counts
check_mode_of s link mode = cond (ltb 1 mode) (Refused 1 0) (check_of s link)
