-- Status 0 is no refusal's: every refusal that `compile` and `evaluate` give has one of the numbers 1 to 19.
use Prim.Native.Nat.{ℕ, ◌+◌, ◌*◌, ◌<◌, ◌≤◌}
use mathlib.Core.Path.{◌≡◌, refl, sym}
use mathlib.Core.List.{List, [], ◌∷◌, ◌++◌}
use mathlib.Core.Bool.{Bool, true, false, not, cond, true≢false}
use native.Mathlib.Omega.{arith}
use borrow.Author.Tests.{ltb-true, eqb-false}
use lib.Dec.{eqb, ltb}
use lib.ListN.{length}
use Rattle.std.specs.Prelude.{Option, Some, None}
use Rattle.filter.specs.declared.sheet.Counts.{Counts}
use Rattle.ebpf.specs.declared.insn.Insn.{Insn}
use Rattle.tree.specs.Tree.{Tree, depth, tree_of}
use Rattle.tree.specs.Tree.Tree.{leaf, and, or, inv}
use Rattle.filter.specs.Ast.{link_of}
use Rattle.filter.specs.First.{first}
use Rattle.filter.specs.Record.{decode_at}
use Rattle.filter.specs.Sheet.{counts, sections_of, steps_part, prims_part, tokens_part}
use Rattle.filter.specs.declared.ast.LinkType.{LinkType}
use Rattle.filter.proofs.Firsts.{first_passes}
use Rattle.checks.specs.Check.{far_offset, shift_at, lowest_wrong, complete, check_accesses, check_parts, check_sections, check_of, steps_before}
use Rattle.checks.specs.Refusal.{refusal, refusal_at}
use Rattle.checks.specs.Measure.{measured, measure_of, roomed, admit_of}
use Rattle.refusals.specs.Refusal.{Answer}
use Rattle.refusals.specs.Refusal.Answer.{Refused, Given}
use Rattle.checks.specs.declared.measure.Measured.{Measured}
use Rattle.meaning.specs.Evaluate.{expression_holds, first_refused, judge, evaluated, evaluate_of}
use Rattle.patches.specs.Chain.{Patched}
use Rattle.std.specs.Prelude.{Ok, Err}
use Rattle.patches.specs.Chain.{too_far}
use Rattle.patches.specs.Chain.{reach}
use Rattle.patches.specs.Machine.{Tpl}
use Rattle.patches.specs.Machine.Tpl.{code, refused}
use Rattle.patches.specs.Listing.{ResL, CompL, when_l, on_leaf_l, and_done_l, and_right_l, or_done_l, or_right_l, not_done_l, emit_l, end_l, ended_l, res_comp_l, compile_l, listed, resolved_l}
use Rattle.patches.specs.Listing.ResL.{fail_l, ok_l}
use Rattle.patches.specs.Listing.CompL.{stopped_l, made_l}
use Rattle.patches.specs.Operators.{ja}
use Rattle.patches.specs.Whole.{prologue, epilogue}
use Rattle.generator.specs.Template.{template_of, template}
use Rattle.generator.specs.Compile.{outcome, outcome_of, answer_of}
use Rattle.generator.specs.Compile.Outcome.{late}
use Rattle.bromaveluth.proofs.Earned.{either, at_most}
use Rattle.bromaveluth.specs.Boundary.{status}

abbrev pub Number : ℕ → Type 0
Number n = (0 < n) × (n ≤ 19)

-- In each answer on the way the number of a refusal, if it is one, is one of document 01's.
abbrev pub Numbered : {A : Type 0} → Answer A → Type 0
Numbered (Refused number place) = Number number
Numbered (Given x) = Unit {0}

abbrev pub Templates : Tpl → Type 0
Templates (code xs) = Unit {0}
Templates (refused c) = Number c

abbrev pub Emits : ResL → Type 0
Emits (fail_l c i) = Number c
Emits (ok_l is k sp fp) = Unit {0}

abbrev pub Makes : CompL → Type 0
Makes (stopped_l c i) = Number c
Makes (made_l is) = Unit {0}

-- Refusals 1 to 6.
accesses : (link : LinkType) (steps prims : List ℕ) (a b c : ℕ) → Numbered (check_accesses link steps prims a b c)
unfolding check_accesses
accesses link steps prims a b c =
    let x = first (far_offset link prims) b 0 in
    let y = first (shift_at steps prims) b 0 in
    either {A = Answer Counts} Numbered (ltb x b) (Refused 5 x) (cond (ltb y b) (Refused 6 y) (Given (counts a b c))) (λ e. (omega arith, omega arith))
    (λ e. either {A = Answer Counts} Numbered (ltb y b) (Refused 6 y) (Given (counts a b c)) (λ e. (omega arith, omega arith)) (λ e. tt))

parts : (link : LinkType) (steps prims tokens : List ℕ) (a b c : ℕ) → Numbered (check_parts link steps prims tokens a b c)
unfolding check_parts
parts link steps prims tokens a b c =
    either {A = Answer Counts} Numbered (ltb (lowest_wrong steps prims tokens a b c) (5 * a + 24 * b + c + 6)) (Refused 3 (lowest_wrong steps prims tokens a b c)) (cond (complete prims tokens a b) (check_accesses link steps prims a b c) (Refused 4 0)) (λ e. (omega arith, omega arith))
    (λ e. either {A = Answer Counts} Numbered (complete prims tokens a b) (check_accesses link steps prims a b c) (Refused 4 0) (λ e. accesses link steps prims a b c) (λ e. (omega arith, omega arith)))

sections : (link : LinkType) (s : List ℕ) (x : Option Counts) → Numbered (check_sections link s x)
unfolding check_sections
sections link s (Some n) =
    parts link (steps_part s n.steps) (prims_part s n.steps n.prims) (tokens_part s n.steps n.prims n.tokens) n.steps n.prims n.tokens
sections link s None = (omega arith, omega arith)

pub checks : (s : List ℕ) (link : ℕ) → Numbered (check_of s link)
unfolding check_of
checks s link =
    either {A = Answer Counts} Numbered (ltb 2 link) (Refused 1 0) (check_sections (link_of link) s (sections_of s)) (λ e. (omega arith, omega arith)) (λ e. sections (link_of link) s (sections_of s))

-- Refusals 7 and 8.
of_checked : (k : Answer Counts) → Numbered k → (s : List ℕ) (link : ℕ) → Numbered (measured k s link)
unfolding measured
of_checked (Refused number place) h s link = h
of_checked (Given n) h s link = tt

of_room : (m : Answer Measured) → Numbered m → (output work : ℕ) → Numbered (roomed m output work)
unfolding roomed
of_room (Refused number place) h output work = h
of_room (Given m) h output work =
    either {A = Answer Measured} Numbered (ltb output (8 * m.length)) (Refused 7 0) (cond (ltb work (m.length + 8 * m.counts.tokens)) (Refused 8 0) (Given m)) (λ e. (omega arith, omega arith))
    (λ e. either {A = Answer Measured} Numbered (ltb work (m.length + 8 * m.counts.tokens)) (Refused 8 0) (Given m) (λ e. (omega arith, omega arith)) (λ e. tt))

pub admits : (s : List ℕ) (link mode output work : ℕ) → Numbered (admit_of s link mode output work)
unfolding admit_of measure_of
admits s link mode output work =
    either {A = Answer Measured} Numbered (ltb 1 mode) (Refused 1 0) (roomed (measured (check_of s link) s link) output work) (λ e. (omega arith, omega arith))
    (λ e. of_room (measured (check_of s link) s link) (of_checked (check_of s link) (checks s link) s link) output work)

-- Refusals 10 to 19 of the generator.
above : (n : ℕ) → (n ≡ 0 → ⊥) → 0 < n
above n h = omega (arith, h)

pub templates : (mode : ℕ) (link : LinkType) (steps prims : List ℕ) (k : ℕ) → Templates (template mode link steps prims k)
unfolding template template_of
templates mode link steps prims k =
    let r = refusal link steps (steps_before prims k) (decode_at prims (24 * k)) in
    either Templates (eqb r 0) _ (refused r) (λ e. tt) (λ e. (above r (eqb-false r 0 e), at_most link steps (steps_before prims k) (decode_at prims (24 * k))))

leaves : (t : Tpl) → Templates t → (k : ℕ) (is : List Insn) → Emits (on_leaf_l t k is)
leaves (code xs) h k is = tt
leaves (refused c) h k is = h

when : (p : Patched) (r : ResL) → Emits r → Emits (when_l p r)
when (Err _) r h = (omega arith, omega arith)
when (Ok _) r h = h

and_done : (kept : List ℕ) (r : ResL) → Emits r → Emits (and_done_l kept r)
and_done kept (fail_l c i) h = h
and_done kept (ok_l is k sp fp) h = tt

or_done : (kept : List ℕ) (r : ResL) → Emits r → Emits (or_done_l kept r)
or_done kept (fail_l c i) h = h
or_done kept (ok_l is k sp fp) h = tt

and_right : (r : ResL) → Emits r → (right : ℕ → List Insn → ResL) → ((k : ℕ) (is : List Insn) → Emits (right k is)) → Emits (and_right_l r right)
and_right (fail_l c i) h right more = h
and_right (ok_l is k sp fp) h right more =
    let is' = resolved_l (length is) sp is in
    when (reach (length is) sp) (and_done_l fp (right k is')) (and_done fp (right k is') (more k is'))

or_right : (r : ResL) → Emits r → (right : ℕ → List Insn → ResL) → ((k : ℕ) (is : List Insn) → Emits (right k is)) → Emits (or_right_l r right)
or_right (fail_l c i) h right more = h
or_right (ok_l is k sp fp) h right more =
    let is' = resolved_l (length is + 1) fp (is ++ (ja ∷ [])) in
    when (reach (length is + 1) fp) (or_done_l (length is ∷ sp) (right k is')) (or_done (length is ∷ sp) (right k is') (more k is'))

not_done : (r : ResL) → Emits r → Emits (not_done_l r)
not_done (fail_l c i) h = h
not_done (ok_l is k sp fp) h = when (reach (length is + 1) fp) (ok_l (resolved_l (length is + 1) fp (is ++ (ja ∷ []))) k [] (length is ∷ sp)) tt

emits : (tpl : ℕ → Tpl) → ((k : ℕ) → Templates (tpl k)) → (t : Tree) (k : ℕ) (is : List Insn) → Emits (emit_l tpl t k is)
unfolding emit_l
emits tpl h leaf k is = leaves (tpl k) (h k) k is
emits tpl h (and a b) k is = and_right (emit_l tpl a k is) (emits tpl h a k is) (λ k' is'. emit_l tpl b k' is') (λ k' is'. emits tpl h b k' is')
emits tpl h (or a b) k is = or_right (emit_l tpl a k is) (emits tpl h a k is) (λ k' is'. emit_l tpl b k' is') (λ k' is'. emits tpl h b k' is')
emits tpl h (inv a) k is = not_done (emit_l tpl a k is) (emits tpl h a k is)

ends : (p q : Patched) (is : List Insn) → Makes (end_l p q is)
ends (Err _) q is = (omega arith, omega arith)
ends (Ok _) (Err _) is = (omega arith, omega arith)
ends (Ok _) (Ok _) is = tt

of_emitted : (r : ResL) → Emits r → Makes (res_comp_l r)
unfolding ended_l
of_emitted (fail_l c i) h = h
of_emitted (ok_l is k sp fp) h =
    ends (reach (length is) sp) (reach (length is + 2) fp) (resolved_l (length is + 2) fp (resolved_l (length is) sp (listed epilogue is)))

makes : (tpl : ℕ → Tpl) → ((k : ℕ) → Templates (tpl k)) → (t : Tree) → Makes (compile_l tpl t)
unfolding compile_l
makes tpl h t = of_emitted (emit_l tpl t 0 (listed prologue [])) (emits tpl h t 0 (listed prologue []))

late_answers : (l c : ℕ) (x : CompL) → Makes x → Numbered (answer_of (late l c x))
unfolding answer_of
late_answers l c (stopped_l number place) h = h
late_answers l c (made_l is) h = tt

of_measured : (m : Answer Measured) → Numbered m → (s : List ℕ) (link mode : ℕ) → Numbered (answer_of (outcome m s link mode))
unfolding outcome answer_of
of_measured (Refused number place) h s link mode = h
of_measured (Given m) h s link mode =
    let n = m.counts in
    let tpl = template mode (link_of link) (steps_part s n.steps) (prims_part s n.steps n.prims) in
    let tree = tree_of (tokens_part s n.steps n.prims n.tokens) in
    late_answers m.length n.tokens (compile_l tpl tree) (makes tpl (templates mode (link_of link) (steps_part s n.steps) (prims_part s n.steps n.prims)) tree)

-- The number of every refusal of `compile` is one of 1 to 19.
pub answers : (s : List ℕ) (link mode output work : ℕ) → Numbered (answer_of (outcome_of s link mode output work))
unfolding outcome_of
answers s link mode output work = of_measured (admit_of s link mode output work) (admits s link mode output work) s link mode

accepted : (x : Answer ℕ) → Numbered x → status x ≡ 0 → (l : ℕ) × (x ≡ Given l)
unfolding status
accepted (Refused number place) h e = absurd (omega (arith, h.0))
accepted (Given l) h e = (l, refl)

-- `bromaveluth_compile` returns 0 exactly when the sheet is accepted.
pub zero_accepts : (s : List ℕ) (link mode output work : ℕ) → status (answer_of (outcome_of s link mode output work)) ≡ 0
    → (l : ℕ) × (answer_of (outcome_of s link mode output work) ≡ Given l)
zero_accepts s link mode output work = accepted (answer_of (outcome_of s link mode output work)) (answers s link mode output work)

-- The evaluator's refusals: 9, and 11 to 19 of the first primitive that earns one.
earned : (n : ℕ) → not (eqb n 0) ≡ true → 0 < n
earned n e = go (eqb n 0) refl e
  where
    go : (b : Bool) → eqb n 0 ≡ b → not b ≡ true → 0 < n
    go true f g = absurd (true≢false (sym g))
    go false f g = above n (eqb-false n 0 f)

record_most : (link : LinkType) (steps prims : List ℕ) (k : ℕ) → refusal_at link steps prims k ≤ 19
unfolding refusal_at
record_most link steps prims k = at_most link steps (steps_before prims k) (decode_at prims (24 * k))

judges : (link : LinkType) (steps prims tokens : List ℕ) (b : ℕ) (f : List ℕ) → Numbered (judge link steps prims tokens b f)
unfolding judge first_refused
judges link steps prims tokens b f =
    let x = first (λ k. not (eqb (refusal_at link steps prims k) 0)) b 0 in
    let said = Given (expression_holds link steps prims tokens f) in
    let told = Refused (refusal_at link steps prims x) x in
    either {A = Answer Bool} Numbered (ltb 256 (depth (tree_of tokens))) (Refused 9 0) (cond (ltb x b) told said) (λ e. (omega arith, omega arith))
    (λ e. either {A = Answer Bool} Numbered (ltb x b) told said
    (λ e. (
      earned (refusal_at link steps prims x) (first_passes (λ k. not (eqb (refusal_at link steps prims k) 0)) b 0 (let h = ltb-true x b e in omega (arith, h))),
      record_most link steps prims x,
    ))
    (λ e. tt))

of_sheet : (k : Answer Counts) → Numbered k → (link : LinkType) (s f : List ℕ) → Numbered (evaluated k link s f)
unfolding evaluated
of_sheet (Refused number place) h link s f = h
of_sheet (Given n) h link s f =
    judges link (steps_part s n.steps) (prims_part s n.steps n.prims) (tokens_part s n.steps n.prims n.tokens) n.prims f

-- The number of every refusal of `evaluate` is one of 1 to 19.
pub tells : (s : List ℕ) (link : ℕ) (f : List ℕ) → Numbered (evaluate_of s link f)
unfolding evaluate_of
tells s link f = of_sheet (check_of s link) (checks s link) (link_of link) s f

judged : (x : Answer Bool) → Numbered x → status x ≡ 0 → (holds : Bool) × (x ≡ Given holds)
unfolding status
judged (Refused number place) h e = absurd (omega (arith, h.0))
judged (Given holds) h e = (holds, refl)

-- `bromaveluth_evaluate` returns 0 exactly when the sheet is judged.
pub zero_judges : (s : List ℕ) (link : ℕ) (f : List ℕ) → status (evaluate_of s link f) ≡ 0
    → (holds : Bool) × (evaluate_of s link f ≡ Given holds)
zero_judges s link f = judged (evaluate_of s link f) (tells s link f)
