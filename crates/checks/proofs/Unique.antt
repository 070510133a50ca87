-- Any two answers that a public function's contract allows are equal: the result, and the last value of everything lent.
use mathlib.Core.Path.{refl, sym, ◌∙◌}
use Rattle.unique.proofs.Unique.{Unique, by_result, unique, plain}
use Rattle.refusals.proofs.Numbers.{one_told, one_earned}
use Rattle.checks.specs.contracts as crate

pub takes_steps : Unique crate.check.takes_steps.ended (λ M 𝓤 𝓛. crate.check.takes_steps.clauses 𝓛)
takes_steps = by_result _ (λ κs a ws ws'. refl)

pub steps_before : Unique crate.check.steps_before.ended (λ M 𝓤 𝓛. crate.check.steps_before.clauses 𝓛)
steps_before = by_result _ (λ κs a ws ws'. refl)

pub is_complete : Unique crate.check.is_complete.ended (λ M 𝓤 𝓛. crate.check.is_complete.clauses 𝓛)
is_complete = by_result _ (λ κs a ws ws'. refl)

pub far_offset : Unique crate.check.far_offset.ended (λ M 𝓤 𝓛. crate.check.far_offset.clauses 𝓛)
far_offset = by_result _ (λ κs a ws ws'. refl)

pub first_far : Unique crate.check.first_far.ended (λ M 𝓤 𝓛. crate.check.first_far.clauses 𝓛)
first_far = by_result _ (λ κs a ws ws'. refl)

pub big_shift : Unique crate.check.big_shift.ended (λ M 𝓤 𝓛. crate.check.big_shift.clauses 𝓛)
big_shift = by_result _ (λ κs a ws ws'. refl)

pub shift_in : Unique crate.check.shift_in.ended (λ M 𝓤 𝓛. crate.check.shift_in.clauses 𝓛)
shift_in = by_result _ (λ κs a ws ws'. refl)

pub first_shift : Unique crate.check.first_shift.ended (λ M 𝓤 𝓛. crate.check.first_shift.clauses 𝓛)
first_shift = by_result _ (λ κs a ws ws'. refl)

pub check_parts : Unique crate.check.check_parts.ended (λ M 𝓤 𝓛. crate.check.check_parts.clauses 𝓛)
check_parts = unique (plain _) (λ κs a r r' ws ws' p q. (one_told r r' (p ∙ sym q), refl))

pub check_whole : Unique crate.check.check_whole.ended (λ M 𝓤 𝓛. crate.check.check_whole.clauses 𝓛)
check_whole = unique (plain _) (λ κs a r r' ws ws' p q. (one_told r r' (p ∙ sym q), refl))

pub check_sheet : Unique crate.check.check_sheet.ended (λ M 𝓤 𝓛. crate.check.check_sheet.clauses 𝓛)
check_sheet = unique (plain _) (λ κs a r r' ws ws' p q. (one_told r r' (p ∙ sym q), refl))

pub check_sheet_mode : Unique crate.check.check_sheet_mode.ended (λ M 𝓤 𝓛. crate.check.check_sheet_mode.clauses 𝓛)
check_sheet_mode = unique (plain _) (λ κs a r r' ws ws' p q. (one_told r r' (p ∙ sym q), refl))

pub count_of : Unique crate.length.count_of.ended (λ M 𝓤 𝓛. crate.length.count_of.clauses 𝓛)
count_of = by_result _ (λ κs a ws ws'. refl)

pub size_of : Unique crate.length.size_of.ended (λ M 𝓤 𝓛. crate.length.size_of.clauses 𝓛)
size_of = by_result _ (λ κs a ws ws'. refl)

pub sizes_of : Unique crate.length.sizes_of.ended (λ M 𝓤 𝓛. crate.length.sizes_of.clauses 𝓛)
sizes_of = unique (plain _) (λ κs a r r' ws ws' p q. (p.0 ∙ sym q.0, refl))

pub jumps_of : Unique crate.length.jumps_of.ended (λ M 𝓤 𝓛. crate.length.jumps_of.clauses 𝓛)
jumps_of = unique (plain _) (λ κs a r r' ws ws' p q. (p.0 ∙ sym q.0, refl))

pub program_length : Unique crate.length.program_length.ended (λ M 𝓤 𝓛. crate.length.program_length.clauses 𝓛)
program_length = by_result _ (λ κs a ws ws'. refl)

pub measure : Unique crate.measure.measure.ended (λ M 𝓤 𝓛. crate.measure.measure.clauses 𝓛)
measure = unique (plain _) (λ κs a r r' ws ws' p q. (one_told r r' (p ∙ sym q), refl))

pub admit : Unique crate.measure.admit.ended (λ M 𝓤 𝓛. crate.measure.admit.clauses 𝓛)
admit = unique (plain _) (λ κs a r r' ws ws' p q. (one_told r r' (p ∙ sym q), refl))

pub refusal_of : Unique crate.refusal.refusal_of.ended (λ M 𝓤 𝓛. crate.refusal.refusal_of.clauses 𝓛)
refusal_of = unique (plain _) (λ κs a r r' ws ws' p q. (one_earned r r' (p ∙ sym q), refl))
