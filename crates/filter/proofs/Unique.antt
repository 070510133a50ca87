-- Any two answers that a public function's contract allows are equal: the result, and the last value of everything lent.
use Prim.Native.Nat.{ℕ}
use mathlib.Core.List.{List}
use mathlib.Core.Path.{refl, sym, ◌∙◌}
use Rattle.unique.proofs.Unique.{Unique, by_result, UniqueIn, unique_in, plain, beside}
use Rattle.filter.specs.contracts as crate

pub ether_proto_offset : Unique crate.ast.LinkType.ether_proto_offset.ended (λ M 𝓤 𝓛. crate.ast.LinkType.ether_proto_offset.clauses 𝓛)
ether_proto_offset = by_result _ (λ κs a ws ws'. refl)

pub net_offset : Unique crate.ast.LinkType.net_offset.ended (λ M 𝓤 𝓛. crate.ast.LinkType.net_offset.clauses 𝓛)
net_offset = by_result _ (λ κs a ws ws'. refl)

pub has_macs : Unique crate.ast.LinkType.has_macs.ended (λ M 𝓤 𝓛. crate.ast.LinkType.has_macs.clauses 𝓛)
has_macs = by_result _ (λ κs a ws ws'. refl)

pub ast-LinkTypeFromU8-from : Unique crate.ast.LinkTypeFromU8.from.ended (λ M 𝓤 𝓛. crate.ast.LinkTypeFromU8.from.clauses 𝓛)
ast-LinkTypeFromU8-from = by_result _ (λ κs a ws ws'. refl)

pub ast-DirFromU8-from : Unique crate.ast.DirFromU8.from.ended (λ M 𝓤 𝓛. crate.ast.DirFromU8.from.clauses 𝓛)
ast-DirFromU8-from = by_result _ (λ κs a ws ws'. refl)

pub of : Unique crate.ast.Proto.of.ended (λ M 𝓤 𝓛. crate.ast.Proto.of.clauses 𝓛)
of = by_result _ (λ κs a ws ws'. refl)

pub maybe_of : Unique crate.ast.Proto.maybe_of.ended (λ M 𝓤 𝓛. crate.ast.Proto.maybe_of.clauses 𝓛)
maybe_of = by_result _ (λ κs a ws ws'. refl)

pub ast-ArithOpFromU8-from : Unique crate.ast.ArithOpFromU8.from.ended (λ M 𝓤 𝓛. crate.ast.ArithOpFromU8.from.clauses 𝓛)
ast-ArithOpFromU8-from = by_result _ (λ κs a ws ws'. refl)

pub ast-CmpOpFromU8-from : Unique crate.ast.CmpOpFromU8.from.ended (λ M 𝓤 𝓛. crate.ast.CmpOpFromU8.from.clauses 𝓛)
ast-CmpOpFromU8-from = by_result _ (λ κs a ws ws'. refl)

pub ast-LayerFromU8-from : Unique crate.ast.LayerFromU8.from.ended (λ M 𝓤 𝓛. crate.ast.LayerFromU8.from.clauses 𝓛)
ast-LayerFromU8-from = by_result _ (λ κs a ws ws'. refl)

pub ast-AccessSizeFromU8-from : Unique crate.ast.AccessSizeFromU8.from.ended (λ M 𝓤 𝓛. crate.ast.AccessSizeFromU8.from.clauses 𝓛)
ast-AccessSizeFromU8-from = by_result _ (λ κs a ws ws'. refl)

pub bytes : Unique crate.ast.AccessSize.bytes.ended (λ M 𝓤 𝓛. crate.ast.AccessSize.bytes.clauses 𝓛)
bytes = by_result _ (λ κs a ws ws'. refl)

pub segment : Unique crate.ast.Ipv6Addr.segment.ended (λ M 𝓤 𝓛. crate.ast.Ipv6Addr.segment.clauses 𝓛)
segment = by_result _ (λ κs a ws ws'. refl)

pub count_at : Unique crate.bytes.count_at.ended (λ M 𝓤 𝓛. crate.bytes.count_at.clauses 𝓛)
count_at = by_result _ (λ κs a ws ws'. refl)

pub token_at : Unique crate.bytes.token_at.ended (λ M 𝓤 𝓛. crate.bytes.token_at.clauses 𝓛)
token_at = by_result _ (λ κs a ws ws'. refl)

pub step_code : Unique crate.bytes.step_code.ended (λ M 𝓤 𝓛. crate.bytes.step_code.clauses 𝓛)
step_code = by_result _ (λ κs a ws ws'. refl)

pub step_operand : Unique crate.bytes.step_operand.ended (λ M 𝓤 𝓛. crate.bytes.step_operand.clauses 𝓛)
step_operand = by_result _ (λ κs a ws ws'. refl)

pub kind : Unique crate.bytes.Record.kind.ended (λ M 𝓤 𝓛. crate.bytes.Record.kind.clauses 𝓛)
kind = by_result _ (λ κs a ws ws'. refl)

pub byte : Unique crate.bytes.Record.byte.ended (λ M 𝓤 𝓛. crate.bytes.Record.byte.clauses 𝓛)
byte = by_result _ (λ κs a ws ws'. refl)

pub half : Unique crate.bytes.Record.half.ended (λ M 𝓤 𝓛. crate.bytes.Record.half.clauses 𝓛)
half = by_result _ (λ κs a ws ws'. refl)

pub word : Unique crate.bytes.Record.word.ended (λ M 𝓤 𝓛. crate.bytes.Record.word.clauses 𝓛)
word = by_result _ (λ κs a ws ws'. refl)

pub mac : Unique crate.bytes.Record.mac.ended (λ M 𝓤 𝓛. crate.bytes.Record.mac.clauses 𝓛)
mac = by_result _ (λ κs a ws ws'. refl)

pub long : Unique crate.bytes.Record.long.ended (λ M 𝓤 𝓛. crate.bytes.Record.long.clauses 𝓛)
long = by_result _ (λ κs a ws ws'. refl)

pub access_at : Unique crate.record.access_at.ended (λ M 𝓤 𝓛. crate.record.access_at.clauses 𝓛)
access_at = by_result _ (λ κs a ws ws'. refl)

pub primitive_at : Unique crate.record.primitive_at.ended (λ M 𝓤 𝓛. crate.record.primitive_at.clauses 𝓛)
primitive_at = by_result _ (λ κs a ws ws'. refl)

pub step_at : Unique crate.record.step_at.ended (λ M 𝓤 𝓛. crate.record.step_at.clauses 𝓛)
step_at = by_result _ (λ κs a ws ws'. refl)

pub find_sections : Unique crate.sheet.find_sections.ended (λ M 𝓤 𝓛. crate.sheet.find_sections.clauses 𝓛)
find_sections = by_result _ (λ κs a ws ws'. refl)

-- What the three parts hold; where a reference points is no part of a contract.
pub sections : UniqueIn crate.sheet.Counts.sections.ended {V = List ℕ × List ℕ × List ℕ} (λ κs a r ws. (r.steps.now, r.prims.now, r.tokens.now)) (λ M 𝓤 𝓛. crate.sheet.Counts.sections.clauses 𝓛)
sections = unique_in _ (beside _ (beside _ (plain _))) (λ κs a r r' ws ws' p q i. ((p.0 ∙ sym q.0) i, (p.1.0 ∙ sym q.1.0) i, (p.1.1 ∙ sym q.1.1) i))

pub wrong_byte : Unique crate.wrong.wrong_byte.ended (λ M 𝓤 𝓛. crate.wrong.wrong_byte.clauses 𝓛)
wrong_byte = by_result _ (λ κs a ws ws'. refl)

pub record_wrong : Unique crate.wrong.record_wrong.ended (λ M 𝓤 𝓛. crate.wrong.record_wrong.clauses 𝓛)
record_wrong = by_result _ (λ κs a ws ws'. refl)

pub step_wrong : Unique crate.wrong.step_wrong.ended (λ M 𝓤 𝓛. crate.wrong.step_wrong.clauses 𝓛)
step_wrong = by_result _ (λ κs a ws ws'. refl)

pub token_wrong : Unique crate.wrong.token_wrong.ended (λ M 𝓤 𝓛. crate.wrong.token_wrong.clauses 𝓛)
token_wrong = by_result _ (λ κs a ws ws'. refl)

pub first_wrong_record : Unique crate.wrong.first_wrong_record.ended (λ M 𝓤 𝓛. crate.wrong.first_wrong_record.clauses 𝓛)
first_wrong_record = by_result _ (λ κs a ws ws'. refl)

pub first_wrong_step : Unique crate.wrong.first_wrong_step.ended (λ M 𝓤 𝓛. crate.wrong.first_wrong_step.clauses 𝓛)
first_wrong_step = by_result _ (λ κs a ws ws'. refl)

pub first_wrong_token : Unique crate.wrong.first_wrong_token.ended (λ M 𝓤 𝓛. crate.wrong.first_wrong_token.clauses 𝓛)
first_wrong_token = by_result _ (λ κs a ws ws'. refl)

pub prefix_mask : Unique crate.prefix.prefix_mask.ended (λ M 𝓤 𝓛. crate.prefix.prefix_mask.clauses 𝓛)
prefix_mask = by_result _ (λ κs a ws ws'. refl)
