-- Any two answers that a public function's contract allows are equal: the result, and the last value of everything lent.
use Rattle.std.proofs.Common.{sym, refl, ◌∙◌}
use Rattle.unique.proofs.Unique.{Unique, by_result, unique, plain}
use Rattle.ebpf.specs.contracts as crate

pub new : Unique crate.insn.Insn.new.ended (λ M 𝓤 𝓛. crate.insn.Insn.new.clauses 𝓛)
new = by_result _ (λ κs a ws ws'. refl)

pub dst : Unique crate.insn.Insn.dst.ended (λ M 𝓤 𝓛. crate.insn.Insn.dst.clauses 𝓛)
dst = by_result _ (λ κs a ws ws'. refl)

pub src : Unique crate.insn.Insn.src.ended (λ M 𝓤 𝓛. crate.insn.Insn.src.clauses 𝓛)
src = by_result _ (λ κs a ws ws'. refl)

pub mov64_reg : Unique crate.insn.Insn.mov64_reg.ended (λ M 𝓤 𝓛. crate.insn.Insn.mov64_reg.clauses 𝓛)
mov64_reg = by_result _ (λ κs a ws ws'. refl)

pub mov64_imm : Unique crate.insn.Insn.mov64_imm.ended (λ M 𝓤 𝓛. crate.insn.Insn.mov64_imm.clauses 𝓛)
mov64_imm = by_result _ (λ κs a ws ws'. refl)

pub add64_reg : Unique crate.insn.Insn.add64_reg.ended (λ M 𝓤 𝓛. crate.insn.Insn.add64_reg.clauses 𝓛)
add64_reg = by_result _ (λ κs a ws ws'. refl)

pub add64_imm : Unique crate.insn.Insn.add64_imm.ended (λ M 𝓤 𝓛. crate.insn.Insn.add64_imm.clauses 𝓛)
add64_imm = by_result _ (λ κs a ws ws'. refl)

pub sub64_reg : Unique crate.insn.Insn.sub64_reg.ended (λ M 𝓤 𝓛. crate.insn.Insn.sub64_reg.clauses 𝓛)
sub64_reg = by_result _ (λ κs a ws ws'. refl)

pub and32_imm : Unique crate.insn.Insn.and32_imm.ended (λ M 𝓤 𝓛. crate.insn.Insn.and32_imm.clauses 𝓛)
and32_imm = by_result _ (λ κs a ws ws'. refl)

pub or32_imm : Unique crate.insn.Insn.or32_imm.ended (λ M 𝓤 𝓛. crate.insn.Insn.or32_imm.clauses 𝓛)
or32_imm = by_result _ (λ κs a ws ws'. refl)

pub xor32_imm : Unique crate.insn.Insn.xor32_imm.ended (λ M 𝓤 𝓛. crate.insn.Insn.xor32_imm.clauses 𝓛)
xor32_imm = by_result _ (λ κs a ws ws'. refl)

pub add32_imm : Unique crate.insn.Insn.add32_imm.ended (λ M 𝓤 𝓛. crate.insn.Insn.add32_imm.clauses 𝓛)
add32_imm = by_result _ (λ κs a ws ws'. refl)

pub sub32_imm : Unique crate.insn.Insn.sub32_imm.ended (λ M 𝓤 𝓛. crate.insn.Insn.sub32_imm.clauses 𝓛)
sub32_imm = by_result _ (λ κs a ws ws'. refl)

pub mul32_imm : Unique crate.insn.Insn.mul32_imm.ended (λ M 𝓤 𝓛. crate.insn.Insn.mul32_imm.clauses 𝓛)
mul32_imm = by_result _ (λ κs a ws ws'. refl)

pub div32_imm : Unique crate.insn.Insn.div32_imm.ended (λ M 𝓤 𝓛. crate.insn.Insn.div32_imm.clauses 𝓛)
div32_imm = by_result _ (λ κs a ws ws'. refl)

pub rsh32_imm : Unique crate.insn.Insn.rsh32_imm.ended (λ M 𝓤 𝓛. crate.insn.Insn.rsh32_imm.clauses 𝓛)
rsh32_imm = by_result _ (λ κs a ws ws'. refl)

pub lsh32_imm : Unique crate.insn.Insn.lsh32_imm.ended (λ M 𝓤 𝓛. crate.insn.Insn.lsh32_imm.clauses 𝓛)
lsh32_imm = by_result _ (λ κs a ws ws'. refl)

pub be16 : Unique crate.insn.Insn.be16.ended (λ M 𝓤 𝓛. crate.insn.Insn.be16.clauses 𝓛)
be16 = by_result _ (λ κs a ws ws'. refl)

pub be32 : Unique crate.insn.Insn.be32.ended (λ M 𝓤 𝓛. crate.insn.Insn.be32.clauses 𝓛)
be32 = by_result _ (λ κs a ws ws'. refl)

pub ldx_b : Unique crate.insn.Insn.ldx_b.ended (λ M 𝓤 𝓛. crate.insn.Insn.ldx_b.clauses 𝓛)
ldx_b = by_result _ (λ κs a ws ws'. refl)

pub ldx_h : Unique crate.insn.Insn.ldx_h.ended (λ M 𝓤 𝓛. crate.insn.Insn.ldx_h.clauses 𝓛)
ldx_h = by_result _ (λ κs a ws ws'. refl)

pub ldx_w : Unique crate.insn.Insn.ldx_w.ended (λ M 𝓤 𝓛. crate.insn.Insn.ldx_w.clauses 𝓛)
ldx_w = by_result _ (λ κs a ws ws'. refl)

pub ja : Unique crate.insn.Insn.ja.ended (λ M 𝓤 𝓛. crate.insn.Insn.ja.clauses 𝓛)
ja = by_result _ (λ κs a ws ws'. refl)

pub jeq_imm : Unique crate.insn.Insn.jeq_imm.ended (λ M 𝓤 𝓛. crate.insn.Insn.jeq_imm.clauses 𝓛)
jeq_imm = by_result _ (λ κs a ws ws'. refl)

pub jne_imm : Unique crate.insn.Insn.jne_imm.ended (λ M 𝓤 𝓛. crate.insn.Insn.jne_imm.clauses 𝓛)
jne_imm = by_result _ (λ κs a ws ws'. refl)

pub jgt_imm : Unique crate.insn.Insn.jgt_imm.ended (λ M 𝓤 𝓛. crate.insn.Insn.jgt_imm.clauses 𝓛)
jgt_imm = by_result _ (λ κs a ws ws'. refl)

pub jge_imm : Unique crate.insn.Insn.jge_imm.ended (λ M 𝓤 𝓛. crate.insn.Insn.jge_imm.clauses 𝓛)
jge_imm = by_result _ (λ κs a ws ws'. refl)

pub jlt_imm : Unique crate.insn.Insn.jlt_imm.ended (λ M 𝓤 𝓛. crate.insn.Insn.jlt_imm.clauses 𝓛)
jlt_imm = by_result _ (λ κs a ws ws'. refl)

pub jle_imm : Unique crate.insn.Insn.jle_imm.ended (λ M 𝓤 𝓛. crate.insn.Insn.jle_imm.clauses 𝓛)
jle_imm = by_result _ (λ κs a ws ws'. refl)

pub jset_imm : Unique crate.insn.Insn.jset_imm.ended (λ M 𝓤 𝓛. crate.insn.Insn.jset_imm.clauses 𝓛)
jset_imm = by_result _ (λ κs a ws ws'. refl)

pub jeq32_imm : Unique crate.insn.Insn.jeq32_imm.ended (λ M 𝓤 𝓛. crate.insn.Insn.jeq32_imm.clauses 𝓛)
jeq32_imm = by_result _ (λ κs a ws ws'. refl)

pub jne32_imm : Unique crate.insn.Insn.jne32_imm.ended (λ M 𝓤 𝓛. crate.insn.Insn.jne32_imm.clauses 𝓛)
jne32_imm = by_result _ (λ κs a ws ws'. refl)

pub jgt32_imm : Unique crate.insn.Insn.jgt32_imm.ended (λ M 𝓤 𝓛. crate.insn.Insn.jgt32_imm.clauses 𝓛)
jgt32_imm = by_result _ (λ κs a ws ws'. refl)

pub jge32_imm : Unique crate.insn.Insn.jge32_imm.ended (λ M 𝓤 𝓛. crate.insn.Insn.jge32_imm.clauses 𝓛)
jge32_imm = by_result _ (λ κs a ws ws'. refl)

pub jlt32_imm : Unique crate.insn.Insn.jlt32_imm.ended (λ M 𝓤 𝓛. crate.insn.Insn.jlt32_imm.clauses 𝓛)
jlt32_imm = by_result _ (λ κs a ws ws'. refl)

pub jle32_imm : Unique crate.insn.Insn.jle32_imm.ended (λ M 𝓤 𝓛. crate.insn.Insn.jle32_imm.clauses 𝓛)
jle32_imm = by_result _ (λ κs a ws ws'. refl)

pub jset32_imm : Unique crate.insn.Insn.jset32_imm.ended (λ M 𝓤 𝓛. crate.insn.Insn.jset32_imm.clauses 𝓛)
jset32_imm = by_result _ (λ κs a ws ws'. refl)

pub jgt_reg : Unique crate.insn.Insn.jgt_reg.ended (λ M 𝓤 𝓛. crate.insn.Insn.jgt_reg.clauses 𝓛)
jgt_reg = by_result _ (λ κs a ws ws'. refl)

pub exit : Unique crate.insn.Insn.exit.ended (λ M 𝓤 𝓛. crate.insn.Insn.exit.clauses 𝓛)
exit = by_result _ (λ κs a ws ws'. refl)

pub to_le_bytes : Unique crate.insn.Insn.to_le_bytes.ended (λ M 𝓤 𝓛. crate.insn.Insn.to_le_bytes.clauses 𝓛)
to_le_bytes = by_result _ (λ κs a ws ws'. refl)

pub store : Unique crate.insn.Insn.store.ended (λ M 𝓤 𝓛. crate.insn.Insn.store.clauses 𝓛)
store = unique (plain _) (λ κs a r r' ws ws' p q. (refl, λ i. (tt, ((p ∙ sym q) i, (tt, tt)))))

pub fetch : Unique crate.insn.Insn.fetch.ended (λ M 𝓤 𝓛. crate.insn.Insn.fetch.clauses 𝓛)
fetch = by_result _ (λ κs a ws ws'. refl)

pub run : Unique crate.run.run.ended (λ M 𝓤 𝓛. crate.run.run.clauses 𝓛)
run = by_result _ (λ κs a ws ws'. refl)

pub step : Unique crate.step.step.ended (λ M 𝓤 𝓛. crate.step.step.clauses 𝓛)
step = by_result _ (λ κs a ws ws'. refl)

pub run_sure : Unique crate.sure.run_sure.ended (λ M 𝓤 𝓛. crate.sure.run_sure.clauses 𝓛)
run_sure = by_result _ (λ κs a ws ws'. refl)
