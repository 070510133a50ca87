-- Any two answers that a public function's contract allows are equal: the result, and the last value of everything lent.
use Rattle.std.proofs.Common.{sym, refl, ◌∙◌}
use Rattle.patches.proofs.Blocks.{same_code}
use Rattle.unique.proofs.Unique.{Unique, by_result, unique, plain}
use Rattle.pieces.specs.contracts as crate

pub end_of : Unique crate.load.end_of.ended (λ M 𝓤 𝓛. crate.load.end_of.clauses 𝓛)
end_of = by_result _ (λ κs a ws ws'. refl)

pub push_load : Unique crate.load.push_load.ended (λ M 𝓤 𝓛. crate.load.push_load.clauses 𝓛)
push_load = unique (plain _) (λ κs a r r' ws ws' p q. (refl, λ i. (same_code (p ∙ sym q) i, (tt, (tt, (tt, tt))))))

pub jeq : Unique crate.load.jeq.ended (λ M 𝓤 𝓛. crate.load.jeq.clauses 𝓛)
jeq = by_result _ (λ κs a ws ws'. refl)

pub jne : Unique crate.load.jne.ended (λ M 𝓤 𝓛. crate.load.jne.clauses 𝓛)
jne = by_result _ (λ κs a ws ws'. refl)

pub jgt : Unique crate.load.jgt.ended (λ M 𝓤 𝓛. crate.load.jgt.clauses 𝓛)
jgt = by_result _ (λ κs a ws ws'. refl)

pub jge : Unique crate.load.jge.ended (λ M 𝓤 𝓛. crate.load.jge.clauses 𝓛)
jge = by_result _ (λ κs a ws ws'. refl)

pub jlt : Unique crate.load.jlt.ended (λ M 𝓤 𝓛. crate.load.jlt.clauses 𝓛)
jlt = by_result _ (λ κs a ws ws'. refl)

pub jle : Unique crate.load.jle.ended (λ M 𝓤 𝓛. crate.load.jle.clauses 𝓛)
jle = by_result _ (λ κs a ws ws'. refl)

pub jset : Unique crate.load.jset.ended (λ M 𝓤 𝓛. crate.load.jset.clauses 𝓛)
jset = by_result _ (λ κs a ws ws'. refl)

pub push_failing : Unique crate.guarded.push_failing.ended (λ M 𝓤 𝓛. crate.guarded.push_failing.clauses 𝓛)
push_failing = unique (plain _) (λ κs a r r' ws ws' p q. (refl, λ i. (same_code (p ∙ sym q) i, (tt, (tt, tt)))))

pub push_guard : Unique crate.guarded.push_guard.ended (λ M 𝓤 𝓛. crate.guarded.push_guard.clauses 𝓛)
push_guard = unique (plain _) (λ κs a r r' ws ws' p q. (refl, λ i. (same_code (p ∙ sym q) i, (tt, (tt, tt)))))

pub emit_load_to : Unique crate.guarded.emit_load_to.ended (λ M 𝓤 𝓛. crate.guarded.emit_load_to.clauses 𝓛)
emit_load_to = unique (plain _) (λ κs a r r' ws ws' p q. (refl, λ i. (same_code (p ∙ sym q) i, (tt, (tt, (tt, tt))))))

pub emit_load : Unique crate.guarded.emit_load.ended (λ M 𝓤 𝓛. crate.guarded.emit_load.clauses 𝓛)
emit_load = unique (plain _) (λ κs a r r' ws ws' p q. (refl, λ i. (same_code (p ∙ sym q) i, (tt, (tt, tt)))))

pub emit_load_from : Unique crate.guarded.emit_load_from.ended (λ M 𝓤 𝓛. crate.guarded.emit_load_from.clauses 𝓛)
emit_load_from = unique (plain _) (λ κs a r r' ws ws' p q. (refl, λ i. (same_code (p ∙ sym q) i, (tt, (tt, (tt, tt))))))

pub check_to : Unique crate.guarded.check_to.ended (λ M 𝓤 𝓛. crate.guarded.check_to.clauses 𝓛)
check_to = unique (plain _) (λ κs a r r' ws ws' p q. (refl, λ i. (same_code (p ∙ sym q) i, (tt, (tt, (tt, (tt, tt)))))))

pub check : Unique crate.guarded.check.ended (λ M 𝓤 𝓛. crate.guarded.check.clauses 𝓛)
check = unique (plain _) (λ κs a r r' ws ws' p q. (refl, λ i. (same_code (p ∙ sym q) i, (tt, (tt, (tt, tt))))))

pub net_plus : Unique crate.ether.net_plus.ended (λ M 𝓤 𝓛. crate.ether.net_plus.clauses 𝓛)
net_plus = by_result _ (λ κs a ws ws'. refl)

pub emit_ethertype : Unique crate.ether.emit_ethertype.ended (λ M 𝓤 𝓛. crate.ether.emit_ethertype.clauses 𝓛)
emit_ethertype = unique (plain _) (λ κs a r r' ws ws' p q. (refl, λ i. (same_code (p ∙ sym q) i, (tt, tt))))

pub emit_ip4_l4 : Unique crate.ether.emit_ip4_l4.ended (λ M 𝓤 𝓛. crate.ether.emit_ip4_l4.clauses 𝓛)
emit_ip4_l4 = unique (plain _) (λ κs a r r' ws ws' p q. (refl, λ i. (same_code (p ∙ sym q) i, (tt, tt))))

pub emit_ip6_l4 : Unique crate.ether.emit_ip6_l4.ended (λ M 𝓤 𝓛. crate.ether.emit_ip6_l4.clauses 𝓛)
emit_ip6_l4 = unique (plain _) (λ κs a r r' ws ws' p q. (refl, λ i. (same_code (p ∙ sym q) i, (tt, tt))))

pub emit_dual_l4 : Unique crate.ether.emit_dual_l4.ended (λ M 𝓤 𝓛. crate.ether.emit_dual_l4.clauses 𝓛)
emit_dual_l4 = unique (plain _) (λ κs a r r' ws ws' p q. (refl, λ i. (same_code (p ∙ sym q) i, (tt, tt))))

pub emit_cmp : Unique crate.steps.emit_cmp.ended (λ M 𝓤 𝓛. crate.steps.emit_cmp.clauses 𝓛)
emit_cmp = unique (plain _) (λ κs a r r' ws ws' p q. (refl, λ i. (same_code (p ∙ sym q) i, (tt, (tt, tt)))))

pub emit_transport : Unique crate.steps.emit_transport.ended (λ M 𝓤 𝓛. crate.steps.emit_transport.clauses 𝓛)
emit_transport = unique (plain _) (λ κs a r r' ws ws' p q. (refl, λ i. (same_code (p ∙ sym q) i, (tt, tt))))

pub emit_steps : Unique crate.steps.emit_steps.ended (λ M 𝓤 𝓛. crate.steps.emit_steps.clauses 𝓛)
emit_steps = unique (plain _) (λ κs a r r' ws ws' p q. (refl, λ i. (same_code (p ∙ sym q) i, (tt, (tt, (tt, tt))))))
