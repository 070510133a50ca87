-- Any two answers that a public function's contract allows are equal: the result, and the last value of everything lent.
use mathlib.Core.Path.{refl, sym, ◌∙◌}
use Rattle.unique.proofs.Unique.{Unique, by_result, unique, plain, beside}
use Rattle.bromaveluth_c.specs.contracts as crate

pub bromaveluth_version : Unique crate.bromaveluth_version.ended (λ M 𝓤 𝓛. crate.bromaveluth_version.clauses 𝓛)
bromaveluth_version = by_result _ (λ κs a ws ws'. refl)

pub bromaveluth_measure : Unique crate.bromaveluth_measure.ended (λ M 𝓤 𝓛. crate.bromaveluth_measure.clauses 𝓛)
bromaveluth_measure =
    unique (beside _ (beside _ (beside _ (beside _ (plain _)))))
    (λ κs a r r' ws ws' p q. (p.0 ∙ sym q.0, λ i. (tt, (tt, (tt, ((p.1.0 ∙ sym q.1.0) i, ((p.1.1.0 ∙ sym q.1.1.0) i, ((p.1.1.1.0 ∙ sym q.1.1.1.0) i, ((p.1.1.1.1 ∙ sym q.1.1.1.1) i, tt)))))))))

pub bromaveluth_compile : Unique crate.bromaveluth_compile.ended (λ M 𝓤 𝓛. crate.bromaveluth_compile.clauses 𝓛)
bromaveluth_compile =
    unique (beside _ (beside _ (beside _ (plain _))))
    (λ κs a r r' ws ws' p q. (p.0 ∙ sym q.0, λ i. (tt, (tt, (tt, ((p.1.1.0 ∙ sym q.1.1.0) i, ((p.1.1.1 ∙ sym q.1.1.1) i, ((p.1.0 ∙ sym q.1.0) i, tt))))))))

pub bromaveluth_evaluate : Unique crate.bromaveluth_evaluate.ended (λ M 𝓤 𝓛. crate.bromaveluth_evaluate.clauses 𝓛)
bromaveluth_evaluate = unique (beside _ (plain _)) (λ κs a r r' ws ws' p q. (p.0 ∙ sym q.0, λ i. (tt, (tt, (tt, ((p.1 ∙ sym q.1) i, tt))))))

pub bromaveluth_run : Unique crate.bromaveluth_run.ended (λ M 𝓤 𝓛. crate.bromaveluth_run.clauses 𝓛)
bromaveluth_run =
    unique (beside _ (beside _ (plain _)))
    (λ κs a r r' ws ws' p q. (p.0 ∙ sym q.0, λ i. (tt, (tt, (tt, (tt, ((p.1.0 ∙ sym q.1.0) i, ((p.1.1 ∙ sym q.1.1) i, tt))))))))

pub bromaveluth_nots : Unique crate.bromaveluth_nots.ended (λ M 𝓤 𝓛. crate.bromaveluth_nots.clauses 𝓛)
bromaveluth_nots =
    unique (beside _ (beside _ (plain _)))
    (λ κs a r r' ws ws' p q. (p.0 ∙ sym q.0, λ i. (tt, ((p.1.1 ∙ sym q.1.1) i, ((p.1.0 ∙ sym q.1.0) i, tt)))))

pub bromaveluth_capture_open : Unique crate.bromaveluth_capture_open.ended (λ M 𝓤 𝓛. crate.bromaveluth_capture_open.clauses 𝓛)
bromaveluth_capture_open = unique (beside _ (plain _)) (λ κs a r r' ws ws' p q. (p.0 ∙ sym q.0, λ i. (tt, ((p.1 ∙ sym q.1) i, tt))))

pub bromaveluth_capture : Unique crate.bromaveluth_capture.ended (λ M 𝓤 𝓛. crate.bromaveluth_capture.clauses 𝓛)
bromaveluth_capture =
    unique (beside _ (beside _ (beside _ (beside _ (beside _ (beside _ (plain _)))))))
    (λ κs a r r' ws ws' p q. (p.0 ∙ sym q.0, λ i. (tt, (tt, (tt, ((p.1.1.1.1.1.0 ∙ sym q.1.1.1.1.1.0) i, ((p.1.1.1.1.1.1 ∙ sym q.1.1.1.1.1.1) i, ((p.1.0 ∙ sym q.1.0) i, ((p.1.1.0 ∙ sym q.1.1.0) i, ((p.1.1.1.0 ∙ sym q.1.1.1.0) i, ((p.1.1.1.1.0 ∙ sym q.1.1.1.1.0) i, tt)))))))))))

pub bromaveluth_capture_part : Unique crate.bromaveluth_capture_part.ended (λ M 𝓤 𝓛. crate.bromaveluth_capture_part.clauses 𝓛)
bromaveluth_capture_part =
    unique (beside _ (beside _ (beside _ (beside _ (beside _ (beside _ (plain _)))))))
    (λ κs a r r' ws ws' p q. (p.0 ∙ sym q.0, λ i. (tt, (tt, (tt, ((p.1.1.1.1.1.0 ∙ sym q.1.1.1.1.1.0) i, ((p.1.1.1.1.1.1 ∙ sym q.1.1.1.1.1.1) i, (tt, (tt, ((p.1.0 ∙ sym q.1.0) i, ((p.1.1.0 ∙ sym q.1.1.0) i, ((p.1.1.1.0 ∙ sym q.1.1.1.0) i, ((p.1.1.1.1.0 ∙ sym q.1.1.1.1.0) i, tt)))))))))))))
