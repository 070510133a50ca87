-- Each of twelve records in a run of sixteen is the instruction that is fetched. Assumes nothing.
use Rattle.std.proofs.Common.{◌≡◌, ℕ, ◌*◌, ◌<◌, List, length, sym, refl, ap, ◌∙◌, subst}
use Rattle.ebpf.specs.Insn.{fetch_at}
use Rattle.layers.specs.Records.{plan_of, count_of, filled_run, found_at, empty_run}
use Rattle.layers.proofs.Runs.{found_filled, length_empty}

twelve : count_of (plan_of 96 16) ≡ 12
unfolding plan_of count_of
twelve = refl

pub same_record : (p : List ℕ) (k : ℕ) → 96 ≡ length p → k < 12 → fetch_at p (k * 8) ≡ found_at (filled_run p empty_run) k
same_record p k e h =
    let count : count_of (plan_of (length p) (length empty_run)) ≡ 12 =
    ap (λ (n : ℕ). count_of (plan_of n (length empty_run))) (sym e) ∙ ap (λ (m : ℕ). count_of (plan_of 96 m)) length_empty ∙ twelve in
    sym (found_filled p empty_run k (subst (λ (n : ℕ). k < n) (sym count) h))
