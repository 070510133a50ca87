use Rattle.std.proofs.Common.{sym, ◌∙◌, ap}
use Rattle.ebpf.specs.declared.step.Turn.{Turn}
use Rattle.ebpf.specs.contracts.step.TurnPartialEq.TheImpl as turn
use Rattle.layers_main.proofs.Same.{turn_itself}
use Rattle.layers_main.proofs.compare_steps.Goals as goal

pub expect-requires : goal.expect-requires
expect-requires g c =
    let e = c.step_by_place-in_place.ensures ∙ sym c.step-by_value.ensures in
    c.eq-same.ensures ∙ ap (λ (t : Turn). turn.eq-value.it c.step-by_value.result t) e ∙ turn_itself c.step-by_value.result
