use Rattle.std.proofs.Common.{Option, sym, ◌∙◌, ap}
use Rattle.std.specs.Option.{option_eq}
use Rattle.ebpf.specs.declared.insn.Insn.{Insn}
use Rattle.ebpf.specs.contracts.insn.InsnPartialEq.TheImpl as insn
use Rattle.layers_main.proofs.Same.{insn_itself}
use Rattle.layers_main.proofs.Twelve.{same_record}
use Rattle.layers_main.proofs.compare_records.Goals as goal

pub expect-requires : goal.expect-requires
expect-requires g c =
    let e = c.record_by_run-found.ensures ∙ sym (c.fetch-fetched.ensures ∙ same_record _ _ c.requires c.loop-k-test.true) in
    c.eq-same.ensures ∙ ap (λ (o : Option Insn). option_eq insn.eq-value.it c.fetch-fetched.result o) e ∙ insn_itself c.fetch-fetched.result
