-- The stores one after another are the new sheet.
use Rattle.nots.specs.Turn.{wanted_at}
use Rattle.nots.proofs.Writes.{written_out}
use Rattle.nots.proofs.write_sheet.Goals as goal

pub returns : goal.returns
returns c =
    let a = c.args in
    written_out a.sheet.now a.output.now a.front a.size (wanted_at a.tokens.now 0) c.requires.front_in_bounds.0 c.requires.begins.1 c.requires.size_in_bounds c.copy_front.ensures c.wanted.ensures.output_after
