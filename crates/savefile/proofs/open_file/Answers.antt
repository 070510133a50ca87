-- The header, then the records.
use Rattle.std.proofs.Common.{refl, rules, ◌≡◌, Err}
use Rattle.savefile.specs.Savefile.{opened_of}
use Rattle.savefile.proofs.open_file.Goals as goal

pub returns-in_err-header : goal.returns-in_err-header
unfolding opened_of
returns-in_err-header c =
    let h : c.from_residual.result ≡ Err c.in_err-header.field-0.0 = search rules in
    rw (← c.open_header.ensures, c.in_err-header.was, h) refl

pub returns : goal.returns
unfolding opened_of
returns c = rw (← c.open_header.ensures, c.in_ok-header.was) c.open_records.ensures
