-- What the empty run of sixteen was filled with.
use Rattle.layers.proofs.Runs.{empty_is}
use Rattle.layers.proofs.records.record_by_run.Goals as goal

pub returns : goal.returns
returns c = rw (c.record_at.ensures, c.fill_records-filled.ensures.1, empty_is)
