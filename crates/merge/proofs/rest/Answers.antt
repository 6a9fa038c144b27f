-- `merge::rest` meets its contract.
use Rattle.merge.proofs.Found.{behind_from}
use Rattle.merge.proofs.rest.Goals as goal

pub returns : goal.returns
returns c = behind_from c.args.s.now (rw (← c.first_line.ensures) c.min.ensures)
