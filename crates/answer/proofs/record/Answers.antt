-- `answer::record` meets its contract.
use Rattle.word.proofs.Fits.{back, sfits_mag}
use Rattle.answer.specs.Record.{record_of}
use Rattle.answer.proofs.record.Goals as goal

pub returns-in-Ok : goal.returns-in-Ok
unfolding record_of
returns-in-Ok c = rw c.in-Ok.is c.numbers.ensures

pub returns-in-Err : goal.returns-in-Err
unfolding record_of
returns-in-Err c = rw (c.in-Err.is, ← c.from.ensures)
    (rw (back (sfits_mag c.from.result c.from.type_inv)) at c.numbers-in-Err.ensures)
