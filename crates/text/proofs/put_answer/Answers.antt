-- `text::put_answer` meets its contract: the figures as a line, or the refusal.
use Rattle.word.proofs.Fits.{back}
use Rattle.answer.specs.Record.{record_of}
use Rattle.text.proofs.Call.{turned_away}
use Rattle.text.proofs.put_answer.Goals as goal

pub returns-in-Ok : goal.returns-in-Ok
unfolding record_of
returns-in-Ok c =
    rw c.in-Ok.is (rw (back c.ranges.serial, back c.ranges.n) at c.put_figures-written.ensures)

pub returns-in-Err : goal.returns-in-Err
unfolding record_of
returns-in-Err c =
    rw c.in-Err.is
    (turned_away c.in-Err.r _ _ _ c.ranges.serial c.from.type_inv c.from.ensures c.refused.ensures)
