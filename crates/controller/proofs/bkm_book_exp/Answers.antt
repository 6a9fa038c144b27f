-- `controller::bkm_book_exp` meets its contract.
use Rattle.word.proofs.Fits.{back}
use Rattle.controller.proofs.Call.{booked}
use Rattle.controller.proofs.bkm_book_exp.Goals as goal

pub returns : goal.returns
returns c =
    let s = c.ranges in
    let told = booked (rw (back s.caller, back s.n, back s.ex, back s.ey, back s.sx, back s.sy) at c.exp-s.ensures.outcome) c.from.ensures in
    record { answer = told.0; book = told.1 }
