-- `controller::bkm_log` meets its contract.
use Rattle.word.proofs.Fits.{back}
use Rattle.controller.proofs.Call.{called}
use Rattle.controller.proofs.bkm_log.Goals as goal

pub returns : goal.returns
returns c =
    let s = c.ranges in
    let answer = rw (back s.n, back s.x, back s.y) at c.log-answer.ensures.answer in
    let h = c.hand_over.ensures in
    let told = called c.args.out.now answer c.hand_over.type_inv (h.handed, h.bytes) in
    record { handed = told.0; bytes = told.1 }
