-- `controller::bkm_exp_register` meets its contract.
use Rattle.word.proofs.Fits.{back}
use Rattle.controller.proofs.Call.{called}
use Rattle.controller.proofs.bkm_exp_register.Goals as goal

pub returns : goal.returns
returns c =
    let s = c.ranges in
    let answer = rw (back s.n, back s.ex, back s.ey, back s.sx, back s.sy) at c.exp-by_register.ensures.answer in
    let h = c.hand_over.ensures in
    let told = called c.args.out.now answer c.hand_over.type_inv (h.handed, h.bytes) in
    record { handed = told.0; bytes = told.1 }
