-- `controller::bkm_merge_stopped_at` meets its contract, which is that of the call.
use Rattle.controller.proofs.bkm_merge_stopped_at.Goals as goal

pub returns : goal.returns
returns c = c.stopped_at.ensures
