-- `text::refuse` meets its contract: 6, or the number that it is given.
use native.Mathlib.Omega.{arith}
use Rattle.word.proofs.Fits.{back}
use Rattle.text.specs.Answer.{refused_reply}
use Rattle.text.specs.Code.{Replied}
use Rattle.text.proofs.Room.{refused_room}
use Rattle.text.proofs.Call.{short_buffer, called}
use Rattle.text.proofs.refuse.Goals as goal

pub returns-then-out-lt-ANSWER_ROOM : goal.returns-then-out-lt-ANSWER_ROOM
returns-then-out-lt-ANSWER_ROOM c =
    let a = short_buffer (refused_reply c.args.serial c.args.refusal) c.args.out.now (omega arith) in
    record { refusal = rw c.from.ensures a.0; count = a.1.0; bytes = a.1.1 }

pub returns : goal.returns
returns c =
    let told : Replied (refused_reply c.args.serial c.args.refusal) c.args.out.now c.refused.new.out c.refused.result.refusal c.refused.result.written
    = simp (back, c.ranges.serial, c.ranges.refusal) at c.refused.ensures in
    let a = called (refused_room c.ranges.serial c.ranges.refusal) (omega arith) told in
    record { refusal = a.0; count = a.1.0; bytes = a.1.1 }
