-- `text::reply` meets its contract: 6, then 5, then the operation's own.
use mathlib.Core.Path.{◌≡◌}
use Prim.Native.Nat.{◌<◌}
use native.Mathlib.Omega.{arith}
use borrow.Author.Tests.{lt-ltb}
use lib.ListN.{length}
use mir.Syntax.{w64}
use mir.Val.{SFits}
use Rattle.word.proofs.Fits.{back, sfits_mag}
use Rattle.exponential.specs.Answer.{exp_answer}
use Rattle.logarithm.specs.Answer.{log_answer}
use Rattle.text.specs.declared.Line.TheVariants.{Exp, Log}
use Rattle.text.specs.Answer.{answer_room, reply_of}
use Rattle.text.proofs.Call.{line_called}
use Rattle.text.proofs.reply.Goals as goal

pub returns-then-out-lt-ANSWER_ROOM : goal.returns-then-out-lt-ANSWER_ROOM
returns-then-out-lt-ANSWER_ROOM c =
    let short : length c.args.out.now < answer_room = omega arith in
    let e = lt-ltb _ _ short in
    rw e (rw e at c.refuse.ensures)

pub returns-in-Malformed : goal.returns-in-Malformed
unfolding reply_of
returns-in-Malformed c = rw c.in-Malformed.is (rw c.from-in-Malformed.ensures at c.refuse-in-Malformed.ensures)

pub returns-in-Exp : goal.returns-in-Exp
unfolding reply_of
returns-in-Exp c =
    let k = c.in-Exp in
    let serial : SFits w64 k.serial = sfits_mag k.serial k.known_told-1-own.given.0.1 in
    let n : SFits w64 k.n = sfits_mag k.n k.known_told-1-own.given.1.0.1 in
    let exp : c.exp-answer.result ≡ exp_answer k.n k.exponent.x k.exponent.y k.start.x k.start.y = rw (back n) at c.exp-answer.ensures.answer in
    let a = line_called (Exp k.serial k.n k.exponent k.start) k.is serial c.if-out-lt-ANSWER_ROOM.false
    (rw (back serial, back n, exp) at c.put_answer.ensures) in
    record { refusal = a.0; count = a.1.0; bytes = a.1.1 }

pub returns-in-Log : goal.returns-in-Log
unfolding reply_of
returns-in-Log c =
    let k = c.in-Log in
    let serial : SFits w64 k.serial = sfits_mag k.serial k.known_told-in-Log-1-own.given.0.1 in
    let n : SFits w64 k.n = sfits_mag k.n k.known_told-in-Log-1-own.given.1.0.1 in
    let log : c.log-answer.result ≡ log_answer k.n k.point.x k.point.y = rw (back n) at c.log-answer.ensures.answer in
    let a = line_called (Log k.serial k.n k.point) k.is serial c.if-out-lt-ANSWER_ROOM.false
    (rw (back serial, back n, log) at c.put_answer-in-Log.ensures) in
    record { refusal = a.0; count = a.1.0; bytes = a.1.1 }
