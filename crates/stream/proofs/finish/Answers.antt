-- `stream::finish` meets its contract: no line, or the one that has begun.
use mathlib.Core.Path.{◌≡◌, refl, ◌∙◌}
use mathlib.Core.List.{append-nil}
use mathlib.Core.Logic.{⊎_elim}
use native.Mathlib.Omega.{arith}
use borrow.Author.Rules.{rules}
use borrow.Author.Tests.{lt-ltb, le-ltb}
use lib.ListN.{length}
use Rattle.text.specs.Answer.{answer_room}
use Rattle.stream.specs.Machine.{last_line, answers, answers_at_end, kept_bytes}
use Rattle.stream.proofs.Kept.{last_some}
use Rattle.stream.proofs.finish.Goals as goal

pub returns-then-out-lt-ANSWER_ROOM : goal.returns-then-out-lt-ANSWER_ROOM
unfolding answers_at_end answers last_line
returns-then-out-lt-ANSWER_ROOM c =
    let n = length c.args.out.now in
    ⊎_elim (λ w. rw (lt-ltb n answer_room w) (record { count = refl; bytes = refl }))
    (λ w. rw (le-ltb n answer_room w.0, w.1) (record { count = refl; bytes = refl }))
    c.then-out-lt-ANSWER_ROOM.either

pub returns : goal.returns
unfolding answers_at_end answers
returns c =
    let p = c.args.place in
    let f = c.answer_begun.ensures.bytes in
    let whole : length p.bytes ≡ kept_bytes = search rules in
    let line = last_some p.len p.bytes (omega (arith, whole)) c.if-place-eq0.false in
    rw (le-ltb (length c.args.out.now) answer_room (omega arith), line, append-nil)
    record { count = f.count; bytes = f.bytes ∙ rw f.count }
