-- `stream::feed` meets its contract: a line a turn, and the last one is left begun.
use mathlib.Core.Path.{◌≡◌}
use Prim.Native.Nat.{◌≤◌, ◌-◌}
use native.Mathlib.Omega.{arith}
use borrow.Author.Tests.{leb-true}
use lib.ListN.{length}
use Rattle.scan.proofs.Find.{ended, part_slice}
use Rattle.text.specs.Answer.{answer_room}
use Rattle.stream.specs.Machine.{read_within}
use Rattle.stream.specs.Sheet.{machine, place_of}
use Rattle.stream.proofs.Progress.{begin, scanned, answered, at_end, no_room, stopped}
use Rattle.stream.proofs.Kept.{rest_within, rest_put}
use Rattle.stream.proofs.feed.Goals as goal
use Rattle.stream.proofs.feed.Goals.{then-loop-end-test+else-out-written-ge-ANSWER_ROOM, else-loop-end-test}

pub loop-end-init : goal.loop-end-init
loop-end-init c = (c.find_byte-end.ensures, begin machine (place_of c.args.place) c.args.piece.now c.args.out.now)

-- a newline with room for an answer, and the line answered
pub loop-end-preserved : goal.loop-end-preserved
loop-end-preserved c =
    let l = c.loop-end in
    let e = ended {m = 10} {s = c.args.piece.now} {from = l.i} l.invariant.1.high l.invariant.0 in
    let told = rw (part_slice l.i l.end c.args.piece.now e.low) at c.answer_ended-a.ensures in
    let within : l.written ≤ length l.out = omega (arith, l.auto.out, l.invariant.1.within) in
    let room : answer_room ≤ length c.args.out.now - l.written = omega (arith, leb-true, l.auto.out) in
    let fits = rest_within l.out l.written within told.bytes c.answer_ended-a.auto.out in (
      c.find_byte-end-in-loop-end.ensures,
      answered machine (scanned machine l.invariant.1 e) c.loop-end-test.true (e.mark c.loop-end-test.true) room c.new_line-here.ensures
          told.state (rest_put l.out l.written within told.bytes c.answer_ended-a.auto.out) (omega (arith, fits, l.auto.out)),
    )

pub slice_bounds-extended-end : goal.slice_bounds-extended-end
slice_bounds-extended-end c =
    omega (arith, (ended {m = 10} {s = c.args.piece.now} {from = c.loop-end.i} c.loop-end.invariant.1.high c.loop-end.invariant.0).high)

pub returns : goal.returns
returns c =
    let l = c.loop-end in
    let e = ended {m = 10} {s = c.args.piece.now} {from = l.i} l.invariant.1.high l.invariant.0 in
    let r = scanned machine l.invariant.1 e in
    let left : read_within machine (length c.args.out.now) (place_of c.args.place) c.args.piece.now ≡ l.end = elim c.loop-end-test.branch [
      | then-loop-end-test+else-out-written-ge-ANSWER_ROOM w ↦
          no_room machine r w.loop-end-test.true (e.mark w.loop-end-test.true) (omega (arith, w.if-out-written-ge-ANSWER_ROOM.false, l.auto.out))
      | else-loop-end-test w ↦ at_end machine r w.loop-end-test.false
    ] in
    let all = stopped machine r left (rw (part_slice l.i l.end c.args.piece.now e.low) at c.extended.ensures) in
    record { read = all.0; place = all.1.0; count = all.1.1.0; bytes = all.1.1.1 }
