-- `controller::hand_over` meets its contract: 6 first, then the record.
use mathlib.Core.Path.{◌≡◌, refl}
use Prim.Native.Nat.{◌≤◌}
use native.Mathlib.Omega.{arith}
use borrow.Author.Tests.{lt-ltb, le-ltb}
use lib.ListN.{length}
use borrow.Author.Rules.{rules}
use Rattle.word.proofs.Fits.{back, sfits_mag}
use Rattle.controller.specs.Record.{record_room}
use Rattle.controller.proofs.Call.{record_front}
use Rattle.controller.proofs.hand_over.Goals as goal

pub returns-then-out-lt-RECORD_ROOM : goal.returns-then-out-lt-RECORD_ROOM
returns-then-out-lt-RECORD_ROOM c =
    rw (lt-ltb (length c.args.out.now) record_room (omega arith)) (record { handed = refl; bytes = refl })

pub returns : goal.returns
returns c =
    let numbers = c.record-numbers in
    let n : length numbers.result ≡ 8 = search rules in
    let out = c.args.out.now in
    let room : record_room ≤ length out = omega (arith, c.if-out-lt-RECORD_ROOM.false) in
    let p = c.put_words.ensures in
    rw (le-ltb (length out) record_room room, ← numbers.ensures)
    (record { handed = back (sfits_mag _ c.result-1.given); bytes = record_front out numbers.result n room (p.count, p.bytes) })
