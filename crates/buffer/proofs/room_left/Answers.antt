-- `buffer::room_left` meets its contract.
use native.Mathlib.Omega.{arith}
use lib.IntN.{pos}
use lib.ListN.{get_or, length-append}
use lib.Seq.{take_all}
use mir.Syntax.{w64}
use mir.Val.{SFits}
use borrow.Author.Rules.{rules}
use Rattle.word.proofs.Fits.{back}
use Rattle.buffer.specs.Lines.{field_bytes}
use Rattle.buffer.proofs.Lines.{fields_more, line_length}
use Rattle.buffer.proofs.room_left.Goals as goal

pub loop-z-init : goal.loop-z-init
unfolding field_bytes
loop-z-init c = rw (back c.ranges.serial) (omega (arith, c.in_ok-left.ensures, rw (back c.ranges.serial) at c.number_length.ensures.count))

pub loop-z-preserved : goal.loop-z-preserved
loop-z-preserved c =
    let f : SFits w64 (get_or c.args.fields.now c.loop-z.z-index (pos 0)) = search rules in
    let i = rw (back c.ranges.serial) at c.loop-z.invariant in
    rw (back c.ranges.serial, fields_more c.args.fields.now c.loop-z.z-index c.loop-z-test.true)
    (simp length-append (omega (arith, i, c.in_ok-left-2.ensures, rw (back f) at c.number_length-in-loop-z.ensures.count)))

pub returns : goal.returns
returns c =
    let i = rw (back c.ranges.serial, take_all c.loop-z.z-index c.args.fields.now c.loop-z-test.false) at c.loop-z.invariant in
    omega (arith, i, line_length c.args.serial c.args.word.now c.args.fields.now)
