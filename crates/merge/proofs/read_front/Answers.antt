-- `merge::read_front` meets its contract: none, or what the line up to the newline is.
use mathlib.Core.Path.{◌≡◌, sym, ap, ◌∙◌}
use mathlib.Core.Bool.{true, false}
use borrow.Author.Rules.{rules}
use lib.ListN.{length}
use lib.Signed.{le_z}
use mir.Syntax.{w64}
use mir.Val.{SFits}
use Rattle.word.proofs.Fits.{back}
use Rattle.text.specs.Line.{read_line, serial_of}
use Rattle.stream.specs.Machine.{lines}
use Rattle.merge.specs.Merge.{by_number, front_line, front}
use Rattle.merge.proofs.Found.{front_none, front_is}
use Rattle.merge.proofs.read_front.Goals as goal
use Rattle.merge.proofs.read_front.Goals.{After-serial}

-- what is read is the serial of the line in front
is_read : (c : After-serial) → front c.args.last (lines c.args.s.now) ≡ by_number c.args.last c.serial.result
unfolding front_line
is_read c =
    let some : length c.args.s.now ≡ 0 → ⊥ = search rules in
    front_is c.args.s.now c.args.last some
    ∙ ap (by_number c.args.last) (sym (c.serial.ensures ∙ ap serial_of (c.read_line.ensures ∙ ap read_line c.first_line.ensures)))

pub returns-then-is_empty : goal.returns-then-is_empty
returns-then-is_empty c = let n : length c.args.s.now ≡ 0 = search rules in sym (front_none c.args.last c.args.s.now n)

pub returns-in-None : goal.returns-in-None
returns-in-None c = rw (is_read (goal.at.returns-in-None c).After-serial, c.in-None.is)

pub returns-in-Some : goal.returns-in-Some
returns-in-Some c =
    let f : SFits w64 c.in-Some.serial = search rules in
    let low : le_z c.in-Some.serial c.args.last ≡ true = rw (back f, back c.ranges.last) at c.if-serial-last.true in
    rw (is_read (goal.at.returns-in-Some c).After-serial, c.in-Some.is, low)

pub returns-in-Some-2 : goal.returns-in-Some-2
returns-in-Some-2 c =
    let f : SFits w64 c.in-Some.serial = search rules in
    let high : le_z c.in-Some.serial c.args.last ≡ false = rw (back f, back c.ranges.last) at c.if-serial-last.false in
    rw (is_read (goal.at.returns-in-Some-2 c).After-serial, c.in-Some.is, high, back f)
