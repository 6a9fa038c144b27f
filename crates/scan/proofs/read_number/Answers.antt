-- `scan::read_number` meets its contract: the part cut to the slice, read as a field to its end.
use Rattle.std.proofs.Common.{◌≡◌, ◌-◌, take, drop, ap, sym, ◌∙◌}
use lib.Seq.{slice}
use Rattle.word.proofs.Fits.{back}
use Rattle.scan.specs.Decimal.{read_number}
use Rattle.scan.proofs.Find.{cut, part_slice}
use Rattle.scan.proofs.Read.{number_is}
use Rattle.scan.proofs.Tab.{read_to_end, read_not_to_end, read_none_to_end}
use Rattle.scan.proofs.read_number.Goals as goal
use Rattle.scan.proofs.read_number.Goals.{After-read_field}

-- the part cut to the slice
bytes : (c : After-read_field) →
    take (c.min-end.result - c.min.result) (drop c.min.result c.args.s.now) ≡ slice c.args.from c.args.to c.args.s.now
bytes c =
    let p = cut c.min-end.ensures c.min.ensures in
    part_slice c.min.result c.min-end.result c.args.s.now p.low ∙ p.same

pub returns-in_err-number : goal.returns-in_err-number
returns-in_err-number c =
    c.from_residual.ensures
    ∙ (read_none_to_end _ c.in_err-number.ensures ∙ ap read_number (bytes (goal.at.returns-in_err-number c).After-read_field))

pub returns-then-number-part : goal.returns-then-number-part
returns-then-number-part c =
    read_not_to_end _ c.in_ok-number.ensures c.if-number-part.true
    ∙ ap read_number (bytes (goal.at.returns-then-number-part c).After-read_field)

pub returns : goal.returns
returns c =
    let e = read_to_end _ c.in_ok-number.ensures c.if-number-part.false in
    rw (back (number_is _ c.in_ok-number.number.value (sym e)).fits) (e ∙ ap read_number (bytes (goal.at.returns c).After-read_field))
