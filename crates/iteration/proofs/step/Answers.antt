-- `iteration::step` meets its contract.
use mathlib.Core.Path.{sym, ◌∙◌, ap, subst}
use Rattle.point.specs.Point.{gauss}
use Rattle.table_numbers.specs.Listed.{by_digit}
use Rattle.table_numbers.specs.Rows.{number, none}
use Rattle.table_numbers.proofs.DigitPlaces.{trit_word}
use Rattle.iteration.specs.Code.{LessPre}
use Rattle.iteration.proofs.step.Goals as goal

pub less-requires : goal.less-requires
less-requires c =
    let a = c.args in
    let picked = c.pick.ensures ∙ ap (by_digit a.row none) (trit_word c.requires.digit.y) in
    subst (λ e. LessPre (gauss a.s.sum) (number e)) (sym picked) (record { sum = c.requires.small.sum; left = c.requires.left })
