-- `register::step` meets its contract.
use mathlib.Core.Path.{sym, ◌∙◌, ap, subst}
use mir.Syntax.{w64}
use mir.Val.{SFits}
use borrow.Author.Rules.{rules}
use Rattle.word.proofs.Fits.{back}
use Rattle.point.specs.Point.{gauss}
use Rattle.table_numbers.specs.Listed.{by_digit}
use Rattle.table_numbers.specs.Rows.{number, none}
use Rattle.register.specs.Code.{LessPre}
use Rattle.register.proofs.step.Goals as goal

pub doubled_less-requires : goal.doubled_less-requires
doubled_less-requires c =
    let a = c.args in
    let dy : SFits w64 a.d.dy = search rules in
    let picked = c.pick.ensures ∙ ap (by_digit a.row none) (back dy) in
    subst (λ e. LessPre (gauss a.s.sum) (number e) a.n) (sym picked)
    (record { count = c.requires.count; before = c.requires.small.sum; after = c.requires.after })
