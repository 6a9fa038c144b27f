-- `tables::pick` meets its contract.
use mathlib.Core.Path.{◌≡◌, sym, ◌∙◌}
use mathlib.Core.Bool.{false}
use lib.IntN.{pos, negsuc}
use lib.ListN.{get_or}
use mir.Syntax.{w64}
use mir.Val.{SFits}
use borrow.Author.Rules.{rules}
use Rattle.word.specs.Compare.{between}
use Rattle.word.proofs.Fits.{back}
use Rattle.table_numbers.specs.Rows.{none}
use Rattle.table_numbers.proofs.DigitPlaces.{trit_of, outside}
use Rattle.tables.proofs.Signs.{by_sign_lem}
use Rattle.tables.proofs.pick.Goals as goal

pub returns-then-not-is_between : goal.returns-then-not-is_between
returns-then-not-is_between c =
    let t : between (negsuc 0) (pos 1) c.args.dy ≡ false = simp (back, c.ranges.dy) at (sym c.is_between.ensures ∙ c.if-not-is_between.true) in
    sym (outside c.args.row none c.args.dy t)

pub returns : goal.returns
returns c =
    let row = c.args.row in
    let digit = trit_of c.args.dy (simp (back, c.ranges.dy) at (sym c.is_between.ensures ∙ c.if-not-is_between.false)) in
    let minus_re : SFits w64 (get_or row 0 none).re = search rules in
    let zero_re : SFits w64 (get_or row 1 none).re = search rules in
    let plus_re : SFits w64 (get_or row 2 none).re = search rules in
    let minus_im : SFits w64 (get_or row 0 none).im = search rules in
    let zero_im : SFits w64 (get_or row 1 none).im = search rules in
    let plus_im : SFits w64 (get_or row 2 none).im = search rules in
    let made_re : SFits w64 c.by_sign.result = search rules in
    let made_im : SFits w64 c.by_sign-2.result = search rules in
    let re = simp (back, c.ranges.dy, minus_re, zero_re, plus_re) at c.by_sign.ensures in
    let im = simp (back, c.ranges.dy, minus_im, zero_im, plus_im) at c.by_sign-2.ensures in
    (λ i. record { re = (back made_re ∙ re) i; im = (back made_im ∙ im) i }) ∙ by_sign_lem row none digit
