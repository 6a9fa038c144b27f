-- `doubles::read_doubles` meets its contract.
use Rattle.std.proofs.Common.{◌≡◌, sym, ◌∙◌, lit≤, rules, true}
use lib.Ieee.{binary64, fits}
use mir.Syntax.{w64}
use mir.Val.{SFits}
use Rattle.word.proofs.Fits.{back}
use Rattle.doubles.proofs.Found.{both_some, first_none, second_none}
use Rattle.doubles.proofs.Kept.{settled}
use Rattle.doubles.proofs.read_doubles.Goals as goal

pub returns-in_err-read_part-clause-answer : goal.returns-in_err-read_part-clause-answer
returns-in_err-read_part-clause-answer c = c.from_residual.ensures ∙ sym (first_none 48 c.args.d (sym c.in_err-read_part.ensures))

pub returns-in_err-read_part-2-clause-answer : goal.returns-in_err-read_part-2-clause-answer
returns-in_err-read_part-2-clause-answer c =
    c.from_residual-in_err-read_part-2.ensures ∙ sym (second_none 48 c.args.d (sym c.in_err-read_part-2.ensures))

pub returns-clause-answer : goal.returns-clause-answer
returns-clause-answer c =
    let x : SFits w64 c.in_ok-read_part.field-0 = search rules in
    let y : SFits w64 c.in_ok-read_part-2.field-0 = search rules in
    rw (back x, back y) (sym (both_some 48 c.args.d (sym c.in_ok-read_part.ensures) (sym c.in_ok-read_part-2.ensures)))

pub returns-clause-back : goal.returns-clause-back
returns-clause-back c =
    let d = c.args.d in
    let x : SFits w64 c.in_ok-read_part.field-0 = search rules in
    let y : SFits w64 c.in_ok-read_part-2.field-0 = search rules in
    let f : fits binary64 d.x ≡ true = search rules in
    let g : fits binary64 d.y ≡ true = search rules in
    rw (back x, back y) (settled 48 (lit≤ tt) d f g (both_some 48 d (sym c.in_ok-read_part.ensures) (sym c.in_ok-read_part-2.ensures)))
