-- `register::select` meets its contract.
use mathlib.Core.Path.{◌∙◌, ap}
use lib.IntN.{pos, neg_ℤ, ◌*ℤ◌}
use mir.Syntax.{w64}
use mir.Val.{SFits}
use borrow.Author.Rules.{rules}
use Rattle.algebra.specs.Gauss.{two}
use Rattle.word.proofs.Fits.{back}
use Rattle.iteration.specs.Select.{cut}
use Rattle.register.specs.Register.{register_select}
use Rattle.register.proofs.select.Goals as goal

pub returns : goal.returns
unfolding register_select
returns c =
    let x : SFits w64 c.args.r.x = search rules in
    let y : SFits w64 c.args.r.y = search rules in
    let dx : SFits w64 c.cut.result = search rules in
    let dy : SFits w64 c.cut-2.result = search rules in
    let re = c.cut.ensures ∙ ap (cut (neg_ℤ (two 47)) (pos 3 *ℤ two 45)) (back x) in
    let im = c.cut-2.ensures ∙ ap (cut (neg_ℤ (pos 3 *ℤ two 46)) (pos 13 *ℤ two 44)) (back y) in
    λ i. record { dx = (back dx ∙ re) i; dy = (back dy ∙ im) i }
