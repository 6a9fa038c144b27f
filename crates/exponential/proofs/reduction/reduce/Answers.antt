-- `exponential::reduction::reduce` meets its contract.
use mathlib.Core.Path.{◌∙◌, ap}
use mathlib.Core.Bool.{cond}
use Rattle.point.specs.Point.{gauss}
use Rattle.table_numbers.specs.Numbers48.{constants48}
use Rattle.exponential.specs.Reduction.{reduced, unreduced, reduction}
use Rattle.exponential.proofs.reduction.reduce.Goals as goal

pub returns-then-is_near : goal.returns-then-is_near
unfolding reduction
returns-then-is_near c =
    let e = gauss c.args.exponent in
    let s = gauss c.args.start in
    ap (λ b. cond b (unreduced e s) (reduced constants48 e s)) c.if-is_near.ensures

pub returns : goal.returns
unfolding reduction
returns c =
    let e = gauss c.args.exponent in
    let s = gauss c.args.start in
    c.brought_back.ensures ∙ ap (λ b. cond b (unreduced e s) (reduced constants48 e s)) c.if-is_near.ensures
