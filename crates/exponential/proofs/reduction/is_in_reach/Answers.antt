-- `exponential::reduction::is_in_reach` meets its contract: what lies in the rectangle lies within reach.
use mathlib.Core.Path.{sym, ◌∙◌}
use native.Mathlib.Omega.{arith}
use Rattle.point.specs.Point.{gauss}
use Rattle.exponential.specs.Reduction.{in_reach}
use Rattle.exponential.proofs.Given.{rectangle_reaches}
use Rattle.exponential.proofs.reduction.is_in_reach.Goals as goal

pub returns-then-is_near : goal.returns-then-is_near
returns-then-is_near c = c.if-is_near.true ∙ sym (rectangle_reaches 48 (gauss c.args.exponent) (omega arith) (sym c.if-is_near.ensures))

pub returns-else-is_near : goal.returns-else-is_near
unfolding in_reach
returns-else-is_near c = c.is_in_box.ensures
