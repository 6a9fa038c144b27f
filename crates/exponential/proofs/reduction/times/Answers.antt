-- `exponential::reduction::times` meets its contract: its products are those of a step by the same digit.
use mathlib.Core.Path.{ap}
use borrow.Author.Rules.{rules}
use Rattle.algebra.specs.Gauss.{◌*ᵍ◌}
use Rattle.algebra.proofs.Gauss.{g_mul_comm}
use Rattle.word.proofs.Fits.{back}
use Rattle.point.specs.Point.{gauss, gaussᵈ, point}
use Rattle.point.proofs.Fits.{step_fits}
use Rattle.exponential.proofs.reduction.times.Goals as goal

pub returns : goal.returns
unfolding ◌*ᵍ◌
returns c =
    let f = step_fits 0 c.requires.digit c.requires.parts in
    simp (back, f.x, f.y, f.dx, f.dy, f.dx_x, f.dy_y, f.dx_y, f.dy_x, f.re, f.im) (ap point (g_mul_comm (gaussᵈ c.args.d) (gauss c.args.s)))

pub overflow_sub-result : goal.overflow_sub-result
overflow_sub-result c = let f = step_fits 0 c.requires.digit c.requires.parts in search rules

pub overflow_mul-result-3 : goal.overflow_mul-result-3
overflow_mul-result-3 c = let f = step_fits 0 c.requires.digit c.requires.parts in search rules

pub overflow_mul-result-4 : goal.overflow_mul-result-4
overflow_mul-result-4 c = let f = step_fits 0 c.requires.digit c.requires.parts in search rules

pub overflow_add-result : goal.overflow_add-result
overflow_add-result c = let f = step_fits 0 c.requires.digit c.requires.parts in search rules
