-- `logarithm::reduction::negated` meets its contract.
use Rattle.algebra.specs.Gauss.{negᵍ}
use Rattle.word.proofs.Fits.{back, zero_sub}
use Rattle.point.proofs.Fits.{point_fits}
use Rattle.logarithm.proofs.reduction.negated.Goals as goal

pub returns : goal.returns
unfolding negᵍ
returns c =
    let f = point_fits c.requires in
    let x = rw (zero_sub c.args.t.re) at f.minus_x in
    let y = rw (zero_sub c.args.t.im) at f.minus_y in
    simp (back, zero_sub, f.x, f.y, x, y)
