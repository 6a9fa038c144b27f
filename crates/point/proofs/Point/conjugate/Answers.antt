-- `point::Point::conjugate` meets its contract.
use Rattle.algebra.specs.Gauss.{conj}
use Rattle.word.proofs.Fits.{back, zero_sub}
use Rattle.point.proofs.Fits.{point_fits}
use Rattle.point.proofs.Point.conjugate.Goals as goal

pub returns : goal.returns
unfolding conj
returns c = let f = point_fits c.requires in let m = rw (zero_sub c.args.self.y) at f.minus_y in simp (back, zero_sub, f.x, f.y, m)
