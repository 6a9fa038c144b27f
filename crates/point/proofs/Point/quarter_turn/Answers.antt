-- `point::Point::quarter_turn` meets its contract.
use Rattle.algebra.proofs.Gauss.{i_mul}
use Rattle.word.proofs.Fits.{back, zero_sub}
use Rattle.point.proofs.Fits.{point_fits}
use Rattle.point.proofs.Point.quarter_turn.Goals as goal

pub returns : goal.returns
returns c = let f = point_fits c.requires in let m = rw (zero_sub c.args.self.y) at f.minus_y in simp (back, zero_sub, i_mul, f.x, f.y, m)
