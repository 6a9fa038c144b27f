-- `exponential::reduction::nearest` meets its contract.
use Rattle.word.proofs.Fits.{back}
use Rattle.exponential.proofs.Divided.{NearestFits, nearest_fits}
use Rattle.exponential.proofs.reduction.nearest.Goals as goal
use Rattle.exponential.proofs.reduction.nearest.Goals.{Start}

abbrev facts : (s : Start) → NearestFits s.args.x s.args.m
facts s = nearest_fits s.args.x s.args.m s.requires

pub returns : goal.returns
returns c = let f = facts c in simp (back, c.ranges.x, c.ranges.m, f.twice, f.more, f.above, f.double) f.made

pub overflow_mul-result : goal.overflow_mul-result
overflow_mul-result c = rw (back c.ranges.x) (facts c).twice

pub overflow_mul-result-2 : goal.overflow_mul-result-2
overflow_mul-result-2 c = rw (back c.ranges.m) (facts c).more

pub overflow_add-result : goal.overflow_add-result
overflow_add-result c = let f = facts c in simp (back, c.ranges.x, c.ranges.m, f.twice, f.more) f.above

pub overflow_cast-result : goal.overflow_cast-result
overflow_cast-result c = let f = facts c in simp (back, c.ranges.x, c.ranges.m, f.twice, f.more, f.above) (f.above_sign.sign, f.above_sign.fits)

pub overflow_mul-result-3 : goal.overflow_mul-result-3
overflow_mul-result-3 c = rw (back c.ranges.m) (facts c).double

pub overflow_cast-result-2 : goal.overflow_cast-result-2
overflow_cast-result-2 c = let f = facts c in simp (back, c.ranges.m, f.double) (f.double_sign.sign, f.double_sign.fits)

pub nonzero_div-result : goal.nonzero_div-result
nonzero_div-result c = let f = facts c in simp (back, c.ranges.m, f.double) f.some
