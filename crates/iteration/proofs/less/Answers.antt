-- `iteration::less` meets its contract.
use Rattle.algebra.specs.Gauss.{◌+ᵍ◌, negᵍ}
use Rattle.word.proofs.Fits.{back}
use Rattle.iteration.proofs.Fits.{less_fits}
use Rattle.iteration.proofs.less.Goals as goal

pub overflow_sub-result : goal.overflow_sub-result
overflow_sub-result c = let f = less_fits c.requires in simp (back, f.x, f.re) f.new_x

pub overflow_sub-result-2 : goal.overflow_sub-result-2
overflow_sub-result-2 c = let f = less_fits c.requires in simp (back, f.y, f.im) f.new_y

pub returns : goal.returns
unfolding ◌+ᵍ◌ negᵍ
returns c = let f = less_fits c.requires in simp (back, f.x, f.y, f.re, f.im, f.new_x, f.new_y)
