-- `register::doubled_less` meets its contract.
use mathlib.Core.Path.{ap}
use Rattle.word.proofs.Fits.{back}
use Rattle.word.proofs.Shift.{shift_left}
use Rattle.point.specs.Point.{point}
use Rattle.register.proofs.Fits.{less_fits}
use Rattle.register.proofs.doubled_less.Goals as goal

pub returns : goal.returns
returns c = let f = less_fits c.requires in
    simp (back, shift_left, f.x, f.y, f.twice_x, f.twice_y, f.up_re, f.up_im, f.new_x, f.new_y) (ap point f.made)

-- ---- what the operations ask
pub overflow_sub-result : goal.overflow_sub-result
overflow_sub-result c = let f = less_fits c.requires in simp (back, shift_left, f.x, f.twice_x, f.up_re) f.new_x

pub overflow_sub-result-2 : goal.overflow_sub-result-2
overflow_sub-result-2 c = let f = less_fits c.requires in simp (back, shift_left, f.y, f.twice_y, f.up_im) f.new_y
