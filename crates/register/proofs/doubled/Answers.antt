-- `register::doubled` meets its contract.
use mathlib.Core.Path.{ap}
use Rattle.word.proofs.Fits.{back}
use Rattle.point.specs.Point.{point}
use Rattle.register.proofs.Fits.{double_fits}
use Rattle.register.proofs.doubled.Goals as goal

pub returns : goal.returns
returns c = let f = double_fits c.requires in simp (back, f.x, f.y, f.twice_x, f.twice_y) (ap point f.made)
