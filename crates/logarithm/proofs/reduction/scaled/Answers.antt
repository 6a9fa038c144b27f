-- `logarithm::reduction::scaled` meets its contract.
use native.Mathlib.Omega.{arith}
use lib.Dec.{lit≤}
use Rattle.word.proofs.Fits.{back}
use Rattle.word.proofs.Shift.{shift_left}
use Rattle.logarithm.proofs.Fits.{scale_up, scale_down, scale_length}
use Rattle.logarithm.proofs.reduction.scaled.Goals as goal

pub overflow_cast-result-else-b-le48 : goal.overflow_cast-result-else-b-le48
overflow_cast-result-else-b-le48 c = record { sfits = omega (arith, scale_length c.requires) }

pub overflow_shr-result : goal.overflow_shr-result
overflow_shr-result c = omega (arith, scale_length c.requires)

pub overflow_cast-result-else-b-le48-2 : goal.overflow_cast-result-else-b-le48-2
overflow_cast-result-else-b-le48-2 c = record { sfits = omega (arith, scale_length c.requires) }

pub overflow_shr-result-else-b-le48 : goal.overflow_shr-result-else-b-le48
overflow_shr-result-else-b-le48 c = omega (arith, scale_length c.requires)

pub returns-then-b-le48 : goal.returns-then-b-le48
returns-then-b-le48 c = let f = scale_up c.requires (lit≤ tt) (omega arith) in simp (shift_left, f.x, f.y) f.made

pub returns-else-b-le48 : goal.returns-else-b-le48
returns-else-b-le48 c = let f = scale_down c.requires (lit≤ tt) (omega arith) in simp (back, f.x, f.y, f.over_x, f.over_y) f.made
