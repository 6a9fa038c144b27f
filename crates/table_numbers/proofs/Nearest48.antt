-- Each number of the two tables at the width 48, and each constant, is the nearest unit.
use mathlib.Core.Path.{◌≡◌, refl}
use mathlib.Core.Bool.{Bool, ◌&&◌}
use Prim.Native.Nat.{ℕ, ◌≤◌}
use lib.Dec.{T, lit≤}
use lib.IntN.{pos, negsuc}
use Rattle.algebra.specs.Gauss.{ιᵍ, negᵍ, conj, ◌+ᵍ◌, ◌*ᵍ◌}
use Rattle.algebra.specs.Size.{abs}
use Rattle.algebra.specs.Rounding.{nearest}
use Rattle.algebra.proofs.Test.{and_left, and_right}
use Rattle.word.specs.Compare.{between}
use Rattle.point.specs.Limits.{in_box}
use Rattle.series.specs.Series.{D}
use Rattle.table_numbers.specs.Reciprocal.{reciprocal}
use Rattle.table_numbers.specs.Cell.{is_cell, cell_of}
use Rattle.table_numbers.specs.Numbers48.{step_logs, reciprocal_logs, constants48}
use Rattle.table_numbers.specs.Table.{step_table, reciprocal_table}
use Rattle.table_numbers.proofs.Promises.{Move, eighth, doubling}
use Rattle.table_numbers.proofs.Nearest.{Nearest, NearestSteps, NearestReciprocals}
use Rattle.table_numbers.proofs.Kept.{cells}
use Rattle.table_numbers.proofs.NearestTest.{nearest_test, nearest_said, step_nearest_test, steps_nearest_test, steps_are_nearest, reciprocal_nearest_test, reciprocals_are_nearest}

steps_48 : T (steps_nearest_test 48 step_table 40)
unfolding step_nearest_test nearest_test step_table step_logs D ◌+ᵍ◌ ◌*ᵍ◌ negᵍ ιᵍ abs
steps_48 = tt

pub step_nearest : NearestSteps 48 40 step_table
step_nearest = steps_are_nearest 48 step_table 40 steps_48

logs_48 : T (cells (reciprocal_nearest_test 48 reciprocal_table))
unfolding reciprocal_nearest_test nearest_test reciprocal nearest reciprocal_table cell_of is_cell in_box between reciprocal_logs D ◌+ᵍ◌ ◌*ᵍ◌ negᵍ ιᵍ abs
logs_48 = tt

pub reciprocal_nearest : NearestReciprocals 48 reciprocal_table
reciprocal_nearest = reciprocals_are_nearest 48 reciprocal_table logs_48

-- ---- the constants: the eighth's w is nearest to a logarithm of 1 + i, the doubling's to one of 2
abbrev move_nearest_test : Move → Bool
move_nearest_test v = nearest_test 48 2 v.m v.c v.w

constants_48 : T (move_nearest_test (eighth constants48) && move_nearest_test (doubling constants48))
unfolding nearest_test constants48 D ◌+ᵍ◌ ◌*ᵍ◌ negᵍ ιᵍ abs
constants_48 = tt

abbrev NearestMove : Move → Type 0
NearestMove v = (T : ℕ) → 24 ≤ T → Nearest 48 T v.m v.c v.w

pub constants_nearest : NearestMove (eighth constants48) × NearestMove (doubling constants48)
constants_nearest = (said (eighth constants48) (and_left A B constants_48), said (doubling constants48) (and_right A B constants_48))
  where
    A : Bool
    A = move_nearest_test (eighth constants48)

    B : Bool
    B = move_nearest_test (doubling constants48)

    said : (v : Move) → T (move_nearest_test v) → NearestMove v
    said v = nearest_said 48 2 v.m v.c v.w (lit≤ tt)

-- they stand in the step table already: the logarithms of 1 − 1/2 and of 1 + (−1 + i)/2
pub constants_in_table : (step_table 1 (negsuc 0) (pos 0) ≡ negᵍ (doubling constants48).w)
    × (step_table 1 (negsuc 0) (pos 1) ≡ conj (negᵍ (eighth constants48).w))
unfolding step_table step_logs constants48 negᵍ conj
constants_in_table = (refl, refl)
