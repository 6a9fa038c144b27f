-- The tables and the constants at the width 48 keep the promise.
use lib.Dec.{T}
use Rattle.algebra.specs.Gauss.{ιᵍ, negᵍ, ◌+ᵍ◌, ◌*ᵍ◌}
use Rattle.algebra.specs.Size.{abs}
use Rattle.algebra.specs.Rounding.{nearest}
use Rattle.word.specs.Compare.{between}
use Rattle.point.specs.Limits.{in_box}
use Rattle.series.specs.Series.{D}
use Rattle.table_numbers.specs.Reciprocal.{reciprocal}
use Rattle.table_numbers.specs.Cell.{is_cell, cell_of}
use Rattle.table_numbers.specs.Numbers48.{step_logs, reciprocal_logs, constants48}
use Rattle.table_numbers.specs.Table.{step_table, reciprocal_table}
use Rattle.table_numbers.proofs.Promises.{StepPromise, ReciprocalPromise, ConstantsPromise}
use Rattle.table_numbers.proofs.Kept.{step_test, steps_test, steps_kept, cells, reciprocal_test, reciprocals_kept, constants_test, constants_kept}

steps_48 : T (steps_test 48 step_table 40)
unfolding step_test step_table step_logs D ◌+ᵍ◌ ◌*ᵍ◌ negᵍ ιᵍ abs
steps_48 = tt

pub step_promise : StepPromise 48 40 step_table
step_promise = steps_kept 48 step_table 40 steps_48

logs_48 : T (cells (reciprocal_test 48 reciprocal_table))
unfolding reciprocal_test reciprocal nearest reciprocal_table cell_of is_cell in_box between reciprocal_logs D ◌+ᵍ◌ ◌*ᵍ◌ negᵍ ιᵍ abs
logs_48 = tt

pub reciprocal_promise : ReciprocalPromise 48 reciprocal_table
reciprocal_promise = reciprocals_kept 48 reciprocal_table logs_48

kept_48 : T (constants_test 48 constants48)
unfolding constants_test constants48 D ◌+ᵍ◌ ◌*ᵍ◌ negᵍ ιᵍ abs
kept_48 = tt

pub constants_promise : ConstantsPromise 48 constants48
constants_promise = constants_kept 48 constants48 kept_48
