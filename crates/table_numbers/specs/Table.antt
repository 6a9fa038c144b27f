-- The tables at the width 48 as functions: the listed numbers, and nought outside.
use Rattle.std.specs.Prelude.{[], ◌∷◌, get_or}
use Rattle.std.specs.Int.Signed.{shr_z}
use Rattle.table_numbers.specs.Promise.{StepTable, ReciprocalTable}
use Rattle.table_numbers.specs.Listed.{nought, by_digit}
use Rattle.table_numbers.specs.Cell.{cell_of, cell_at}
use Rattle.table_numbers.specs.Numbers48.{step_logs, reciprocal_logs}

-- the logarithm of 1 + d/2^n, n from 1 to 40
unfoldable pub step_table : StepTable
step_table n dx dy = by_digit (by_digit (get_or ([] ∷ step_logs) n []) [] dx) nought dy

-- the logarithm of the reciprocal, by X and Y
unfoldable pub reciprocal_table : ReciprocalTable
reciprocal_table X Y = cell_at reciprocal_logs (cell_of (shr_z X 2) (shr_z Y 2))
