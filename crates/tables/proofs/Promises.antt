-- THE PROMISE of the tables that the look-ups hand out: all that the engines cite of their numbers. Each look-up's contract has its part
-- (`promise` of `row` and of `reciprocal_log`); here is the whole.
use mathlib.Core.Path.{refl, subst}
use Rattle.table_numbers.specs.Promise.{StepEntry}
use Rattle.table_numbers.specs.Rows.{number}
use Rattle.table_numbers.specs.Table.{step_table, reciprocal_table}
use Rattle.table_numbers.proofs.Promises.{StepPromise, ReciprocalPromise}
use Rattle.table_numbers.proofs.RowLaws.{row_entry}
use Rattle.table_numbers.proofs.Promised.{row_promise, log_promise}

-- every row of `row` keeps it, so the step table does
pub step_promise : StepPromise 48 40 step_table
step_promise n lo hi d k = subst (λ w. StepEntry 48 n d (number w)) (row_entry n d.re d.im) (row_promise n d.re lo hi d k refl)

-- every logarithm of `reciprocal_log` keeps it, so their table does
pub reciprocal_promise : ReciprocalPromise 48 reciprocal_table
reciprocal_promise column row = log_promise column row
