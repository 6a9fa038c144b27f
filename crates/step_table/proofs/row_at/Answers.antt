-- `step_table::row_at` meets its contract: the line is the specification's.
use Rattle.std.proofs.Common.{arith, rules}
use Rattle.table_numbers.specs.Numbers48.{step_logs}
use Rattle.table_numbers.specs.Table.{step_table}
use Rattle.table_numbers.specs.Rows.{step_row}
use Rattle.table_numbers.proofs.RowLaws.{rows, rows_at, rows_over}
use Rattle.step_table.proofs.row_at.Goals as goal

pub returns-then-index-lt123 : goal.returns-then-index-lt123
unfolding step_row step_table step_logs rows
returns-then-index-lt123 c = rows_at 0 123 c.args.index c.args.index (omega arith) (search rules)

pub returns-else-index-lt123 : goal.returns-else-index-lt123
returns-else-index-lt123 c = rows_over c.args.index (search rules)
