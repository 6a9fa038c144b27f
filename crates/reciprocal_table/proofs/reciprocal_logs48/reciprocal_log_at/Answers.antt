-- `reciprocal_table::reciprocal_logs48::reciprocal_log_at` meets its contract: the line is the specification's. Made by tests/tables/generate.py.
use Rattle.std.proofs.Common.{arith, rules}
use Rattle.table_numbers.specs.Numbers48.{reciprocal_logs}
use Rattle.table_numbers.proofs.RowLaws.{cells, cells_at, cells_over}
use Rattle.reciprocal_table.proofs.reciprocal_logs48.reciprocal_log_at.Goals as goal

pub returns-then-cell-lt256 : goal.returns-then-cell-lt256
unfolding reciprocal_logs cells
returns-then-cell-lt256 c = cells_at 0 256 c.args.cell c.args.cell (omega arith) (search rules)

pub returns-else-cell-lt256 : goal.returns-else-cell-lt256
returns-else-cell-lt256 c = cells_over c.args.cell (search rules)
