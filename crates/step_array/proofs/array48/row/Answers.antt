-- `step_array::array48::row` meets its contract: the array is the specification's. Made by tests/tables/generate.py.
use Rattle.table_numbers.specs.Numbers48.{step_logs}
use Rattle.table_numbers.specs.Table.{step_table}
use Rattle.table_numbers.specs.Rows.{step_row}
use Rattle.step_array.proofs.Matrices.{matrices, matrices_at}
use Rattle.step_array.proofs.array48.row.Goals as goal

pub returns : goal.returns
unfolding step_row matrices step_table step_logs
returns c = matrices_at 1 40 c.args.i c.args.place c.requires.0 c.requires.1
