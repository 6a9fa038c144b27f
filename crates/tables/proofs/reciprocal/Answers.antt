-- `tables::reciprocal` meets its contract: nought outside the cells, and inside the reciprocal of the cell's centre.
use mathlib.Core.Path.{◌≡◌, sym, ◌∙◌, ap}
use mathlib.Core.Bool.{true}
use borrow.Author.Rules.{rules}
use Rattle.word.proofs.Fits.{back}
use Rattle.table_numbers.specs.Cell.{is_cell}
use Rattle.table_numbers.specs.Rows.{entry}
use Rattle.tables.proofs.Cells.{no_reciprocal, in_table, cell_reciprocal_lem}
use Rattle.tables.proofs.Division.{CentreFits, centre_fits, inverse_is}
use Rattle.tables.proofs.reciprocal.Goals as goal
use Rattle.tables.proofs.reciprocal.Goals.{Then-is_cell}

inside : (c : Then-is_cell) → is_cell c.before.before.args.column c.before.before.args.row ≡ true
inside c = let s = c.before.before in simp (back, s.ranges.column, s.ranges.row) at (sym c.before.is_cell.ensures ∙ c.if-is_cell.true)

facts : (c : Then-is_cell) → CentreFits c.before.before.args.column c.before.before.args.row
facts c = let s = c.before.before in centre_fits (in_table s.args.column s.args.row (inside c))

pub overflow_mul-x : goal.overflow_mul-x
overflow_mul-x c = let f = facts c in search rules

pub overflow_mul-y : goal.overflow_mul-y
overflow_mul-y c = let f = facts c in search rules

pub inverse-requires : goal.inverse-requires
inverse-requires c = let s = c.before.before in let f = facts c in
    simp (back, s.ranges.column, s.ranges.row, f.columns, f.rows, f.x, f.y) f.inverse

pub returns-then-is_cell : goal.returns-then-is_cell
returns-then-is_cell c = let s = c.before.before.before in let f = facts c.before in let i = inside c.before in
    simp (back, s.ranges.column, s.ranges.row, f.columns, f.rows, f.x, f.y) at c.inverse.ensures
    ∙ ap entry (inverse_is (in_table s.args.column s.args.row i)) ∙ cell_reciprocal_lem s.args.column s.args.row i

pub returns-else-is_cell : goal.returns-else-is_cell
returns-else-is_cell c =
    let s = c.before.before in
    no_reciprocal s.args.column s.args.row (simp (back, s.ranges.column, s.ranges.row) at (sym c.before.is_cell.ensures ∙ c.if-is_cell.false))
