-- `tables::cell_of` meets its contract.
use mathlib.Core.Path.{◌≡◌, sym, ◌∙◌}
use mathlib.Core.Bool.{true}
use Rattle.word.proofs.Fits.{back}
use Rattle.table_numbers.specs.Cell.{is_cell}
use Rattle.tables.proofs.Cells.{in_table, cell_number, cell_fits}
use Rattle.tables.proofs.cell_of.Goals as goal
use Rattle.tables.proofs.cell_of.Goals.{Then-is_cell}

inside : (c : Then-is_cell) → is_cell c.before.before.args.column c.before.before.args.row ≡ true
inside c = let s = c.before.before in simp (back, s.ranges.column, s.ranges.row) at (sym c.before.is_cell.ensures ∙ c.if-is_cell.true)

pub cell_number-requires : goal.cell_number-requires
cell_number-requires c =
    let s = c.before.before in
    simp (back, s.ranges.column, s.ranges.row) (cell_fits s.args.column s.args.row (in_table s.args.column s.args.row (inside c)))

pub returns-then-is_cell : goal.returns-then-is_cell
returns-then-is_cell c =
    let s = c.before.before.before in
    simp (back, s.ranges.column, s.ranges.row) at c.cell_number.ensures ∙ cell_number s.args.column s.args.row (inside c.before)

pub returns-else-is_cell : goal.returns-else-is_cell
returns-else-is_cell c = let s = c.before.before in simp (back, s.ranges.column, s.ranges.row) at (sym c.before.is_cell.ensures ∙ c.if-is_cell.false)
