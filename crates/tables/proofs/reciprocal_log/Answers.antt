-- `tables::reciprocal_log` meets its contract: nought outside the cells, and inside the look-up's, at the cell's number.
use mathlib.Core.Path.{sym, ◌∙◌, ap}
use Rattle.word.proofs.Fits.{back}
use Rattle.table_numbers.specs.Rows.{entry, reciprocal_log_at}
use Rattle.table_numbers.proofs.TableLaws.{reciprocal_table_at}
use Rattle.table_numbers.proofs.Promised.{log_kept}
use Rattle.tables.proofs.Cells.{no_log}
use Rattle.tables.proofs.reciprocal_log.Goals as goal

pub returns-in-Some : goal.returns-in-Some
returns-in-Some c =
    let a = c.args in
    let both = log_kept a.column a.row
    (c.reciprocal_log_at.ensures ∙ ap reciprocal_log_at (simp (back, c.ranges.column, c.ranges.row) at c.in-Some.ensures)
    ∙ ap entry (sym (reciprocal_table_at a.column a.row))) in
    record { value = both.0; promise = both.1 }

pub returns-in-None : goal.returns-in-None
returns-in-None c =
    let a = c.args in
    let both = log_kept a.column a.row
    (no_log a.column a.row (simp (back, c.ranges.column, c.ranges.row) at c.in-None.ensures)
    ∙ ap entry (sym (reciprocal_table_at a.column a.row))) in
    record { value = both.0; promise = both.1 }
