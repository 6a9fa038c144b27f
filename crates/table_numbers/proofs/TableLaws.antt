-- The reciprocals of the cells, and the table of their logarithms by column and row.
use mathlib.Core.Path.{◌≡◌, ap₂}
use mathlib.Core.Bool.{true}
use mathlib.Core.List.{[], ◌∷◌}
use lib.Dec.{lit<}
use lib.IntN.{ℤ, pos}
use lib.Signed.{shr_z}
use Rattle.algebra.proofs.Reify.{reify}
use Rattle.algebra.proofs.Linear.{lin, ◌&◌, none}
use Rattle.algebra.proofs.Floor.{floor_unique}
use Rattle.word.proofs.Compare.{is_between}
use Rattle.point.specs.Limits.{in_box}
use Rattle.table_numbers.specs.Reciprocal.{reciprocal, centre, InTable}
use Rattle.table_numbers.specs.Cell.{is_cell, cell_of, cell_at}
use Rattle.table_numbers.specs.Numbers48.{reciprocal_logs}
use Rattle.table_numbers.specs.Table.{reciprocal_table}
use Rattle.table_numbers.specs.Rows.{number, reciprocal_at}

-- a cell's reciprocal is that of the formula
module _ {column row : ℤ} (i : InTable column row) where
  is_cell_lem : is_cell column row ≡ true
  unfolding is_cell in_box
  is_cell_lem = rw (
    is_between {hi = pos 15} i.left (lin (column ∷ []) (i.right & none) (search reify depth 20) tt),
    is_between {hi = pos 15} i.low (lin (row ∷ []) (i.high & none) (search reify depth 20) tt),
  )

  pub reciprocal_at_lem : number (reciprocal_at column row) ≡ reciprocal (centre column) (centre row)
  unfolding reciprocal_at
  reciprocal_at_lem = rw is_cell_lem

halved : (i : ℤ) → shr_z (centre i) 2 ≡ i
halved i = floor_unique 2 (lit< tt) (centre i) i (lin (i ∷ []) none (search reify depth 20) tt)
    (lin (i ∷ []) none (search reify depth 20) tt)

pub reciprocal_table_at : (column row : ℤ) → reciprocal_table (centre column) (centre row) ≡ cell_at reciprocal_logs (cell_of column row)
unfolding reciprocal_table
reciprocal_table_at column row = ap₂ (λ x y. cell_at reciprocal_logs (cell_of x y)) (halved column) (halved row)
