-- The 256 cells in one line: columns from 8 to 15, and rows from −16 to 15 in each. Any other is the cell 256.
use Rattle.std.specs.Prelude.{Bool, cond, List, [], ℕ, ◌/◌, ◌%◌, ℤ, pos, negsuc, nat_abs, ◌+ℤ◌, ◌-ℤ◌, ◌*ℤ◌, get_or}
use Rattle.algebra.specs.Gauss.{𝔾, gi}
use Rattle.point.specs.Limits.{in_box}
use Rattle.table_numbers.specs.Listed.{nought}

abbrev pub numbered : ℤ → ℤ → ℤ
numbered column row = (column -ℤ pos 8) *ℤ pos 32 +ℤ (row +ℤ pos 16)

unfoldable pub is_cell : ℤ → ℤ → Bool
is_cell column row = in_box (pos 8) (pos 15) (negsuc 15) (pos 15) (gi column row)

unfoldable pub cell_of : ℤ → ℤ → ℕ
cell_of column row = cond (is_cell column row) (nat_abs (numbered column row)) 256

-- what a list by columns has for a cell
abbrev pub cell_at : List (List 𝔾) → ℕ → 𝔾
cell_at l k = get_or (get_or l (k / 32) []) (k % 32) nought
