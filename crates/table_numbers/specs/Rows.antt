-- The tables as code has them: a struct to an entry, three of them to a row, the rows and the cells each in one line; and
-- what a look-up promises of what it hands out.
use Rattle.std.specs.Prelude.{cond, List, [], ◌∷◌, ℕ, zero, suc, ◌/◌, ◌%◌, ◌≤◌, ℤ, pos, negsuc, ◌≡◌}
use Rattle.algebra.specs.Gauss.{𝔾, gi}
use Rattle.point.specs.Digit.{IsDigit}
use Rattle.table_numbers.specs.declared.Entry.{Entry}
use Rattle.table_numbers.specs.Listed.{nought, by_digit}
use Rattle.table_numbers.specs.Cell.{is_cell, cell_at}
use Rattle.table_numbers.specs.Numbers48.{reciprocal_logs}
use Rattle.table_numbers.specs.Table.{step_table}
use Rattle.table_numbers.specs.Reciprocal.{reciprocal, centre, InTable}
use Rattle.table_numbers.specs.Promise.{StepEntry, ReciprocalEntry}

abbrev pub entry : 𝔾 → Entry
entry z = record { re = z.re; im = z.im }

abbrev pub number : Entry → 𝔾
number e = gi e.re e.im

abbrev pub none : Entry
none = entry nought

-- ---- the row of step n for dx, by dy from −1 to 1
unfoldable pub step_row : ℕ → ℤ → List Entry
step_row n dx = entry (step_table n dx (negsuc 0)) ∷ entry (step_table n dx (pos 0)) ∷ entry (step_table n dx (pos 1)) ∷ []

-- ---- the rows in one line, three to an n
abbrev pub part : ℕ → ℤ
part zero = negsuc 0
part (suc zero) = pos 0
part (suc (suc a)) = pos 1

abbrev pub row_at : ℕ → List Entry
row_at k = step_row (k / 3) (part (k % 3))

-- ---- the cells
-- the reciprocal of a cell, worked out from its X and Y (02, E6), and nought outside
unfoldable pub reciprocal_at : ℤ → ℤ → Entry
reciprocal_at column row = entry (cond (is_cell column row) (reciprocal (centre column) (centre row)) nought)

abbrev pub reciprocal_log_at : ℕ → Entry
reciprocal_log_at k = entry (cell_at reciprocal_logs k)

-- ---- what a look-up hands out: each entry of a row keeps the promise
abbrev pub RowPromise : ℕ → ℤ → List Entry → Type 0
RowPromise n dx row = 1 ≤ n → n ≤ 40 → (d : 𝔾) → IsDigit d → d.re ≡ dx → StepEntry 48 n d (number (by_digit row none d.im))

-- the logarithm of a cell's reciprocal keeps the promise
abbrev pub LogPromise : ℤ → ℤ → Entry → Type 0
LogPromise column row e = InTable column row → ReciprocalEntry 48 (reciprocal (centre column) (centre row)) (number e)
