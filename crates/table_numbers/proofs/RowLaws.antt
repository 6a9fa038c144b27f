-- Rows and cells in one line: what stands at each number, and outside.
use mathlib.Core.Path.{◌≡◌, refl, sym, ◌∙◌, ap}
use mathlib.Core.List.{List, [], ◌∷◌}
use mathlib.Core.Logic.{◌⊎◌, inl, inr}
use Prim.Native.Nat.{ℕ, zero, suc, ◌+◌, ◌/◌, ◌%◌, ◌≤◌, ◌<◌}
use native.Mathlib.Nat.{not-suc-le-zero, le_of_suc-le-suc}
use native.Mathlib.Omega.{arith}
use lib.IntN.{ℤ, pos, negsuc}
use lib.ListN.{length, get_or, get_or-eq_default}
use Rattle.algebra.specs.Gauss.{𝔾}
use Rattle.table_numbers.specs.declared.Entry.{Entry}
use Rattle.table_numbers.specs.Listed.{nought, by_digit}
use Rattle.table_numbers.specs.Cell.{cell_at}
use Rattle.table_numbers.specs.Numbers48.{step_logs, reciprocal_logs}
use Rattle.table_numbers.specs.Table.{step_table}
use Rattle.table_numbers.specs.Rows.{entry, none, step_row, part, row_at, reciprocal_log_at}

pub row_entry : (n : ℕ) (dx dy : ℤ) → by_digit (step_row n dx) none dy ≡ entry (step_table n dx dy)
unfolding step_row step_table
row_entry n dx (negsuc zero) = refl
row_entry n dx (negsuc (suc k)) = refl
row_entry n dx (pos zero) = refl
row_entry n dx (pos (suc zero)) = refl
row_entry n dx (pos (suc (suc k))) = refl

-- ---- outside: no step before the first or after the fortieth
abbrev pub row_of : List 𝔾 → List Entry
row_of l = entry (by_digit l nought (negsuc 0)) ∷ entry (by_digit l nought (pos 0)) ∷ entry (by_digit l nought (pos 1)) ∷ []

abbrev pub no_row : List Entry
no_row = row_of []

by_none : (d : ℤ) → by_digit {A = List 𝔾} [] [] d ≡ []
by_none (negsuc zero) = refl
by_none (negsuc (suc k)) = refl
by_none (pos zero) = refl
by_none (pos (suc zero)) = refl
by_none (pos (suc (suc k))) = refl

pub no_step : (n : ℕ) (dx : ℤ) → (n < 1) ⊎ (40 < n) → no_row ≡ step_row n dx
unfolding step_row step_table step_logs
no_step zero dx h = ap row_of (sym (by_none dx))
no_step (suc n) dx (inl h) = absurd (not-suc-le-zero (le_of_suc-le-suc h))
no_step (suc n) dx (inr h) = ap row_of (sym (by_none dx) ∙ ap (λ m. by_digit m [] dx) (sym (get_or-eq_default ([] ∷ step_logs) [] h)))

-- ---- the rows in one line, m of them from k on, and behind the last
unfoldable pub rows : ℕ → ℕ → List (List Entry)
rows k zero = []
rows k (suc m) = row_at k ∷ rows (suc k) m

pub rows_at : (k m i j : ℕ) → j ≡ k + i → i < m → get_or (rows k m) i [] ≡ row_at j
unfolding rows
rows_at k zero i j e h = absurd (not-suc-le-zero h)
rows_at k (suc m) zero j e h = ap row_at (omega arith)
rows_at k (suc m) (suc i) j e h = rows_at (suc k) m i j (omega arith) (omega arith)

pub rows_over : (k : ℕ) → 123 ≤ k → no_row ≡ row_at k
rows_over k h = no_step (k / 3) (part (k % 3)) (inr (omega arith))

-- ---- the cells likewise
unfoldable pub cells : ℕ → ℕ → List Entry
cells k zero = []
cells k (suc m) = reciprocal_log_at k ∷ cells (suc k) m

pub cells_at : (k m i j : ℕ) → j ≡ k + i → i < m → get_or (cells k m) i none ≡ reciprocal_log_at j
unfolding cells
cells_at k zero i j e h = absurd (not-suc-le-zero h)
cells_at k (suc m) zero j e h = ap reciprocal_log_at (omega arith)
cells_at k (suc m) (suc i) j e h = cells_at (suc k) m i j (omega arith) (omega arith)

no_cell : (l : List (List 𝔾)) (k : ℕ) → length l ≤ 8 → 256 ≤ k → none ≡ entry (cell_at l k)
no_cell l k h r = ap (λ column. entry (get_or column (k % 32) nought)) (sym (get_or-eq_default l [] (omega arith)))

pub cells_over : (k : ℕ) → 256 ≤ k → none ≡ reciprocal_log_at k
unfolding reciprocal_logs
cells_over k = no_cell reciprocal_logs k (omega arith)
