-- The rows as an array over n: m matrices from n on, each of three rows.
use mathlib.Core.Path.{◌≡◌, refl, ◌∙◌, ap, ap₂}
use mathlib.Core.List.{List, [], ◌∷◌}
use Prim.Native.Nat.{ℕ, zero, suc, ◌+◌, ◌-◌, ◌≤◌, ◌<◌}
use native.Mathlib.Nat.{not-suc-le-zero}
use native.Mathlib.Omega.{arith}
use lib.IntN.{ℤ, pos, negsuc}
use lib.ListN.{get_or}
use Rattle.point.specs.Digit.{Trit}
use Rattle.table_numbers.specs.declared.Entry.{Entry}
use Rattle.table_numbers.specs.Rows.{step_row, part, RowPromise}
use Rattle.table_numbers.proofs.DigitPlaces.{place}
use Rattle.table_numbers.proofs.Promised.{row_kept, part_place}

unfoldable pub matrices : ℕ → ℕ → List (List (List Entry))
matrices n zero = []
matrices n (suc m) = (step_row n (negsuc 0) ∷ step_row n (pos 0) ∷ step_row n (pos 1) ∷ []) ∷ matrices (suc n) m

matrix_at : (n a : ℕ) → a < 3 → get_or (step_row n (negsuc 0) ∷ step_row n (pos 0) ∷ step_row n (pos 1) ∷ []) a [] ≡ step_row n (part a)
matrix_at n zero h = refl
matrix_at n (suc zero) h = refl
matrix_at n (suc (suc zero)) h = refl
matrix_at n (suc (suc (suc a))) h = absurd (over a h)
  where
    over : (a : ℕ) → suc (suc (suc a)) < 3 → ⊥
    over a h = omega arith

pub matrices_at : (n m i a : ℕ) → i < m → a < 3 → get_or (get_or (matrices n m) i []) a [] ≡ step_row (i + n) (part a)
unfolding matrices
matrices_at n zero i a h g = absurd (not-suc-le-zero h)
matrices_at n (suc m) zero a h g = matrix_at n a g ∙ ap (λ k. step_row k (part a)) (omega arith)
matrices_at n (suc m) (suc i) a h g = matrices_at (suc n) m i a (omega arith) g ∙ ap (λ k. step_row k (part a)) (omega arith)

-- the row that the array from 1 on has for n
pub array_kept : (n : ℕ) {dx : ℤ} {row : List Entry} → 1 ≤ n → Trit dx → row ≡ step_row (n - 1 + 1) (part (place dx)) →
    (row ≡ step_row n dx) × RowPromise n dx row
array_kept n {dx} h t e =
    let q : n - 1 + 1 ≡ n = omega arith in
    row_kept n dx (e ∙ ap₂ step_row q (part_place t))
