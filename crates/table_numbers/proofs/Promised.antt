-- What a look-up hands out keeps the promise.
use mathlib.Core.Path.{◌≡◌, refl, sym, ◌∙◌, ap, ap₂, subst}
use mathlib.Core.Bool.{false}
use mathlib.Core.List.{List, [], ◌∷◌}
use Prim.Native.Nat.{ℕ, ◌+◌, ◌*◌, ◌/◌, ◌%◌}
use native.Mathlib.Omega.{arith}
use lib.IntN.{ℤ, pos, negsuc}
use lib.ListN.{get_or}
use Rattle.word.specs.Compare.{between}
use Rattle.point.specs.Digit.{Trit, t-, t0, t+}
use Rattle.table_numbers.specs.declared.Entry.{Entry}
use Rattle.table_numbers.specs.Reciprocal.{centre}
use Rattle.table_numbers.specs.Promise.{StepEntry}
use Rattle.table_numbers.specs.Listed.{by_digit}
use Rattle.table_numbers.specs.Numbers48.{step_logs}
use Rattle.table_numbers.specs.Table.{step_table, reciprocal_table}
use Rattle.table_numbers.specs.Rows.{entry, number, none, step_row, part, row_at, RowPromise, LogPromise}
use Rattle.table_numbers.proofs.Promise48.{step_promise, reciprocal_promise}
use Rattle.table_numbers.proofs.RowLaws.{row_entry, row_of, no_row}
use Rattle.table_numbers.proofs.DigitPlaces.{place, place_lt, outside}

pub row_promise : (n : ℕ) (dx : ℤ) → RowPromise n dx (step_row n dx)
row_promise n dx lo hi d k e = subst (λ x. StepEntry 48 n d (number (by_digit (step_row n x) none d.im))) e
    (subst (λ w. StepEntry 48 n d (number w)) (sym (row_entry n d.re d.im)) (step_promise n lo hi d k))

pub row_kept : (n : ℕ) (dx : ℤ) {row : List Entry} → row ≡ step_row n dx → (row ≡ step_row n dx) × RowPromise n dx row
row_kept n dx e = (e, subst (λ r. RowPromise n dx r) (sym e) (row_promise n dx))

-- there is none for what is no digit
pub no_digit : (n : ℕ) (dx : ℤ) → between (negsuc 0) (pos 1) dx ≡ false → no_row ≡ step_row n dx
unfolding step_row step_table
no_digit n dx e = ap row_of (sym (outside (get_or ([] ∷ step_logs) n []) [] dx e))

-- the row among those of all steps in one line
pub part_place : {d : ℤ} → Trit d → part (place d) ≡ d
part_place t- = refl
part_place t0 = refl
part_place t+ = refl

pub row_at_lem : (n : ℕ) {dx : ℤ} → Trit dx → row_at (3 * n + place dx) ≡ step_row n dx
row_at_lem n {dx} t =
    let l = place_lt t in
    let p : (3 * n + place dx) / 3 ≡ n = omega (arith, l) in
    let q : (3 * n + place dx) % 3 ≡ place dx = omega (arith, l) in
    ap₂ (λ m a. step_row m (part a)) p q ∙ ap (step_row n) (part_place t)

pub log_promise : (column row : ℤ) → LogPromise column row (entry (reciprocal_table (centre column) (centre row)))
log_promise column row i = reciprocal_promise column row i

pub log_kept : (column row : ℤ) {e : Entry} → e ≡ entry (reciprocal_table (centre column) (centre row)) →
    (e ≡ entry (reciprocal_table (centre column) (centre row))) × LogPromise column row e
log_kept column row h = (h, subst (λ w. LogPromise column row w) (sym h) (log_promise column row))
