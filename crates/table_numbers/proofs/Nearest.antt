-- NEAREST: each part of an entry is the nearest whole number of units to the true one (01, The step). The exponential rises, so the real
-- part re of a logarithm of c/m is nearest where e^(2re − 1) < |c/m|² < e^(2re + 1), exponents in units; and the imaginary part im where c
-- lies between the directions of e^(i(im − 1/2)) and e^(i(im + 1/2)). Said of the series to T terms, multiplied by the divisors.
use Prim.Native.Nat.{ℕ, suc, ◌^◌, ◌≤◌}
use lib.IntN.{ℤ, pos, ◌+ℤ◌, ◌-ℤ◌, ◌*ℤ◌}
use Rattle.algebra.specs.Gauss.{𝔾, gi, ◌+ᵍ◌, N, twoᵍ}
use Rattle.algebra.specs.Order.{◌⋖◌}
use Rattle.series.specs.Series.{Sᵍ, Dᶻ}
use Rattle.series.proofs.Series.{Sᶻ}
use Rattle.point.specs.Digit.{IsDigit}
use Rattle.table_numbers.specs.Reciprocal.{reciprocal, centre, InTable}
use Rattle.table_numbers.specs.Promise.{StepTable, ReciprocalTable, look}

-- e^(ix), x in half units
abbrev pub direction : (F T : ℕ) → ℤ → 𝔾
direction F T x = Sᵍ (2 ^ suc F) T (gi (pos 0) x)

-- positive where w lies less than half a turn to the left of z
abbrev pub cross : 𝔾 → 𝔾 → ℤ
cross z w = z.re *ℤ w.im -ℤ z.im *ℤ w.re

pub record Nearest (F T m : ℕ) (c z : 𝔾) : Type 0 where
  pub longer : Sᶻ (2 ^ F) T (pos 2 *ℤ z.re -ℤ pos 1) *ℤ (pos m *ℤ pos m) ⋖ N c *ℤ Dᶻ (2 ^ F) T
  pub shorter : N c *ℤ Dᶻ (2 ^ F) T ⋖ Sᶻ (2 ^ F) T (pos 2 *ℤ z.re +ℤ pos 1) *ℤ (pos m *ℤ pos m)
  pub left : pos 0 ⋖ cross (direction F T (pos 2 *ℤ z.im -ℤ pos 1)) c
  pub right : pos 0 ⋖ cross c (direction F T (pos 2 *ℤ z.im +ℤ pos 1))

abbrev pub NearestSteps : (F M : ℕ) → StepTable → Type 0
NearestSteps F M t = (n : ℕ) → 1 ≤ n → n ≤ M → (d : 𝔾) → IsDigit d → (T : ℕ) → 24 ≤ T → Nearest F T (2 ^ n) (twoᵍ n +ᵍ d) (look t n d)

abbrev pub NearestReciprocals : (F : ℕ) → ReciprocalTable → Type 0
NearestReciprocals F t = (column row : ℤ) → InTable column row → (T : ℕ) → 24 ≤ T →
    Nearest F T 64 (reciprocal (centre column) (centre row)) (t (centre column) (centre row))
