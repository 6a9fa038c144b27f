-- What a receiver can check of EXP's answer: the start times the exponential of the exponent is 2^k times the answer times the exponential
-- of the remainder, nearly. At T terms, as in EXP's closeness: the exponential is S T/D T, and both sides are multiplied by the divisors
-- 2^F, 2^down and D T.
use Rattle.std.specs.Prelude.{ℕ, ◌^◌, ◌≤◌, ℤ, pos, nat_abs, ◌+ℤ◌, ◌*ℤ◌, IfOk}
use Rattle.algebra.specs.Gauss.{𝔾, gi, ◌-ᵍ◌, ◌*ᵍ◌, two, twoᵍ}
use Rattle.algebra.specs.Order.{◌⩽◌}
use Rattle.algebra.specs.Size.{abs, larger}
use Rattle.series.specs.Series.{Sᵍ, Dᶻ}
use Rattle.point.specs.Point.{gauss}
use Rattle.answer.specs.declared.Figures.{Figures}
use Rattle.answer.specs.Answer.{Answer}
use Rattle.table_numbers.specs.Promise.{Constants}
use Rattle.table_numbers.specs.Numbers48.{constants48}
use Rattle.exponential.specs.Reduction.{reduction}
use Rattle.exponential.specs.Answer.{rounding_share, up, down, least_terms}

-- 2^k times the answer a times the exponential of what is left, ρ, less the start times the exponential of the given exponent
abbrev pub miss : (F T : ℕ) (k : ℤ) (e s a ρ : 𝔾) → 𝔾
miss F T k e s a ρ = twoᵍ (up k) *ᵍ a *ᵍ Sᵍ (2 ^ F) T ρ -ᵍ twoᵍ (down k) *ᵍ s *ᵍ Sᵍ (2 ^ F) T e

-- (12N + 51)·M/2^F + 2N + 3, in units times 2^k
abbrev pub allowed : (F n T : ℕ) (k m : ℤ) → ℤ
allowed F n T k m = ((pos 12 *ℤ pos n +ℤ pos 51) *ℤ m +ℤ (rounding_share *ℤ pos n +ℤ pos 3) *ℤ two F) *ℤ two (up k) *ℤ Dᶻ (2 ^ F) T

-- is at most that in size in each part, M being that of the start s₁ which the steps were given
pub record CertifiedAt (F n T : ℕ) (k : ℤ) (e s s₁ a ρ : 𝔾) : Type 0 where
  pub re : abs (miss F T k e s a ρ).re *ℤ two F ⩽ allowed F n T k (larger s₁)
  pub im : abs (miss F T k e s a ρ).im *ℤ two F ⩽ allowed F n T k (larger s₁)

abbrev pub CertifiedFor : ℕ → Constants → ℕ → 𝔾 → 𝔾 → Figures → Type 0
CertifiedFor F c n e s f = (T : ℕ) → least_terms F e ≤ T →
    CertifiedAt F n T f.binary_exponent e s (gauss (reduction F c e s).start) (gauss f.value) (gauss f.remainder)

-- every input that meets no refusal
abbrev pub Certified : ℤ → ℤ → ℤ → ℤ → ℤ → Answer → Type 0
Certified n ex ey sx sy a = IfOk a (CertifiedFor 48 constants48 (nat_abs n) (gi ex ey) (gi sx sy))
