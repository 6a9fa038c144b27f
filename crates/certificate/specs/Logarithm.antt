-- What a receiver can check of LOG's answer: the point is 2^k·i^q times the exponential of the answer times one and the remainder, nearly.
-- At T terms, as in LOG's closeness: the exponential is S T/D T, and both sides are multiplied by the divisors 2^F and D T.
use Rattle.std.specs.Prelude.{ℕ, ◌^◌, ◌≤◌, ℤ, pos, nat_abs, ◌+ℤ◌, ◌*ℤ◌, IfOk}
use Rattle.algebra.specs.Gauss.{𝔾, gi, ιᵍ, ◌+ᵍ◌, ◌-ᵍ◌, ◌*ᵍ◌, twoᵍ}
use Rattle.algebra.specs.Order.{◌⩽◌}
use Rattle.algebra.specs.Size.{abs, larger}
use Rattle.series.specs.Series.{Sᵍ, Dᵍ, Dᶻ}
use Rattle.point.specs.Point.{gauss, one}
use Rattle.answer.specs.declared.Figures.{Figures}
use Rattle.answer.specs.Answer.{Answer}
use Rattle.logarithm.specs.Answer.{power, i^}

-- 2^(F+k)·i^q times the exponential of the answer, times one and what is left, less the given point
abbrev pub miss : (F T : ℕ) (p : 𝔾) (f : Figures) → 𝔾
miss F T p f = ιᵍ (power F f.binary_exponent) *ᵍ i^ f.quadrant *ᵍ Sᵍ (2 ^ F) T (gauss f.value) *ᵍ (one F +ᵍ gauss f.remainder)
    -ᵍ p *ᵍ Dᵍ (2 ^ F) T *ᵍ twoᵍ F

-- (10N + 3)·M/2^F, in units
abbrev pub allowed : (F N T : ℕ) (m : ℤ) → ℤ
allowed F N T m = (pos 10 *ℤ pos N +ℤ pos 3) *ℤ m *ℤ Dᶻ (2 ^ F) T

-- is at most that in size in each part
pub record CertifiedAt (F N T : ℕ) (p : 𝔾) (f : Figures) : Type 0 where
  pub re : abs (miss F T p f).re ⩽ allowed F N T (larger p)
  pub im : abs (miss F T p f).im ⩽ allowed F N T (larger p)

-- every input that meets no refusal
abbrev pub Certified : ℤ → ℤ → ℤ → Answer → Type 0
Certified n x y a = IfOk a (λ f. (T : ℕ) → 24 ≤ T → CertifiedAt 48 (nat_abs n) T (gi x y) f)
