-- THE PROMISE of the tables, over any width F (one is 2^F units): all that the engines know of a table. No number of a table is cited
-- above.
use Rattle.std.specs.Prelude.{ℕ, ◌-◌, ◌^◌, ◌≤◌, ℤ, pos, ◌*ℤ◌}
use Rattle.algebra.specs.Gauss.{𝔾, ιᵍ, ◌+ᵍ◌, ◌-ᵍ◌, ◌*ᵍ◌, N, two, twoᵍ}
use Rattle.algebra.specs.Order.{◌⩽◌}
use Rattle.algebra.specs.Size.{Within}
use Rattle.series.specs.Series.{Sᵍ, Dᵍ, Dᶻ}
use Rattle.table_numbers.specs.Window.{Lies, pick, real, imag}

-- z is a logarithm of c/m: the series exponential of z to T terms differs from c/m, as a length, by at most one unit times the length of
-- c/m (01, The step). Multiplied by the divisors, and the lengths by their squares
abbrev pub Rule : (F T m : ℕ) (c z : 𝔾) → Type 0
Rule F T m c z = N (ιᵍ (pos m) *ᵍ Sᵍ (2 ^ F) T z -ᵍ c *ᵍ Dᵍ (2 ^ F) T) *ℤ (two F *ℤ two F) ⩽ N c *ℤ (Dᶻ (2 ^ F) T *ℤ Dᶻ (2 ^ F) T)

-- ---- the step table: a logarithm of 1 + d/2^n for each step n and digit d
abbrev pub StepTable : Type 0
StepTable = ℕ → ℤ → ℤ → 𝔾

abbrev pub look : StepTable → ℕ → 𝔾 → 𝔾
look t n d = t n d.re d.im

-- the rule, and the window: the exponential is periodic, so no rule about it bounds an entry's size
pub record StepEntry (F n : ℕ) (d z : 𝔾) : Type 0 where
  pub rule : (T : ℕ) → 24 ≤ T → Rule F T (2 ^ n) (twoᵍ n +ᵍ d) z
  pub re : Lies (pos 2) (pick (real n) d.re) (two (F - n)) z.re
  pub im : Lies (pos 2) (pick (imag n) d.im) (two (F - n)) z.im

-- ---- the logarithms of the reciprocals, at X and Y
abbrev pub ReciprocalTable : Type 0
ReciprocalTable = ℤ → ℤ → 𝔾

-- the rule for (a + ib)/64, and the size: at most 9/8
pub record ReciprocalEntry (F : ℕ) (c z : 𝔾) : Type 0 where
  pub rule : (T : ℕ) → 24 ≤ T → Rule F T 64 c z
  pub size : Within (ιᵍ (pos 8) *ᵍ z) (pos 9 *ℤ two F)

-- ---- the constants of EXP's reduction (02, E5), in units: "Q and H the units nearest π/4 and ln 2", and "the units nearest ½·ln 2"
pub record Constants : Type 0 where
  pub quarter_pi : ℕ
  pub ln_2 : ℕ
  pub half_ln_2 : ℕ
