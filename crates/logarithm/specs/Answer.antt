-- LOG as 01 states it: the limits, the error bound, the steps, the answer for every input, and what it is close to.
use Rattle.std.specs.Prelude.{Bool, not, ℕ, suc, ◌-◌, ◌^◌, ◌≤◌, ℤ, pos, negsuc, nat_abs, ◌+ℤ◌, ◌*ℤ◌, Ok, IfOk}
use Rattle.algebra.specs.Gauss.{◌^ᵍ◌, 𝔾, gi, ιᵍ, iᵍ, negᵍ, ◌-ᵍ◌, ◌*ᵍ◌, two}
use Rattle.algebra.specs.Order.{◌⩽◌}
use Rattle.algebra.specs.Rounding.{ceiling}
use Rattle.algebra.specs.Size.{abs, larger}
use Rattle.series.specs.Series.{Sᵍ, Dᵍ, Dᶻ}
use Rattle.point.specs.Point.{gauss, point, one}
use Rattle.point.specs.Limits.{in_steps, in_box, in_parts}
use Rattle.answer.specs.declared.Refusal.TheVariants.{Steps, Part, Zero}
use Rattle.answer.specs.declared.Figures.{Figures}
use Rattle.answer.specs.Answer.{Answer}
use Rattle.answer.specs.Refusal.{unless}
use Rattle.table_numbers.specs.Promise.{StepTable, ReciprocalTable}
use Rattle.table_numbers.specs.Table.{step_table, reciprocal_table}
use Rattle.iteration.specs.declared.State.{State}
use Rattle.iteration.specs.Select.{Log}
use Rattle.iteration.specs.Run.{state, run}
use Rattle.logarithm.specs.Reduction.{quadrant, turned, binary_exponent_of, scaled, cell_x, cell_y, reduced}

-- ---- the limits (one is 2^F units; 01 has F = 48): "N from 3 to 40" is in_steps F 3, and "each part at most 2^58 in size" is in_parts F
-- (point, Limits)
-- the zero point, which "not both zero" shuts out
unfoldable pub is_zero : 𝔾 → Bool
is_zero p = in_box (pos 0) (pos 0) (pos 0) (pos 0) p

-- ---- the error bound, the "column" of 01: "3M/2^N rounded up, M being the given point's larger part in size"
unfoldable pub error_bound_of : ℕ → 𝔾 → ℤ
error_bound_of n p = ceiling (pos 3 *ℤ larger p) (2 ^ n)

-- ---- the answer for every input
-- from the turned point w: the scaled point brought near one, and "minus the seat's logarithm"
abbrev pub begun : ℕ → ReciprocalTable → 𝔾 → State
begun F logs w = let p = scaled F w in state (reduced F p) (negᵍ (logs (cell_x F p) (cell_y F p)))

module _ (F : ℕ) (steps : StepTable) (logs : ReciprocalTable) where
  -- "Steps n = 3 to N": the state of point and answer after them
  abbrev pub ended : ℕ → 𝔾 → State
  ended n w = run F steps Log 2 (n - 2) (begun F logs w)

  -- "The answer is minus the seat's logarithm, less the entries of the steps taken, with k and q"; 02, E7: the remainder is "the point less
  -- one"
  abbrev pub figures : ℕ → 𝔾 → Figures
  figures n p = record {
    value = (ended n (turned p)).sum;
    binary_exponent = binary_exponent_of F (turned p);
    quadrant = quadrant p;
    error_bound = error_bound_of n p;
    remainder = point (gauss (ended n (turned p)).point -ᵍ one F);
  }

  -- "first 1, N outside 3 to 40; then 3, a part over 2^58 in size; then 4, the zero point"
  unfoldable pub answer : ℤ → 𝔾 → Answer
  answer n p = unless (in_steps F 3 n) Steps (unless (in_parts F p) Part (unless (not (is_zero p)) Zero (Ok (figures (nat_abs n) p))))

-- of log (n, (x, y))
unfoldable pub log_answer : ℤ → ℤ → ℤ → Answer
log_answer n x y = answer 48 step_table reciprocal_table n (gi x y)

-- ---- what demand 3 compares, at T terms: the exponential is S T/D T, and both sides are multiplied by the divisors 2^N and D T
-- 2^n; there is none for n below 0, where no answer can be close
abbrev pub two_to : ℤ → ℤ
two_to (pos n) = two n
two_to (negsuc n) = pos 0

-- 2^(F+k)
abbrev pub power : ℕ → ℤ → ℤ
power F k = two_to (pos F +ℤ k)

-- i^q, q of either sign
unfoldable pub i^ : ℤ → 𝔾
i^ (pos n) = iᵍ ^ᵍ n
i^ (negsuc n) = negᵍ iᵍ ^ᵍ suc n

-- "2^(48+k)·i^q times the exact exponential of the answer, less the given point in units"
abbrev pub miss : (F T : ℕ) (p : 𝔾) (f : Figures) → 𝔾
miss F T p f = ιᵍ (power F f.binary_exponent) *ᵍ i^ f.quadrant *ᵍ Sᵍ (2 ^ F) T (gauss f.value) -ᵍ p *ᵍ Dᵍ (2 ^ F) T

-- "is at most 3M/2^N in size in each part"
pub record CloseAt (F N T : ℕ) (p : 𝔾) (f : Figures) : Type 0 where
  pub re : abs (miss F T p f).re *ℤ two N ⩽ pos 3 *ℤ larger p *ℤ Dᶻ (2 ^ F) T
  pub im : abs (miss F T p f).im *ℤ two N ⩽ pos 3 *ℤ larger p *ℤ Dᶻ (2 ^ F) T

-- "For every T from 24 on, and every input that meets no refusal"
abbrev pub Close : ℤ → ℤ → ℤ → Answer → Type 0
Close n x y a = IfOk a (λ f. (T : ℕ) → 24 ≤ T → CloseAt 48 (nat_abs n) T (gi x y) f)
