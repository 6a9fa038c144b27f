-- EXP as 01 and 02 state it: the limits, the error bound, the answer for every input, and what the answer is close to.
use Rattle.std.specs.Prelude.{cond, ℕ, suc, ◌^◌, ◌≤◌, ℤ, pos, negsuc, nat_abs, ◌+ℤ◌, ◌*ℤ◌, Ok, IfOk}
use Rattle.algebra.specs.Gauss.{𝔾, gi, ◌-ᵍ◌, ◌*ᵍ◌, two, twoᵍ}
use Rattle.algebra.specs.Order.{◌⩽◌}
use Rattle.algebra.specs.Rounding.{ceiling}
use Rattle.algebra.specs.Size.{abs, larger}
use Rattle.series.specs.Series.{Sᵍ, Dᵍ, Dᶻ}
use Rattle.point.specs.Point.{gauss}
use Rattle.point.specs.Limits.{in_steps, in_parts}
use Rattle.answer.specs.declared.Refusal.TheVariants.{Steps, Exponent, Part}
use Rattle.answer.specs.declared.Figures.{Figures}
use Rattle.answer.specs.Answer.{Answer}
use Rattle.answer.specs.Refusal.{unless}
use Rattle.table_numbers.specs.Promise.{StepTable, Constants}
use Rattle.table_numbers.specs.Numbers48.{constants48}
use Rattle.table_numbers.specs.Table.{step_table}
use Rattle.iteration.specs.declared.State.{State}
use Rattle.iteration.specs.Select.{Exp}
use Rattle.iteration.specs.Run.{state, run}
use Rattle.exponential.specs.declared.reduction.Reduced.{Reduced}
use Rattle.exponential.specs.Reduction.{in_rectangle, in_reach, reduction}

-- ---- the limits, all ends included (one is 2^F units; 01 has F = 48): "N is 1 to 40" is in_steps F 1, and "Each start part is at most 2^58
-- in size" is in_parts F (point, Limits); "both parts at most 8 in size" is in_reach F (Reduction)

-- ---- the error bound, the "column" of 01: "8M/2^N rounded up to a whole number, plus 3N, M being the start's larger part in size"; 02, E1:
-- "The 3N of the EXP column becomes 2N"; 02, E5: "M is the larger part of the multiplied start, the column is in units times 2^k"
-- the 2 of 2N: what the rounding of a step puts into it, in units
abbrev pub rounding_share : ℤ
rounding_share = pos 2

unfoldable pub error_bound_of : ℕ → 𝔾 → ℤ
error_bound_of n s = ceiling (pos 8 *ℤ larger s) (2 ^ n) +ℤ rounding_share *ℤ pos n

-- ---- the answer for every input
-- "first 1, N outside 1 to 40; then 2, exponent outside the rectangle", which is now the reach: "Beyond 8 the answer is still 2"; "then 3,
-- a start part over 2^58 in size", of the given start
abbrev pub unless_refused : ℕ → ℤ → 𝔾 → 𝔾 → Answer → Answer
unless_refused F n e s a = unless (in_steps F 1 n) Steps (unless (in_reach F e) Exponent (unless (in_parts F s) Part a))

-- the state of start and exponent that the steps are given
abbrev pub begun : Reduced → State
begun r = state (gauss r.start) (gauss r.exponent)

-- the figures of n steps that end in the state x: "The answer is the last start"; "The answer is times 2^k", and q is 0; 02, E7: the
-- remainder is "the exponent after the last step"
abbrev pub figures_at : ℕ → Reduced → State → Figures
figures_at n r x = record {
  value = x.point;
  binary_exponent = r.binary_exponent;
  quadrant = pos 0;
  error_bound = error_bound_of n (gauss r.start);
  remainder = x.sum;
}

module _ (F : ℕ) (t : StepTable) where
  -- "For n = 1 to N: .. The start takes the step; the exponent loses the table entry": the state after n steps
  abbrev pub ended : ℕ → Reduced → State
  ended n r = run F t Exp 0 n (begun r)

  abbrev pub figures_from : ℕ → Reduced → Figures
  figures_from n r = figures_at n r (ended n r)

module _ (F : ℕ) (t : StepTable) (c : Constants) where
  abbrev pub figures : ℕ → 𝔾 → 𝔾 → Figures
  figures n e s = figures_from F t n (reduction F c e s)

  unfoldable pub answer : ℤ → 𝔾 → 𝔾 → Answer
  answer n e s = unless_refused F n e s (Ok (figures (nat_abs n) e s))

-- of exp (n, (ex, ey), (sx, sy))
unfoldable pub exp_answer : ℤ → ℤ → ℤ → ℤ → ℤ → Answer
exp_answer n ex ey sx sy = answer 48 step_table constants48 n (gi ex ey) (gi sx sy)

-- ---- before the first step, for a second engine (02, E9: "outside, the reduction comes before both"): the figures of n steps, with the state
-- that the steps are given in the places of value and remainder
unfoldable pub beginning : ℕ → Constants → ℤ → 𝔾 → 𝔾 → Answer
beginning F c n e s = let r = reduction F c e s in unless_refused F n e s (Ok (figures_at (nat_abs n) r (begun r)))

-- of begin (n, (ex, ey), (sx, sy))
unfoldable pub exp_beginning : ℤ → ℤ → ℤ → ℤ → ℤ → Answer
exp_beginning n ex ey sx sy = beginning 48 constants48 n (gi ex ey) (gi sx sy)

-- ---- what demand 3 compares, at T terms: the exponential is S T/D T, and both sides are multiplied by the divisors 2^N, 2^down and D T
-- 2^k is 2^up/2^down
abbrev pub up : ℤ → ℕ
up (pos n) = n
up (negsuc n) = 0

abbrev pub down : ℤ → ℕ
down (pos n) = 0
down (negsuc n) = suc n

-- "the answer, less the start times the exact exponential of the given exponent", the answer a being times 2^k
abbrev pub miss : (F T : ℕ) (k : ℤ) (e s a : 𝔾) → 𝔾
miss F T k e s a = twoᵍ (up k) *ᵍ a *ᵍ Dᵍ (2 ^ F) T -ᵍ twoᵍ (down k) *ᵍ s *ᵍ Sᵍ (2 ^ F) T e

-- "8M/2^N + 3N", and "The exactness claim for EXP is to hold with the smaller figure" (02, E1): 8M/2^N + 2N, in units times 2^k
abbrev pub allowed : (F n T : ℕ) (k m : ℤ) → ℤ
allowed F n T k m = (pos 8 *ℤ m +ℤ rounding_share *ℤ pos n *ℤ two n) *ℤ two (up k) *ℤ Dᶻ (2 ^ F) T

-- is at most that "in size in each part", M being that of the start s₁ which the steps were given
pub record CloseAt (F n T : ℕ) (k : ℤ) (e s s₁ a : 𝔾) : Type 0 where
  pub re : abs (miss F T k e s a).re *ℤ two n ⩽ allowed F n T k (larger s₁)
  pub im : abs (miss F T k e s a).im *ℤ two n ⩽ allowed F n T k (larger s₁)

-- "For every T from 24 on"; outside the rectangle "closeness is to the series from eighty terms on"
abbrev pub least_terms : ℕ → 𝔾 → ℕ
least_terms F e = cond (in_rectangle F e) 24 80

-- "and every input that meets no refusal"
abbrev pub CloseFor : ℕ → Constants → ℕ → 𝔾 → 𝔾 → Figures → Type 0
CloseFor F c n e s f = (T : ℕ) → least_terms F e ≤ T →
    CloseAt F n T f.binary_exponent e s (gauss (reduction F c e s).start) (gauss f.value)

abbrev pub Close : ℤ → ℤ → ℤ → ℤ → ℤ → Answer → Type 0
Close n ex ey sx sy a = IfOk a (CloseFor 48 constants48 (nat_abs n) (gi ex ey) (gi sx sy))
