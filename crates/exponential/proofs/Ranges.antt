-- How large the figures of EXP's answer are, for every input. Over a width F: one is 2^F units, and 01 has F = 48.
use mathlib.Core.Path.{◌≡◌, refl, sym, subst}
use mathlib.Core.List.{[], ◌∷◌}
use Prim.Native.Nat.{ℕ, ◌+◌, ◌-◌, ◌^◌, ◌≤◌}
use native.Mathlib.Omega.{arith}
use lib.IntN.{ℤ, pos, nat_abs, ◌+ℤ◌, ◌*ℤ◌}
use Rattle.algebra.specs.Gauss.{𝔾, gi, two}
use Rattle.algebra.specs.Order.{◌⩽◌}
use Rattle.algebra.specs.Size.{Size, Parts, larger}
use Rattle.algebra.proofs.Reify.{reify}
use Rattle.algebra.proofs.Order.{nonneg_mul, nonneg_pos, sub_nonneg, pos_mono}
use Rattle.algebra.proofs.Linear.{lin, ◌&◌, ◌&<◌, ◌&ℕ◌, none}
use Rattle.algebra.proofs.Inequality.{below_next}
use Rattle.algebra.proofs.Power.{two≥1, two_mono, two_mul_le, below_two}
use Rattle.algebra.proofs.Parts.{parts_weaken, parts_cancel, size_sign}
use Rattle.algebra.proofs.Larger.{larger_parts, larger_le}
use Rattle.point.specs.Point.{gauss}
use Rattle.point.proofs.InLimits.{Counts, steps_say}
use Rattle.answer.specs.declared.Figures.{Figures}
use Rattle.answer.specs.Answer.{Answer}
use Rattle.std.specs.Prelude.{IfOk}
use Rattle.answer.proofs.Remainder.{remainder_size}
use Rattle.table_numbers.specs.Promise.{StepTable, Constants}
use Rattle.table_numbers.specs.Numbers48.{constants48}
use Rattle.table_numbers.specs.Table.{step_table}
use Rattle.table_numbers.proofs.Promises.{StepPromise, ConstantsPromise}
use Rattle.table_numbers.proofs.Promise48.{constants_promise}
use Rattle.tables.proofs.Promises.{step_promise}
use Rattle.iteration.specs.Select.{Exp}
use Rattle.iteration.specs.Run.{state}
use Rattle.iteration.proofs.Drift.{exact_start, exact_run, exact_size}
use Rattle.exponential.specs.declared.reduction.Reduced.{Reduced}
use Rattle.exponential.specs.Reduction.{reduction}
use Rattle.exponential.specs.Answer.{rounding_share, figures, answer, error_bound_of, exp_answer}
use Rattle.exponential.specs.Code.{Accepted}
use Rattle.exponential.proofs.Given.{given_start, given_exponent}
use Rattle.exponential.proofs.Bound.{bound_enough, bound_least}
use Rattle.exponential.proofs.Close.{answer_keeps, left_below}

-- at F = 48: N from 1 to 40, each part of the value at most 2^61 in size, k from −12 to 12, an error bound from 0 to 2^61 + 80, and each part
-- of the remainder at most 2^47 in size
pub record ExpRanges (F : ℕ) (n : ℤ) (f : Figures) : Type 0 where
  pub steps_low : pos 1 ⩽ n
  pub steps_high : n ⩽ pos (F - 8)
  pub value : Parts (gauss f.value) (two (F + 13))
  pub exponent : Size f.binary_exponent (pos 12)
  pub no_quadrant : f.quadrant ≡ pos 0
  pub bound_low : pos 0 ⩽ f.error_bound
  pub bound_high : f.error_bound ⩽ two (F + 13) +ℤ rounding_share *ℤ pos (F - 8)
  pub remainder : Parts (gauss f.remainder) (two (F - 1))

-- of an answer, if there is one
abbrev pub Ranged : ℕ → ℤ → Answer → Type 0
Ranged F n a = IfOk a (ExpRanges F n)

module _ (F : ℕ) (wide : 16 ≤ F) (narrow : F ≤ 48) (t : StepTable) (table : StepPromise F (F - 8) t) (c : Constants)
    (promise : ConstantsPromise F c) (n : ℤ) (e s : 𝔾) where
  figures_ranges : Accepted F n e s → ExpRanges F n (figures F t c (nat_abs n) e s)
  figures_ranges a = record {
    steps_low = subst (λ k. pos 1 ⩽ k) (sym count.whole) (pos_mono count.at_least);
    steps_high = subst (λ k. k ⩽ pos (F - 8)) (sym count.whole) (pos_mono count.at_most);
    value = parts_cancel (pos 280) (record { le = tt })
        (parts_weaken (exact_size (exact_run F t Exp 0 N N (state s₁ (gauss r.exponent)) (omega arith) exact_start) given)
        (lin (pos N ∷ two F ∷ two (F + 11) ∷ two (F + 13) ∷ []) (few &ℕ two≥1 F & two_mul_le 11 F (F + 11) (omega arith) & four & none)
        (search reify depth 20) tt));
    exponent = given_exponent F (omega arith) c promise e s a.reach;
    no_quadrant = refl;
    bound_low = below_next (two N) (two≥1 N) (lin (two N ∷ pos N ∷ larger s₁ ∷ error_bound_of N s₁ ∷ [])
        (bound_enough N s₁ & nonneg_mul (nonneg_pos N) (nonneg_pos (2 ^ N)) & M≥0 & two≥1 N & none) (search reify depth 20) tt);
    bound_high = below_next (two N) (two≥1 N)
        (lin (two N ∷ pos N ∷ pos (F - 8) ∷ two (F + 11) ∷ two (F + 13) ∷ larger s₁ ∷ error_bound_of N s₁ ∷ [])
        (bound_least N s₁ &< larger_le given & four & nonneg_mul (sub_nonneg (two_mono 1 N count.at_least)) (nonneg_pos (2 ^ (F + 13)))
        & nonneg_mul (sub_nonneg (pos_mono count.at_most)) (nonneg_pos (2 ^ N)) & none) (search reify depth 20) tt);
    remainder = remainder_size F 1 N count.at_least (omega arith) (left_below F wide narrow t table c promise a);
  }
    where
      N : ℕ
      N = nat_abs n

      r : Reduced
      r = reduction F c e s

      s₁ : 𝔾
      s₁ = gauss r.start

      count : Counts F 1 n
      count = steps_say F 1 n a.steps

      given : Parts s₁ (two (F + 11))
      given = given_start F (omega arith) c promise e s a.start

      M≥0 : pos 0 ⩽ larger s₁
      M≥0 = size_sign (larger_parts s₁).re

      few : N ≤ 2 ^ F
      few = omega (arith, count.at_most, below_two F)

      four : pos 4 *ℤ two (F + 11) ⩽ two (F + 13)
      four = two_mul_le 2 (F + 11) (F + 13) (omega arith)

  pub answer_ranges : Ranged F n (answer F t c n e s)
  answer_ranges = answer_keeps F t c n e s (Ranged F n) (λ r. tt) figures_ranges

-- THE RANGES of the call
pub exp_ranges : (n ex ey sx sy : ℤ) → Ranged 48 n (exp_answer n ex ey sx sy)
unfolding exp_answer
exp_ranges n ex ey sx sy = answer_ranges 48 (omega arith) (omega arith) step_table step_promise constants48 constants_promise n (gi ex ey) (gi sx sy)
