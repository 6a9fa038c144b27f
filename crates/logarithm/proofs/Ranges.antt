-- How large the figures of LOG's answer are, for every input. Over a width F up to 48: one is 2^F units, and 01 has F = 48.
use mathlib.Core.Path.{◌≡◌, sym, ◌∙◌, ap, subst}
use mathlib.Core.List.{[], ◌∷◌}
use Prim.Native.Nat.{ℕ, ◌+◌, ◌-◌, ◌^◌, ◌≤◌}
use native.Mathlib.Omega.{arith}
use lib.Dec.{lit≤}
use lib.IntN.{ℤ, pos, neg_ℤ, nat_abs, ◌-ℤ◌, ◌*ℤ◌}
use Rattle.algebra.specs.Gauss.{𝔾, gi, two}
use Rattle.algebra.specs.Order.{◌⩽◌}
use Rattle.algebra.specs.Size.{Parts, larger}
use Rattle.algebra.proofs.Reify.{reify}
use Rattle.algebra.proofs.Order.{nonneg_mul, nonneg_pos, sub_nonneg, pos_mono}
use Rattle.algebra.proofs.Linear.{lin, ◌&◌, ◌&≡◌, none}
use Rattle.algebra.proofs.Inequality.{below_next}
use Rattle.algebra.proofs.Power.{two≥1, two_mono, two_mul}
use Rattle.algebra.proofs.Parts.{size_sign, within_parts}
use Rattle.algebra.proofs.Larger.{larger_parts, larger_le}
use Rattle.point.specs.Point.{gauss}
use Rattle.point.proofs.InLimits.{Counts, steps_say, parts_say}
use Rattle.answer.specs.declared.Figures.{Figures}
use Rattle.answer.specs.Answer.{Answer}
use Rattle.std.specs.Prelude.{IfOk}
use Rattle.answer.proofs.Remainder.{remainder_size}
use Rattle.table_numbers.specs.Promise.{StepTable, ReciprocalTable}
use Rattle.table_numbers.specs.Table.{step_table, reciprocal_table}
use Rattle.table_numbers.proofs.Promises.{StepPromise, ReciprocalPromise}
use Rattle.tables.proofs.Promises.{step_promise, reciprocal_promise}
use Rattle.logarithm.specs.Answer.{figures, answer, error_bound_of, log_answer}
use Rattle.logarithm.specs.Code.{Accepted}
use Rattle.logarithm.proofs.Close.{zero_says, answer_keeps, answer_within, k_low, k_high, left_below}
use Rattle.logarithm.proofs.Quadrant.{turn_spelled, HalfTurn, half_turn}
use Rattle.logarithm.proofs.Convergence.{most}
use Rattle.logarithm.proofs.Bound.{bound_enough, bound_least}

-- at F = 48: N from 3 to 40, each part of the value at most 27/16 in size, k from −47 to 11, q from −2 to 2 and of the side of the axis on
-- which the point p lies, an error bound from 0 to 3·2^55, and each part of the remainder at most 2^45 in size
pub record LogRanges (F : ℕ) (n : ℤ) (p : 𝔾) (f : Figures) : Type 0 where
  pub steps_low : pos 3 ⩽ n
  pub steps_high : n ⩽ pos (F - 8)
  pub value : Parts (gauss f.value) (most F)
  pub exponent_low : pos 1 -ℤ pos F ⩽ f.binary_exponent
  pub exponent_high : f.binary_exponent ⩽ pos 11
  pub quadrant_low : neg_ℤ (pos 2) ⩽ f.quadrant
  pub quadrant_high : f.quadrant ⩽ pos 2
  pub quadrant_side : HalfTurn p f.quadrant
  pub bound_low : pos 0 ⩽ f.error_bound
  pub bound_high : f.error_bound ⩽ pos 3 *ℤ two (F + 7)
  pub remainder : Parts (gauss f.remainder) (two (F - 3))

-- of an answer, if there is one
abbrev pub Ranged : ℕ → ℤ → 𝔾 → Answer → Type 0
Ranged F n p a = IfOk a (LogRanges F n p)

module _ (F : ℕ) (wide : 11 ≤ F) (narrow : F ≤ 48) (steps : StepTable) (logs : ReciprocalTable)
    (entries : StepPromise F (F - 8) steps) (reciprocals : ReciprocalPromise F logs) (n : ℤ) (p : 𝔾) where
  figures_ranges : Accepted F n p → LogRanges F n p (figures F steps logs (nat_abs n) p)
  figures_ranges a = record {
    steps_low = subst (λ k. pos 3 ⩽ k) (sym count.whole) (pos_mono count.at_least);
    steps_high = subst (λ k. k ⩽ pos (F - 8)) (sym count.whole) (pos_mono count.at_most);
    value = within_parts (answer_within F wide a steps logs narrow entries reciprocals);
    exponent_low = k_low F wide a;
    exponent_high = k_high F wide a;
    quadrant_low = (turn_spelled p).low;
    quadrant_high = (turn_spelled p).high;
    quadrant_side = half_turn p (zero_says p a.nonzero);
    bound_low = below_next (two N) (two≥1 N) (lin (two N ∷ larger p ∷ error_bound_of N p ∷ [])
        (bound_enough N p & size_sign (larger_parts p).re & two≥1 N & none) (search reify depth 20) tt);
    bound_high = bound_least N p (pos 3 *ℤ two (F + 7)) (lin (two N ∷ two (F + 10) ∷ two (F + 7) ∷ larger p ∷ [])
        (larger_le (parts_say F p a.parts) & eight
        &≡ nonneg_mul (sub_nonneg (two_mono 3 N count.at_least)) (nonneg_pos (2 ^ (F + 7))) & none)
        (search reify depth 20) tt);
    remainder = remainder_size F 3 N count.at_least (omega arith) (left_below F wide a steps logs);
  }
    where
      N : ℕ
      N = nat_abs n

      count : Counts F 3 n
      count = steps_say F 3 n a.steps

      eight : two (F + 10) ≡ pos 8 *ℤ two (F + 7)
      eight = ap two same ∙ sym (two_mul 3 (F + 7))
        where
          same : F + 10 ≡ 3 + (F + 7)
          same = omega arith

  pub answer_ranges : Ranged F n p (answer F steps logs n p)
  answer_ranges = answer_keeps F steps logs n p (Ranged F n p) (λ r. tt) figures_ranges

-- THE RANGES of the call
pub log_ranges : (n x y : ℤ) → Ranged 48 n (gi x y) (log_answer n x y)
unfolding log_answer
log_ranges n x y = answer_ranges 48 (lit≤ tt) (lit≤ tt) step_table reciprocal_table step_promise reciprocal_promise n (gi x y)
