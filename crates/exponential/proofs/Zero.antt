-- A zero start (01, Edges: "start zero: answer zero"; 02, E1: "a zero start has the column 2N"), over any width and any table.
use mathlib.Core.Path.{◌≡◌, refl, ◌∙◌, ap, ap₂}
use mathlib.Core.List.{List, [], ◌∷◌}
use Prim.Native.Nat.{ℕ, suc}
use native.Mathlib.Omega.{arith}
use lib.IntN.{ℤ, pos, nat_abs, ◌*ℤ◌}
use Rattle.algebra.specs.Gauss.{𝔾, gi, ◌*ᵍ◌, two}
use Rattle.algebra.specs.Size.{abs, larger}
use Rattle.algebra.proofs.Integer.{ℤR}
use Rattle.algebra.proofs.Gauss.{gi_path}
use Rattle.algebra.proofs.Reify.{ring!, reify}
use Rattle.algebra.proofs.Order.{⩽_antisym}
use Rattle.algebra.proofs.Linear.{lin, ◌&◌, ◌&<◌, none}
use Rattle.algebra.proofs.Inequality.{le_cancel, below_next}
use Rattle.algebra.proofs.Power.{two≥1}
use Rattle.point.specs.declared.Point.{Point}
use Rattle.point.specs.Point.{gauss, point, nought}
use Rattle.point.specs.Step.{step}
use Rattle.point.proofs.Rounding.{step_nought}
use Rattle.answer.specs.declared.Figures.{Figures}
use Rattle.std.specs.Prelude.{Ok}
use Rattle.table_numbers.specs.Promise.{StepTable, Constants}
use Rattle.table_numbers.specs.Numbers48.{constants48}
use Rattle.table_numbers.specs.Table.{step_table}
use Rattle.iteration.specs.Select.{Exp}
use Rattle.iteration.specs.Run.{state, select, next}
use Rattle.iteration.proofs.Runs.{run_keeps}
use Rattle.exponential.specs.declared.reduction.Reduced.{Reduced}
use Rattle.exponential.specs.Reduction.{factor, eighths, reduction}
use Rattle.exponential.specs.Answer.{rounding_share, error_bound_of, ended, figures, exp_answer}
use Rattle.exponential.specs.Code.{Accepted}
use Rattle.exponential.proofs.Bound.{bound_enough, bound_least}
use Rattle.exponential.proofs.Given.{by_rectangle}
use Rattle.exponential.proofs.Close.{answered}

-- what is answered: zero times 2^k, the rounding's share alone, and what is left of the exponent
abbrev pub zero_figures : ℕ → ℤ → Point → Figures
zero_figures n k left = record {
  value = point nought;
  binary_exponent = k;
  quadrant = pos 0;
  error_bound = rounding_share *ℤ pos n;
  remainder = left;
}

zero_bound : (n : ℕ) → error_bound_of n nought ≡ rounding_share *ℤ pos n
unfolding larger abs
zero_bound n = ⩽_antisym
    (below_next (two n) (two≥1 n) (lin ρ (bound_least n nought &< none) (search reify depth 20) tt))
    (le_cancel (two n) (two≥1 n) (lin ρ (bound_enough n nought & none) (search reify depth 20) tt))
  where
    ρ : List ℤ
    ρ = two n ∷ pos n ∷ error_bound_of n nought ∷ []

module _ (F : ℕ) (t : StepTable) (c : Constants) where
  zero_run : (n : ℕ) (r : Reduced) → gauss r.start ≡ nought → gauss (ended F t n r).point ≡ nought
  unfolding next
  zero_run n r e = run_keeps F t Exp (λ _ x. gauss x.point ≡ nought) n
      (λ i x h z. ap (λ p. step (suc i) (select F Exp (suc i) x) p) z ∙ step_nought (suc i) (select F Exp (suc i) x))
      0 n n (state (gauss r.start) (gauss r.exponent)) (omega arith) (omega arith) e

  -- the factor leaves it at zero
  zero_turned : (f : 𝔾) → nought *ᵍ f ≡ nought
  unfolding ◌*ᵍ◌
  zero_turned f = gi_path (ring! ℤR (f.re ∷ f.im ∷ []) (search reify depth 20) tt) (ring! ℤR (f.re ∷ f.im ∷ []) (search reify depth 20) tt)

  zero_given : (e : 𝔾) → gauss (reduction F c e nought).start ≡ nought
  zero_given e = by_rectangle (λ _ r. gauss r.start ≡ nought) F c e nought (λ _. refl) (λ _. zero_turned (factor (eighths c e)))

  -- of an exponent
  abbrev pub zero_from : ℕ → 𝔾 → Figures
  zero_from n e = let r = reduction F c e nought in zero_figures n r.binary_exponent (ended F t n r).sum

  pub zero_start : (n : ℕ) (e : 𝔾) → figures F t c n e nought ≡ zero_from n e
  zero_start n e = let r = reduction F c e nought in
      ap₂ (λ z b. record {
        value = point z;
        binary_exponent = r.binary_exponent;
        quadrant = pos 0;
        error_bound = b;
        remainder = (ended F t n r).sum;
      })
      (zero_run n r (zero_given e)) (ap (λ s. error_bound_of n s) (zero_given e) ∙ zero_bound n)

-- THE ANSWER to a zero start
pub zero_answer : (n ex ey : ℤ) → Accepted 48 n (gi ex ey) nought →
    exp_answer n ex ey (pos 0) (pos 0) ≡ Ok (zero_from 48 step_table constants48 (nat_abs n) (gi ex ey))
unfolding exp_answer
zero_answer n ex ey a = answered 48 step_table constants48 n (gi ex ey) nought a
    ∙ ap Ok (zero_start 48 step_table constants48 (nat_abs n) (gi ex ey))
