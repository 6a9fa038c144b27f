-- For the code, over a width F up to 48: every state of the run fits, and so do the error bound and what an accepted input is reduced to.
use mathlib.Core.Path.{◌≡◌, sym, ◌∙◌, ap, subst}
use mathlib.Core.List.{[], ◌∷◌}
use Prim.Native.Nat.{ℕ, ◌+◌, ◌-◌, ◌^◌, ◌≤◌}
use native.Mathlib.Omega.{arith}
use lib.IntN.{ℤ, pos, negsuc, nat_abs, ◌+ℤ◌, ◌-ℤ◌, ◌*ℤ◌, +ℤ_comm}
use lib.Signed.{shr_z}
use mir.Syntax.{w64}
use mir.Val.{SFits}
use Rattle.algebra.specs.Gauss.{𝔾, two}
use Rattle.algebra.specs.Rounding.{ceiling}
use Rattle.algebra.specs.Size.{larger, Size, Parts}
use Rattle.algebra.proofs.Reify.{reify}
use Rattle.algebra.proofs.Order.{nonneg_pos}
use Rattle.algebra.proofs.Linear.{lin, ◌&◌, ◌&ℕ◌, none}
use Rattle.algebra.proofs.Power.{two_mono}
use Rattle.algebra.proofs.Larger.{larger_parts, larger_le}
use Rattle.algebra.proofs.Parts.{parts_weaken, parts_cancel, size_add, size_neg, size_sign}
use Rattle.word.proofs.Fits.{sfits_size}
use Rattle.word.proofs.Shift.{CeilingFits, ceiling_fits}
use Rattle.point.specs.Point.{gauss}
use Rattle.point.proofs.InLimits.{steps_say}
use Rattle.table_numbers.specs.Promise.{StepTable, Constants}
use Rattle.table_numbers.specs.Numbers48.{constants48}
use Rattle.table_numbers.specs.Table.{step_table}
use Rattle.table_numbers.proofs.Promises.{StepPromise, ConstantsPromise}
use Rattle.table_numbers.proofs.Promise48.{constants_promise}
use Rattle.tables.proofs.Promises.{step_promise}
use Rattle.iteration.specs.Select.{Exp}
use Rattle.iteration.specs.Run.{state, Fits}
use Rattle.iteration.proofs.Drift.{exact_start, exact_run, exact_size}
use Rattle.exponential.specs.declared.reduction.Reduced.{Reduced}
use Rattle.exponential.specs.Reduction.{reduction}
use Rattle.exponential.specs.Answer.{rounding_share, error_bound_of, begun}
use Rattle.exponential.specs.Code.{Accepted}
use Rattle.exponential.proofs.Convergence.{Rectangle, below_parts, converges}
use Rattle.exponential.proofs.Given.{given_rectangle, given_start, given_exponent}

-- ---- the run: a start of parts up to 2^59 grows to 1089/280 of it, and the rounding; the exponent stays below one
module _ (F : ℕ) (wide : 16 ≤ F) (narrow : F ≤ 48) (t : StepTable) (promise : StepPromise F (F - 8) t) where
  pub run_fits : (n : ℕ) (e s : 𝔾) → n ≤ F - 8 → Rectangle F e → Parts s (two (F + 11)) → Fits F t Exp 0 n (state s e)
  run_fits n e s h rect given = record {
    least = omega arith;
    most = omega arith;
    small = λ j l. record {
      point = parts_cancel (pos 280) (record { le = tt })
          (parts_weaken (exact_size (exact_run F t Exp 0 j j (state s e) (omega arith) exact_start) given)
          (lin (pos j ∷ two (F + 11) ∷ []) (few j l &ℕ two_mono (F + 11) 59 (omega arith) & none) (search reify depth 20) tt));
      sum = parts_weaken (below_parts (converges F (F - 8) wide (omega arith) t promise (state s e) rect j (omega arith)))
          (two_mono (F - j) 61 (omega arith));
    };
  }
    where
      few : (j : ℕ) → j ≤ n - 0 → j ≤ 40
      few j l = omega arith

-- ---- the error bound, M being m
pub record BoundFits (n : ℕ) (m : ℤ) : Type 0 where
  pub up : CeilingFits (negsuc 7) m (pos 8 *ℤ two 59) n
  pub share : SFits w64 (rounding_share *ℤ pos n)
  pub bound : SFits w64 (rounding_share *ℤ pos n -ℤ shr_z (negsuc 7 *ℤ m) (2 ^ n))

pub bound_fits : (F n : ℕ) {s : 𝔾} → F ≤ 48 → n ≤ F - 8 → Parts s (two (F + 11)) → BoundFits n (larger s)
bound_fits F n {s} narrow h given = record {
  up = up;
  share = sfits_size share tt;
  bound = sfits_size (size_add share (size_neg up.size)) tt;
}
  where
    up : CeilingFits (negsuc 7) (larger s) (pos 8 *ℤ two 59) n
    up = ceiling_fits {c = negsuc 7} {a = pos 8} {b = two 59} n (record { lo = record { le = tt }; hi = record { le = tt } })
        (record {
          lo = lin (larger s ∷ []) (size_sign (larger_parts s).re & none) (search reify depth 20) tt;
          hi = larger_le (parts_weaken given (two_mono (F + 11) 59 (omega arith)));
        }) tt tt

    few : n ≤ 40
    few = omega arith

    share : Size (rounding_share *ℤ pos n) (rounding_share *ℤ pos 40)
    share = record {
      lo = lin (pos n ∷ []) (nonneg_pos n & none) (search reify depth 20) tt;
      hi = lin (pos n ∷ []) (few &ℕ none) (search reify depth 20) tt;
    }

pub bound_is : (n : ℕ) (s : 𝔾) → BoundFits n (larger s) → rounding_share *ℤ pos n -ℤ shr_z (negsuc 7 *ℤ larger s) (2 ^ n) ≡ error_bound_of n s
unfolding error_bound_of
bound_is n s f = ap (λ u. rounding_share *ℤ pos n +ℤ u) f.up.made
    ∙ +ℤ_comm (rounding_share *ℤ pos n) (ceiling (pos 8 *ℤ larger s) (2 ^ n))

-- ---- what an accepted input is reduced to
pub record ReducedFits (F : ℕ) (t : StepTable) (n : ℕ) (r : Reduced) : Type 0 where
  pub few : n ≤ F - 8
  pub start : Parts (gauss r.start) (two (F + 11))
  pub doublings : SFits w64 r.binary_exponent
  pub steps : Fits F t Exp 0 n (begun r)

pub reduced_fits : (F : ℕ) (wide : 16 ≤ F) (narrow : F ≤ 48) (t : StepTable) → StepPromise F (F - 8) t → (c : Constants) → ConstantsPromise F c →
    {n : ℤ} {e s : 𝔾} → Accepted F n e s → ReducedFits F t (nat_abs n) (reduction F c e s)
reduced_fits F wide narrow t table c promise {n} {e} {s} p = record {
  few = few;
  start = start;
  doublings = sfits_size (given_exponent F (omega arith) c promise e s p.reach) tt;
  steps = run_fits F wide narrow t table (nat_abs n) (gauss r.exponent) (gauss r.start) few (given_rectangle F (omega arith) c promise e s)
      start;
}
  where
    r : Reduced
    r = reduction F c e s

    few : nat_abs n ≤ F - 8
    few = (steps_say F 1 n p.steps).at_most

    start : Parts (gauss r.start) (two (F + 11))
    start = given_start F (omega arith) c promise e s p.start

-- at the width 48, of what the code reduced
pub fits_48 : {n : ℤ} {e s : 𝔾} {r : Reduced} → Accepted 48 n e s → r ≡ reduction 48 constants48 e s → ReducedFits 48 step_table (nat_abs n) r
fits_48 {n} p given = subst (ReducedFits 48 step_table (nat_abs n)) (sym given)
    (reduced_fits 48 (omega arith) (omega arith) step_table step_promise constants48 constants_promise p)
