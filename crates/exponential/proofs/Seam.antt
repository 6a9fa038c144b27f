-- THE SEAM: at an exponent of the rectangle the reduction's answer, times 2^k, and the plain one differ in each part by at most both error
-- bounds. So at the rectangle's edge, where the one gives way to the other, the answer does not jump by more.
use mathlib.Core.Path.{subst}
use mathlib.Core.List.{[], ◌∷◌}
use Prim.Native.Nat.{ℕ, ◌-◌, ◌^◌, ◌≤◌}
use native.Mathlib.Omega.{arith}
use lib.IntN.{ℤ, pos, ◌+ℤ◌, ◌*ℤ◌}
use Rattle.algebra.specs.Gauss.{𝔾, ◌-ᵍ◌, ◌*ᵍ◌, two, twoᵍ}
use Rattle.algebra.specs.Size.{Parts}
use Rattle.algebra.proofs.Gauss.{𝔾R}
use Rattle.algebra.proofs.Reify.{ring!, reify, reifyᵍ}
use Rattle.algebra.proofs.Order.{nonneg_pos, pos_mono}
use Rattle.algebra.proofs.Linear.{lin, none}
use Rattle.algebra.proofs.Power.{two_pos}
use Rattle.algebra.proofs.Parts.{abs_size, parts_add, parts_neg, parts_scale, parts_weaken, parts_cancel}
use Rattle.series.specs.Series.{Sᵍ, Dᵍ, Dᶻ}
use Rattle.series.proofs.Series.{D-pos}
use Rattle.point.specs.Point.{gauss}
use Rattle.table_numbers.specs.Promise.{StepTable, Constants}
use Rattle.table_numbers.proofs.Promises.{StepPromise, ConstantsPromise}
use Rattle.exponential.specs.Reduction.{doublings, reduced, unreduced}
use Rattle.exponential.specs.Answer.{error_bound_of, ended, up, down, miss, CloseAt}
use Rattle.exponential.proofs.Convergence.{Rectangle}
use Rattle.exponential.proofs.Given.{rectangle_near}
use Rattle.exponential.proofs.Close.{close_inside, close_outside, error_re, error_im}

-- two answers that are close to one exponential
module _ (F n T : ℕ) (k : ℤ) (e s s₁ a a₁ : 𝔾) (plain : CloseAt F n T (pos 0) e s s a) (far : CloseAt F n T k e s s₁ a₁) where
  abbrev δ : ℤ
  δ = Dᶻ (2 ^ F) T

  pub together : Parts (twoᵍ (up k) *ᵍ a₁ -ᵍ twoᵍ (down k) *ᵍ a) (error_bound_of n s₁ *ℤ two (up k) +ℤ error_bound_of n s *ℤ two (down k))
  together = parts_cancel δ (pos_mono (D-pos (2 ^ F) (two_pos F) T))
      (subst (λ z. Parts z (δ *ℤ (error_bound_of n s₁ *ℤ two (up k) +ℤ error_bound_of n s *ℤ two (down k))))
      (ring! 𝔾R (twoᵍ (up k) ∷ twoᵍ (down k) ∷ Dᵍ (2 ^ F) T ∷ a ∷ a₁ ∷ s ∷ Sᵍ (2 ^ F) T e ∷ []) (search reifyᵍ depth 20) tt)
      (parts_weaken (parts_add off (parts_neg (parts_scale (two (down k)) (nonneg_pos (2 ^ down k)) off₀)))
      (lin (error_bound_of n s₁ ∷ error_bound_of n s ∷ two (up k) ∷ two (down k) ∷ δ ∷ []) none (search reify depth 20) tt)))
    where
      off : Parts (miss F T k e s a₁) (error_bound_of n s₁ *ℤ two (up k) *ℤ δ)
      off = record { re = abs_size (error_re F n T k e s s₁ a₁ far); im = abs_size (error_im F n T k e s s₁ a₁ far) }

      off₀ : Parts (miss F T (pos 0) e s a) (error_bound_of n s *ℤ pos 1 *ℤ δ)
      off₀ = record { re = abs_size (error_re F n T (pos 0) e s s a plain); im = abs_size (error_im F n T (pos 0) e s s a plain) }

module _ (F : ℕ) (wide : 16 ≤ F) (narrow : F ≤ 48) (t : StepTable) (table : StepPromise F (F - 8) t)
    (c : Constants) (promise : ConstantsPromise F c) where
  pub seam : (n : ℕ) (e s : 𝔾) → 1 ≤ n → n ≤ F - 8 → Rectangle F e → let k = doublings c e in
      Parts (twoᵍ (up k) *ᵍ gauss (ended F t n (reduced c e s)).point -ᵍ twoᵍ (down k) *ᵍ gauss (ended F t n (unreduced e s)).point)
      (error_bound_of n (gauss (reduced c e s).start) *ℤ two (up k) +ℤ error_bound_of n s *ℤ two (down k))
  seam n e s least most rect = together F n 80 (doublings c e) e s (gauss (reduced c e s).start)
      (gauss (ended F t n (unreduced e s)).point) (gauss (ended F t n (reduced c e s)).point)
      (close_inside F wide narrow t table c promise n 80 e s least most rect (omega arith))
      (close_outside F wide narrow t table c promise n 80 e s least most (rectangle_near rect) (omega arith))
