-- The coefficient of z^k over the divisor D n: D n / D k. What two of them make in a product.
use mathlib.Core.Path.{◌≡◌, refl, sym, ◌∙◌, ap, ap₂}
use Prim.Native.Nat.{ℕ, zero, suc, ◌+◌, ◌*◌, ◌-◌, ◌<◌, ◌≤◌}
use native.Mathlib.Nat as NatL
use native.Mathlib.Omega.{arith}
use Rattle.algebra.proofs.Choose.{choose}
use Rattle.algebra.proofs.Binomial.{choose_over}
use Rattle.series.specs.Series.{D}
use Rattle.series.proofs.Series.{D-pos}

-- D (k + d) / D k
unfoldable pub rise : ℕ → ℕ → ℕ → ℕ
rise U k zero = 1
rise U k (suc d) = U * suc (k + d) * rise U k d

unfoldable pub co : ℕ → ℕ → ℕ → ℕ
co U n k = rise U k (n - k)

module _ (U : ℕ) where
  rise_D : (k d : ℕ) → rise U k d * D U k ≡ D U (k + d)
  unfolding rise D
  rise_D k zero = omega (arith, ap (D U) (NatL.add-zero k))
  rise_D k (suc d) = omega (arith, ap (D U) (NatL.add-suc k d), ap (λ t. U * suc (k + d) * t) (rise_D k d))

  pub co_D : (n k : ℕ) → k ≤ n → co U n k * D U k ≡ D U n
  unfolding co
  co_D n k h = rise_D k (n - k) ∙ ap (D U) whole
    where
      whole : k + (n - k) ≡ n
      whole = omega arith

  -- C(k, i) = D k / (D i · D j), i + j = k
  choose_D : (k i j : ℕ) → i + j ≡ k → choose k i * (D U i * D U j) ≡ D U k
  unfolding D choose
  choose_D zero zero zero e = refl
  choose_D zero zero (suc j) e = absurd (omega arith)
  choose_D zero (suc i) j e = absurd (omega arith)
  choose_D (suc k) zero j e = omega (arith, ap (D U) (sym (NatL.zero-add j) ∙ e))
  choose_D (suc k) (suc i) zero e = omega (
    arith,
    ap (λ t. t * (U * suc i)) (choose_D k i 0 (omega arith)),
    ap (λ t. t * (D U (suc i) * D U 0))
        (choose_over k (suc i) (omega arith)),
    ap (λ t. U * D U k * t) (sym (NatL.add-zero (suc i)) ∙ e),
  )
  choose_D (suc k) (suc i) (suc j) e = omega (
    arith,
    ap (λ t. t * (U * suc i)) (choose_D k i (suc j) (omega arith)),
    ap (λ t. t * (U * suc j))
        (choose_D k (suc i) j (omega arith)),
    ap (λ t. U * D U k * t) e,
  )

  -- (D n / D i) (D n / D j) = D n · (D n / D k) · C(k, i), i + j = k
  pub co_co : 0 < U → (n k i j : ℕ) → k ≤ n → i + j ≡ k → co U n i * co U n j ≡ D U n * (co U n k * choose k i)
  co_co p n k i j h e = NatL.eq_of_mul-eq-mul_right (D U i * D U j) (NatL.mul-pos (D-pos U p i) (D-pos U p j)) _ _ (left ∙ sym right)
    where
      left : co U n i * co U n j * (D U i * D U j) ≡ D U n * D U n
      left = omega (arith, ap₂ ◌*◌ (co_D n i (omega arith)) (co_D n j (omega arith)))

      right : D U n * (co U n k * choose k i) * (D U i * D U j) ≡ D U n * D U n
      right = omega (arith, ap (λ t. D U n * (co U n k * t)) (choose_D k i j e), ap (λ t. D U n * t) (co_D n k h))
