-- The series over any ring, so that the complex one and the real one that majorises it are one definition; at 𝔾 it is that of specs/.
use mathlib.Core.Path.{◌≡◌, refl, sym, ◌∙◌, ap, ap₂}
use mathlib.Core.List.{[], ◌∷◌}
use Prim.Native.Nat.{ℕ, zero, suc, ◌*◌, ◌^◌, ◌<◌}
use native.Mathlib.Nat.{mul-pos, pow-zero, pow-suc}
use native.Mathlib.Omega.{arith}
use lib.IntN.{ℤ, pos}
use Rattle.algebra.specs.Gauss.{𝔾, ιᵍ, ◌+ᵍ◌, ◌*ᵍ◌}
use Rattle.algebra.proofs.Ring.{Ring, pw, mul_zero}
use Rattle.algebra.proofs.Integer.{ℤR}
use Rattle.algebra.proofs.Gauss.{𝔾R, power_is}
use Rattle.algebra.proofs.Reify.{ring!, reifyᴿ}
use Rattle.series.specs.Series.{D, Sᵍ, Dᵍ}

-- ---- the divisor
unfoldable pub fact : ℕ → ℕ
fact zero = 1
fact (suc T) = suc T * fact T

pub D-fact : (U T : ℕ) → D U T ≡ U ^ T * fact T
unfolding D fact
D-fact U zero = omega (arith, pow-zero U)
D-fact U (suc T) = ap (λ t. U * suc T * t) (D-fact U T) ∙ omega (arith, ap (λ t. t * (suc T * fact T)) (pow-suc U T))

pub D-suc : (U T : ℕ) → D U (suc T) ≡ U * suc T * D U T
unfolding D
D-suc U T = refl

pub D-pos : (U : ℕ) → 0 < U → (T : ℕ) → 0 < D U T
unfolding D
D-pos U h zero = omega arith
D-pos U h (suc T) = mul-pos (mul-pos h (omega arith)) (D-pos U h T)

-- ---- the sum: one more term z^T/(U^T T!) over one more factor of the divisor; and its terms from the n-th up to the T-th
module _ (R : Ring) (U : ℕ) where
  open R use {A, add, mul, neg, ι, ι_mul, add_zero, add_neg}

  abbrev pub Dᴿ : ℕ → A
  Dᴿ T = ι (pos (D U T))

  unfoldable pub S : ℕ → A → A
  S zero z = ι (pos 0)
  S (suc T) z = mul (ι (pos (U * suc T))) (add (S T z) (pw R z T))

  -- times D n · D T
  unfoldable pub tail : ℕ → ℕ → A → A
  tail n T z = add (mul (Dᴿ n) (S T z)) (neg (mul (Dᴿ T) (S n z)))

  pub Dᴿ-suc : (T : ℕ) → Dᴿ (suc T) ≡ mul (ι (pos (U * suc T))) (Dᴿ T)
  unfolding D
  Dᴿ-suc T = ι_mul (pos (U * suc T)) (pos (D U T))

  pub tail_self : (n : ℕ) (z : A) → tail n n z ≡ ι (pos 0)
  unfolding tail
  tail_self n z = add_neg (mul (Dᴿ n) (S n z))

  pub tail_suc : (n T : ℕ) (z : A) → tail n (suc T) z ≡ mul (ι (pos (U * suc T))) (add (tail n T z) (mul (Dᴿ n) (pw R z T)))
  unfolding tail S
  tail_suc n T z = ap (λ t. add (mul (Dᴿ n) (S (suc T) z)) (neg (mul t (S n z)))) (Dᴿ-suc T)
      ∙ ring! R (Dᴿ n ∷ ι (pos (U * suc T)) ∷ Dᴿ T ∷ S T z ∷ S n z ∷ pw R z T ∷ z ∷ []) (search reifyᴿ depth 20) tt

  -- the sum less one
  pub tail_one : (T : ℕ) (z : A) → tail 1 T z ≡ mul (ι (pos U)) (add (S T z) (neg (Dᴿ T)))
  unfolding tail S D
  tail_one T z = ap₂ (λ u v. add (mul (ι (pos u)) (S T z)) (neg (mul (Dᴿ T) (mul (ι (pos v)) (add (ι (pos 0)) (ι (pos 1))))))) (once₂ U)
      (once U)
      ∙ ring! R (ι (pos U) ∷ Dᴿ T ∷ S T z ∷ []) (search reifyᴿ depth 20) tt
    where
      once : (u : ℕ) → u * 1 ≡ u
      once u = omega arith

      once₂ : (u : ℕ) → u * 1 * 1 ≡ u
      once₂ u = omega arith

  -- e^0 = 1
  pub S-at-zero : (T : ℕ) → S (suc T) (ι (pos 0)) ≡ Dᴿ (suc T)
  unfolding S D
  S-at-zero zero = ring! R (ι (pos (U * 1)) ∷ []) (search reifyᴿ depth 20) tt ∙ sym (Dᴿ-suc 0)
  S-at-zero (suc T) = ap₂ (λ s t. mul (ι (pos (U * suc (suc T)))) (add s t)) (S-at-zero T) (mul_zero R (pw R (ι (pos 0)) T))
      ∙ ap (λ t. mul (ι (pos (U * suc (suc T)))) t) (add_zero (Dᴿ (suc T))) ∙ sym (Dᴿ-suc (suc T))

-- ---- complex and real
abbrev pub Sᶜ : ℕ → ℕ → 𝔾 → 𝔾
Sᶜ U T z = S 𝔾R U T z

abbrev pub Sᶻ : ℕ → ℕ → ℤ → ℤ
Sᶻ U T ρ = S ℤR U T ρ

pub complex_is : (U T : ℕ) (z : 𝔾) → Sᶜ U T z ≡ Sᵍ U T z
unfolding S Sᵍ
complex_is U zero z = refl
complex_is U (suc T) z = ap₂ (λ s p. ιᵍ (pos (U * suc T)) *ᵍ (s +ᵍ p)) (complex_is U T z) (power_is z T)

pub exp_zero : (U T : ℕ) → Sᵍ U (suc T) (ιᵍ (pos 0)) ≡ Dᵍ U (suc T)
exp_zero U T = sym (complex_is U (suc T) (ιᵍ (pos 0))) ∙ S-at-zero 𝔾R U T
