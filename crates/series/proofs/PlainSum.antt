-- The sum term by term: S T z is the sum over j < T of (D T / D j) · z^j, and D j is U^j · j!. So S T z / D T is the sum of (z/U)^j/j!.
use mathlib.Core.Path.{◌≡◌, refl, sym, ◌∙◌, ap, ap₂}
use mathlib.Core.List.{[], ◌∷◌}
use Prim.Native.Nat.{ℕ, zero, suc, ◌+◌, ◌*◌, ◌-◌, ◌^◌, ◌≤◌}
use native.Mathlib.Nat.{sub_self}
use native.Mathlib.Omega.{arith}
use lib.IntN.{pos}
use Rattle.algebra.specs.Gauss.{𝔾, ιᵍ, ◌*ᵍ◌, ◌^ᵍ◌}
use Rattle.algebra.proofs.Gauss.{𝔾R, power_is}
use Rattle.algebra.proofs.Ring.{Ring, pw}
use Rattle.algebra.proofs.Reify.{ring!, reifyᴿ}
use Rattle.algebra.proofs.Sum.{sum, sum_cong, sum_mul}
use Rattle.series.specs.Series.{D, Sᵍ}
use Rattle.series.proofs.Series.{complex_is, D-fact, fact, S}
use Rattle.series.proofs.Coefficient.{rise, co, co_D}

-- D T / (U^j · j!), a whole number
pub co_is : (U T j : ℕ) → j ≤ T → co U T j * (U ^ j * fact j) ≡ D U T
co_is U T j h = ap (λ d. co U T j * d) (sym (D-fact U j)) ∙ co_D U T j h

-- one more factor of the divisor
co_suc : (U T j : ℕ) → j ≤ T → co U (suc T) j ≡ U * suc T * co U T j
unfolding co rise
co_suc U T j h = ap (rise U j) next ∙ ap (λ k. U * suc k * rise U j (T - j)) whole
  where
    next : suc T - j ≡ suc (T - j)
    next = omega arith

    whole : j + (T - j) ≡ T
    whole = omega arith

co_self : (U T : ℕ) → co U T T ≡ 1
unfolding co rise
co_self U T = ap (rise U T) (sub_self T)

module _ (R : Ring) (U : ℕ) where
  open R use {A, add, mul, ι, ι_mul}

  -- (D T / D j) · z^j
  term : A → ℕ → ℕ → A
  term z T j = mul (ι (pos (co U T j))) (pw R z j)

  term_suc : (z : A) (T j : ℕ) → j ≤ T → mul (ι (pos (U * suc T))) (term z T j) ≡ term z (suc T) j
  unfolding term
  term_suc z T j h = ring! R (ι (pos (U * suc T)) ∷ ι (pos (co U T j)) ∷ pw R z j ∷ []) (search reifyᴿ depth 20) tt
      ∙ ap (λ c. mul c (pw R z j)) (sym (ι_mul (pos (U * suc T)) (pos (co U T j))) ∙ ap (λ c. ι (pos c)) (sym (co_suc U T j h)))

  term_last : (z : A) (T : ℕ) → term z T T ≡ pw R z T
  unfolding term
  term_last z T = ap (λ c. mul (ι (pos c)) (pw R z T)) (co_self U T) ∙ ring! R (pw R z T ∷ []) (search reifyᴿ depth 20) tt

  pub plain_sum : (T : ℕ) (z : A) → S R U T z ≡ sum R T (λ j. mul (ι (pos (co U T j))) (pw R z j))
  unfolding S term
  plain_sum zero z = refl
  plain_sum (suc T) z =
      ap₂ (λ s t. mul (ι (pos (U * suc T))) (add s t)) (plain_sum T z) (sym (term_last z T))
      ∙ sym (sum_mul R (suc T) (ι (pos (U * suc T))) (term z T))
      ∙ sum_cong R (suc T) _ _ (λ j h. term_suc z T j (omega arith))

-- of the definition
pub terms_sum : (U T : ℕ) (z : 𝔾) → Sᵍ U T z ≡ sum 𝔾R T (λ j. ιᵍ (pos (co U T j)) *ᵍ z ^ᵍ j)
terms_sum U T z =
    sym (complex_is U T z)
    ∙ plain_sum 𝔾R U T z
    ∙ sum_cong 𝔾R T _ _ (λ j h. ap (λ p. ιᵍ (pos (co U T j)) *ᵍ p) (power_is z j))
