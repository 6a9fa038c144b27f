-- The tail: at ρ/U at most R = p/q, what follows the first T₀ terms is at most 1/c.
use mathlib.Core.Path.{◌≡◌, ◌∙◌, ap, ap₂, subst₂}
use mathlib.Core.List.{[], ◌∷◌}
use Prim.Native.Nat.{ℕ, suc, ◌+◌, ◌*◌, ◌^◌, ◌≤◌, ◌<◌}
use native.Mathlib.Nat.{le_refl, mul-pos}
use native.Mathlib.Omega.{arith}
use lib.IntN.{ℤ, pos, ◌-ℤ◌, ◌*ℤ◌}
use Rattle.algebra.specs.Order.{◌⩽◌}
use Rattle.algebra.specs.Gauss.{𝔾, ιᵍ, ◌-ᵍ◌, ◌*ᵍ◌}
use Rattle.algebra.specs.Size.{Within}
use Rattle.algebra.proofs.Integer.{ℤR}
use Rattle.algebra.proofs.Ring.{pw}
use Rattle.algebra.proofs.Reify.{reify}
use Rattle.algebra.proofs.Inequality.{le_cancel}
use Rattle.algebra.proofs.Power.{pow_pos}
use Rattle.algebra.proofs.Order.{nonneg_pos, nonneg_mul, sub_nonneg, pos_mono}
use Rattle.algebra.proofs.Linear.{lin, ◌&◌, ◌&≡◌, none}
use Rattle.algebra.proofs.Binomial.{pw_mul}
use Rattle.algebra.proofs.Within.{within_weaken, pw_nonneg, pw_mono, pw_pos, within_scale}
use Rattle.series.specs.Series.{D, Dᵍ, Dᶻ}
use Rattle.series.proofs.Series.{D-pos, D-fact, fact, Sᶜ, tail}
use Rattle.series.proofs.Majorant.{within_tail, tail_nonneg}
use Rattle.series.proofs.Decay.{Falls, decay}

-- R^T₀/T₀! · 1/(1 − R/(T₀ + 1)) ≤ 1/c, a test of numbers, where 1 − R/(T₀ + 1) is a/(q (T₀ + 1))
pub record TailBound (T₀ p q c : ℕ) : Type 0 where
  pub a : ℕ
  pub a_is : a + p ≡ q * suc T₀
  pub a>0 : 0 < a
  pub q>0 : 0 < q
  pub bound : c * (q * suc T₀ * p ^ T₀) ≤ a * (q ^ T₀ * fact T₀)

module _ (T₀ p q c : ℕ) (tb : TailBound T₀ p q c) (U : ℕ) (U>0 : 0 < U) (ρ : ℤ) (ρ≥0 : pos 0 ⩽ ρ) (near : pos q *ℤ ρ ⩽ pos p *ℤ pos U) where
  open tb use {a, a_is, a>0, q>0, bound}

  powers : pos (q ^ T₀) *ℤ pw ℤR ρ T₀ ⩽ pos (p ^ T₀) *ℤ pos (U ^ T₀)
  powers = subst₂ ◌⩽◌ (pw_mul ℤR (pos q) ρ T₀ ∙ ap (λ t. t *ℤ pw ℤR ρ T₀) (pw_pos q T₀))
      (pw_mul ℤR (pos p) (pos U) T₀ ∙ ap₂ ◌*ℤ◌ (pw_pos p T₀) (pw_pos U T₀))
      (pw_mono (nonneg_mul (nonneg_pos q) ρ≥0) near T₀)

  -- the first term that is left out, with what follows it
  first : pos c *ℤ (pos (q * suc T₀) *ℤ pw ℤR ρ T₀) ⩽ pos a *ℤ Dᶻ U T₀
  first = le_cancel (pos (q ^ T₀)) (pos_mono (pow_pos q q>0 T₀))
      (lin (pos (q ^ T₀) ∷ pos c ∷ pos (q * suc T₀) ∷ pw ℤR ρ T₀ ∷ pos a ∷ Dᶻ U T₀ ∷ pos (p ^ T₀) ∷ pos (U ^ T₀) ∷ pos (fact T₀) ∷ [])
      (nonneg_mul (nonneg_mul (nonneg_pos c) (nonneg_pos (q * suc T₀))) (sub_nonneg powers)
      & nonneg_mul (nonneg_pos (U ^ T₀)) (sub_nonneg (pos_mono bound)) & ap (λ d. pos (q ^ T₀) *ℤ (pos a *ℤ pos d)) (D-fact U T₀) &≡ none)
      (search reify depth 20) tt)

  -- from T₀ on each term is at most p/(q (T₀ + 1)) of the one before
  ratio : (n : ℕ) → T₀ ≤ n → pos (q * suc T₀) *ℤ ρ ⩽ pos (U * suc n) *ℤ (pos (q * suc T₀) -ℤ pos a)
  ratio n h = lin (pos q ∷ pos T₀ ∷ ρ ∷ pos U ∷ pos n ∷ pos a ∷ pos p ∷ [])
      (nonneg_mul (nonneg_pos (suc T₀)) (sub_nonneg near)
      & nonneg_mul (nonneg_mul (nonneg_pos U) (nonneg_pos p)) (sub_nonneg (pos_mono h)) & ap (λ t. pos (U * suc n) *ℤ pos t) a_is &≡ none)
      (search reify depth 20) tt

  falls : (n T : ℕ) → T₀ ≤ n → n ≤ T → Falls U n ρ (pos a) (pos (q * suc T₀)) T
  falls n T h k = decay U n ρ (pos a) (pos (q * suc T₀)) ρ≥0 (pos_mono (omega (arith, a_is))) (ratio n h) T k

  -- the n-th term and what follows it, by the T₀-th
  pub tail_le : (n T : ℕ) → T₀ ≤ n → n ≤ T → pos c *ℤ tail ℤR U n T ρ ⩽ Dᶻ U n *ℤ Dᶻ U T
  tail_le n T h k = le_cancel (pos a *ℤ Dᶻ U T₀) (pos_mono (mul-pos a>0 (D-pos U U>0 T₀)))
      (lin (pos a ∷ pos c ∷ Dᶻ U T₀ ∷ Dᶻ U n ∷ Dᶻ U T ∷ pos
      (q * suc T₀) ∷ pw ℤR ρ T₀ ∷ pw ℤR ρ n ∷ pw ℤR ρ T ∷ tail ℤR U n T ρ ∷ tail ℤR U T₀ n ρ ∷ [])
      (nonneg_mul (nonneg_pos (c * D U T₀)) (sub_nonneg (falls n T h k))
      & nonneg_mul (nonneg_pos (c * D U T)) (sub_nonneg (falls T₀ n (le_refl T₀) h))
      & nonneg_mul (nonneg_pos (D U n * D U T)) (sub_nonneg first)
      & nonneg_mul (nonneg_pos (c * D U T₀ * D U n * (q * suc T₀))) (pw_nonneg ρ≥0 T)
      & nonneg_mul (nonneg_pos (c * D U T * a)) (tail_nonneg U T₀ n ρ ρ≥0 h) & none) (search reify depth 20) tt)

-- the sums of n and of T terms differ by at most 1/c
pub tail_within : (T₀ p q c : ℕ) → TailBound T₀ p q c → (U : ℕ) → 0 < U → {z : 𝔾} {ρ : ℤ} → Within z ρ → pos q *ℤ ρ ⩽ pos p *ℤ pos U →
    (n T : ℕ) → T₀ ≤ n → n ≤ T →
    Within (ιᵍ (pos c) *ᵍ (Dᵍ U n *ᵍ Sᶜ U T z -ᵍ Dᵍ U T *ᵍ Sᶜ U n z)) (Dᶻ U n *ℤ Dᶻ U T)
unfolding tail
tail_within T₀ p q c tb U U>0 {ρ} h near n T i k = within_weaken (within_scale (pos c) (nonneg_pos c) (within_tail U h n T k))
    (tail_le T₀ p q c tb U U>0 ρ h.sign near n T i k)
