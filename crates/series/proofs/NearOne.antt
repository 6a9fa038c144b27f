-- Near zero the series is near one: with r = ρ/U at most 2, S T z / D T is within r/(1 − r/2) of 1, so its length is at most (1 + r/2)/(1
-- − r/2).
use mathlib.Core.Path.{◌≡◌, ◌∙◌, ap, subst}
use mathlib.Core.List.{[], ◌∷◌}
use Prim.Native.Nat.{ℕ, ◌≤◌, ◌<◌}
use lib.IntN.{ℤ, pos, ◌-ℤ◌, ◌*ℤ◌}
use Rattle.algebra.specs.Order.{◌⩽◌}
use Rattle.algebra.specs.Gauss.{𝔾, ιᵍ, ◌-ᵍ◌, ◌*ᵍ◌}
use Rattle.algebra.specs.Size.{Within}
use Rattle.algebra.proofs.Integer.{ℤR}
use Rattle.algebra.proofs.Ring.{pw}
use Rattle.algebra.proofs.Reify.{ring!, reify, reifyᵍ}
use Rattle.algebra.proofs.Order.{nonneg_pos, nonneg_mul, pos_mono}
use Rattle.algebra.proofs.Linear.{lin, ◌&◌, none}
use Rattle.algebra.proofs.Gauss.{𝔾R}
use Rattle.algebra.proofs.Within.{within_weaken, pw_nonneg, within_scale, within_cancel}
use Rattle.series.specs.Series.{D, Dᵍ, Dᶻ}
use Rattle.series.proofs.Series.{Sᶜ, tail, tail_one}
use Rattle.series.proofs.Majorant.{within_tail}
use Rattle.series.proofs.Decay.{decay}

-- 2U − ρ
abbrev pub room : ℕ → ℤ → ℤ
room U ρ = pos 2 *ℤ pos U -ℤ ρ

pub room≥0 : (U : ℕ) {ρ : ℤ} → ρ ⩽ pos 2 *ℤ pos U → pos 0 ⩽ room U ρ
room≥0 U {ρ = ρ} near = lin (ρ ∷ pos U ∷ []) (near & none) (search reify depth 20) tt

module _ (U : ℕ) {z : 𝔾} {ρ : ℤ} (h : Within z ρ) (near : ρ ⩽ pos 2 *ℤ pos U) (T : ℕ) (T>0 : 1 ≤ T) where
  -- from the first on each term is at most ρ/(2U) of the one before
  real : room U ρ *ℤ tail ℤR U 1 T ρ ⩽ pos U *ℤ (pos 2 *ℤ ρ *ℤ Dᶻ U T)
  real = lin (ρ ∷ pos U ∷ tail ℤR U 1 T ρ ∷ Dᶻ U T ∷ Dᶻ U 1 ∷ pw ℤR ρ T ∷ [])
      (decay U 1 ρ (room U ρ) (pos 2 *ℤ pos U) h.sign (lin (ρ ∷ pos U ∷ []) (h.sign & none) (search reify depth 20) tt)
      (lin (ρ ∷ pos U ∷ []) none (search reify depth 20) tt) T T>0
      & nonneg_mul (nonneg_mul (nonneg_pos (D U 1)) (nonneg_pos U)) (pw_nonneg h.sign T) & none) (search reify depth 20) tt

  pub near_one : 0 < U → Within (ιᵍ (room U ρ) *ᵍ (Sᶜ U T z -ᵍ Dᵍ U T)) (pos 2 *ℤ ρ *ℤ Dᶻ U T)
  near_one U>0 = within_cancel (pos U) (pos_mono U>0) (subst (λ w. Within w (pos U *ℤ (pos 2 *ℤ ρ *ℤ Dᶻ U T))) out
      (within_weaken (within_scale (room U ρ) (room≥0 U near) (within_tail U h 1 T T>0)) real))
    where
      out : ιᵍ (room U ρ) *ᵍ tail 𝔾R U 1 T z ≡ ιᵍ (pos U) *ᵍ (ιᵍ (room U ρ) *ᵍ (Sᶜ U T z -ᵍ Dᵍ U T))
      out = ap (λ w. ιᵍ (room U ρ) *ᵍ w) (tail_one 𝔾R U T z)
          ∙ ring! 𝔾R (ιᵍ (room U ρ) ∷ ιᵍ (pos U) ∷ Sᶜ U T z ∷ Dᵍ U T ∷ []) (search reifyᵍ depth 20) tt
