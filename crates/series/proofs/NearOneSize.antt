-- Near zero the series is not much longer than one.
use mathlib.Core.Path.{subst₂}
use mathlib.Core.List.{[], ◌∷◌}
use Prim.Native.Nat.{ℕ, ◌≤◌, ◌<◌}
use lib.IntN.{ℤ, pos, ◌+ℤ◌, ◌*ℤ◌}
use Rattle.algebra.specs.Order.{◌⩽◌}
use Rattle.algebra.specs.Gauss.{𝔾, ιᵍ, ◌*ᵍ◌}
use Rattle.algebra.specs.Size.{Within}
use Rattle.algebra.proofs.Integer.{ℤR}
use Rattle.algebra.proofs.Reify.{ring!, reify, reifyᵍ}
use Rattle.algebra.proofs.Order.{nonneg_pos}
use Rattle.algebra.proofs.Gauss.{𝔾R}
use Rattle.algebra.proofs.Within.{within_add, within_ι, within_scale}
use Rattle.series.specs.Series.{D, Dᵍ, Dᶻ}
use Rattle.series.proofs.Series.{Sᶜ}
use Rattle.series.proofs.NearOne.{room, room≥0, near_one}

module _ (U : ℕ) {z : 𝔾} {ρ : ℤ} (h : Within z ρ) (near : ρ ⩽ pos 2 *ℤ pos U) (T : ℕ) (T>0 : 1 ≤ T) where
  pub size : 0 < U → Within (ιᵍ (room U ρ) *ᵍ Sᶜ U T z) ((pos 2 *ℤ pos U +ℤ ρ) *ℤ Dᶻ U T)
  size U>0 = subst₂ Within (ring! 𝔾R (ιᵍ (room U ρ) ∷ Sᶜ U T z ∷ Dᵍ U T ∷ []) (search reifyᵍ depth 20) tt)
      (ring! ℤR (ρ ∷ pos U ∷ Dᶻ U T ∷ []) (search reify depth 20) tt)
      (within_add (near_one U h near T T>0 U>0) (within_scale (room U ρ) (room≥0 U near) (within_ι (Dᶻ U T) (nonneg_pos (D U T)))))
