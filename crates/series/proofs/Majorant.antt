-- The real series majorises the complex one: so does its sum, and so do its terms from the n-th on.
use mathlib.Core.Path.{sym, subst₂}
use Prim.Native.Nat.{ℕ, suc, ◌*◌, ◌≤◌}
use native.Mathlib.Decide.{le_ind}
use lib.IntN.{ℤ, pos}
use Rattle.algebra.specs.Order.{◌⩽◌}
use Rattle.algebra.specs.Gauss.{𝔾}
use Rattle.algebra.specs.Size.{Within}
use Rattle.algebra.proofs.Integer.{ℤR}
use Rattle.algebra.proofs.Order.{nonneg_pos}
use Rattle.algebra.proofs.Gauss.{𝔾R}
use Rattle.algebra.proofs.Within.{within_add, within_pow, within_ι, within_scale}
use Rattle.series.specs.Series.{D}
use Rattle.series.proofs.Series.{tail, tail_self, tail_suc}

module _ (U : ℕ) {z : 𝔾} {ρ : ℤ} (h : Within z ρ) where
  pub within_tail : (n T : ℕ) → n ≤ T → Within (tail 𝔾R U n T z) (tail ℤR U n T ρ)
  within_tail n = le_ind (λ T. Within (tail 𝔾R U n T z) (tail ℤR U n T ρ))
      (subst₂ Within (sym (tail_self 𝔾R U n z)) (sym (tail_self ℤR U n ρ)) (within_ι (pos 0) (nonneg_pos 0)))
      (λ T k p. subst₂ Within (sym (tail_suc 𝔾R U n T z)) (sym (tail_suc ℤR U n T ρ))
      (within_scale (pos (U * suc T)) (nonneg_pos (U * suc T))
      (within_add p (within_scale (pos (D U n)) (nonneg_pos (D U n)) (within_pow h T)))))

pub tail_nonneg : (U n T : ℕ) (ρ : ℤ) → pos 0 ⩽ ρ → n ≤ T → pos 0 ⩽ tail ℤR U n T ρ
tail_nonneg U n T ρ h k = (within_tail U (within_ι ρ h) n T k).sign
