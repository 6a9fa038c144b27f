-- The terms of the real series fall: where from the n-th on each is at most (B − A)/B of the one before, they sum to at most B/A of the
-- n-th.
use mathlib.Core.Path.{sym, ap, subst₂}
use mathlib.Core.List.{[], ◌∷◌}
use Prim.Native.Nat.{ℕ, suc, ◌*◌, ◌≤◌}
use native.Mathlib.Nat.{mul-le-mul_left}
use native.Mathlib.Decide.{le_ind}
use native.Mathlib.Omega.{arith}
use lib.IntN.{ℤ, pos, ◌+ℤ◌, ◌-ℤ◌, ◌*ℤ◌}
use Rattle.algebra.specs.Order.{◌⩽◌}
use Rattle.algebra.proofs.Integer.{ℤR}
use Rattle.algebra.proofs.Ring.{pw}
use Rattle.algebra.proofs.Reify.{reify}
use Rattle.algebra.proofs.Order.{nonneg_pos, nonneg_mul, sub_nonneg, pos_mono}
use Rattle.algebra.proofs.Linear.{lin, ◌&◌, ◌&≡◌, none}
use Rattle.algebra.proofs.Within.{pw_nonneg}
use Rattle.series.specs.Series.{D, Dᶻ}
use Rattle.series.proofs.Series.{D-suc, tail, tail_self, tail_suc}

-- the terms summed so far, A times, and the next, B times, are at most the n-th, B times: all times D n · D T
abbrev pub Falls : (U n : ℕ) (ρ A B : ℤ) → ℕ → Type 0
Falls U n ρ A B T = A *ℤ tail ℤR U n T ρ +ℤ B *ℤ (Dᶻ U n *ℤ pw ℤR ρ T) ⩽ B *ℤ (Dᶻ U T *ℤ pw ℤR ρ n)

module _ (U n : ℕ) (ρ A B : ℤ) (ρ≥0 : pos 0 ⩽ ρ) (A≤B : A ⩽ B) (ratio : B *ℤ ρ ⩽ pos (U * suc n) *ℤ (B -ℤ A)) where
  start : Falls U n ρ A B n
  start = lin (A ∷ tail ℤR U n n ρ ∷ Dᶻ U n ∷ B ∷ pw ℤR ρ n ∷ []) (ap (λ t. A *ℤ t) (tail_self ℤR U n ρ) &≡ none) (search reify depth 20) tt

  step : (T : ℕ) → n ≤ T → Falls U n ρ A B T → Falls U n ρ A B (suc T)
  step T k h = subst₂ (λ t d. A *ℤ t +ℤ B *ℤ (Dᶻ U n *ℤ pw ℤR ρ (suc T)) ⩽ B *ℤ (pos d *ℤ pw ℤR ρ n)) (sym (tail_suc ℤR U n T ρ))
      (sym (D-suc U T))
      (lin (A ∷ tail ℤR U n T ρ ∷ Dᶻ U n ∷ B ∷ pw ℤR ρ T ∷ Dᶻ U T ∷ pw ℤR ρ n ∷ ρ ∷ pos (U * suc T) ∷ [])
      (nonneg_mul (nonneg_pos (U * suc T)) (sub_nonneg h)
      & nonneg_mul (nonneg_mul (nonneg_pos (D U n)) (pw_nonneg ρ≥0 T)) (sub_nonneg later) & none) (search reify depth 20) tt)
    where
      grows : U * suc n ≤ U * suc T
      grows = mul-le-mul_left U (omega arith)

      later : B *ℤ ρ ⩽ pos (U * suc T) *ℤ (B -ℤ A)
      later = lin (A ∷ B ∷ ρ ∷ pos (U * suc n) ∷ pos (U * suc T) ∷ [])
          (ratio & nonneg_mul (sub_nonneg (pos_mono grows)) (sub_nonneg A≤B) & none) (search reify depth 20) tt

  pub decay : (T : ℕ) → n ≤ T → Falls U n ρ A B T
  decay = le_ind (Falls U n ρ A B) start step
