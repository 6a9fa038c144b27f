-- A test at n terms holds at every later number of terms, with room for the tail: if S n z / D n is within r/(k · D n) of w/k, and
-- r/(k · D n) + 1/c ≤ m/k, then S T z / D T is within m/k of w/k.
use mathlib.Core.Path.{◌≡◌, subst}
use mathlib.Core.List.{[], ◌∷◌}
use Prim.Native.Nat.{ℕ, ◌≤◌, ◌<◌}
use lib.IntN.{ℤ, pos, ◌+ℤ◌, ◌*ℤ◌}
use Rattle.algebra.specs.Order.{◌⩽◌}
use Rattle.algebra.specs.Gauss.{𝔾, ιᵍ, ◌+ᵍ◌, ◌-ᵍ◌, ◌*ᵍ◌}
use Rattle.algebra.specs.Size.{Within}
use Rattle.algebra.proofs.Reify.{ring!, reify, reifyᵍ}
use Rattle.algebra.proofs.Order.{nonneg_pos, nonneg_mul, sub_nonneg, pos_mono}
use Rattle.algebra.proofs.Linear.{lin, ◌&◌, none}
use Rattle.algebra.proofs.Gauss.{𝔾R}
use Rattle.algebra.proofs.Within.{within_add, within_weaken, within_scale, within_cancel}
use Rattle.series.specs.Series.{D, Dᵍ, Dᶻ}
use Rattle.series.proofs.Series.{D-pos, Sᶜ}
use Rattle.series.proofs.Tail.{TailBound, tail_within}

module _ (T₀ p q c : ℕ) (tb : TailBound T₀ p q c) (c>0 : 0 < c) (U : ℕ) (U>0 : 0 < U) {z : 𝔾} {ρ : ℤ} (h : Within z ρ)
    (near : pos q *ℤ ρ ⩽ pos p *ℤ pos U) where
  pub carry : (k : ℕ) (w : 𝔾) (r m : ℤ) (n T : ℕ) → T₀ ≤ n → n ≤ T → Within (ιᵍ (pos k) *ᵍ Sᶜ U n z -ᵍ Dᵍ U n *ᵍ w) r →
      pos c *ℤ r +ℤ pos k *ℤ Dᶻ U n ⩽ pos c *ℤ (Dᶻ U n *ℤ m) → Within (ιᵍ (pos k) *ᵍ Sᶜ U T z -ᵍ Dᵍ U T *ᵍ w) (Dᶻ U T *ℤ m)
  carry k w r m n T i l g room = within_cancel (Dᶻ U n) (pos_mono (D-pos U U>0 n))
      (within_cancel (pos c) (pos_mono c>0) (subst (λ x. Within x (pos c *ℤ (Dᶻ U n *ℤ (Dᶻ U T *ℤ m)))) shape (within_weaken both enough)))
    where
      both : Within (ιᵍ (pos k) *ᵍ (ιᵍ (pos c) *ᵍ (Dᵍ U n *ᵍ Sᶜ U T z -ᵍ Dᵍ U T *ᵍ Sᶜ U n z)) +ᵍ ιᵍ (pos c) *ᵍ
          (Dᵍ U T *ᵍ (ιᵍ (pos k) *ᵍ Sᶜ U n z -ᵍ Dᵍ U n *ᵍ w))) (pos k *ℤ (Dᶻ U n *ℤ Dᶻ U T) +ℤ pos c *ℤ (Dᶻ U T *ℤ r))
      both = within_add (within_scale (pos k) (nonneg_pos k) (tail_within T₀ p q c tb U U>0 h near n T i l))
          (within_scale (pos c) (nonneg_pos c) (within_scale (Dᶻ U T) (nonneg_pos (D U T)) g))

      enough : pos k *ℤ (Dᶻ U n *ℤ Dᶻ U T) +ℤ pos c *ℤ (Dᶻ U T *ℤ r) ⩽ pos c *ℤ (Dᶻ U n *ℤ (Dᶻ U T *ℤ m))
      enough = lin (pos k ∷ pos c ∷ r ∷ m ∷ Dᶻ U n ∷ Dᶻ U T ∷ []) (nonneg_mul (nonneg_pos (D U T)) (sub_nonneg room) & none)
          (search reify depth 20) tt

      shape : ιᵍ (pos k) *ᵍ (ιᵍ (pos c) *ᵍ (Dᵍ U n *ᵍ Sᶜ U T z -ᵍ Dᵍ U T *ᵍ Sᶜ U n z)) +ᵍ ιᵍ (pos c) *ᵍ
          (Dᵍ U T *ᵍ (ιᵍ (pos k) *ᵍ Sᶜ U n z -ᵍ Dᵍ U n *ᵍ w)) ≡ ιᵍ (pos c) *ᵍ (Dᵍ U n *ᵍ (ιᵍ (pos k) *ᵍ Sᶜ U T z -ᵍ Dᵍ U T *ᵍ w))
      shape = ring! 𝔾R (ιᵍ (pos k) ∷ ιᵍ (pos c) ∷ Dᵍ U n ∷ Dᵍ U T ∷ Sᶜ U T z ∷ Sᶜ U n z ∷ w ∷ []) (search reifyᵍ depth 20) tt
