-- Worked lines for the two provers, and for citing the laws.
use mathlib.Core.Path.{◌≡◌}
use mathlib.Core.List.{[], ◌∷◌}
use Prim.Native.Nat.{ℕ, suc, ◌+◌, ◌*◌, ◌≤◌, ◌<◌}
use lib.IntN.{ℤ, pos, ◌+ℤ◌, ◌-ℤ◌, ◌*ℤ◌}
use Rattle.algebra.specs.Gauss.{𝔾, ιᵍ, ◌+ᵍ◌, ◌-ᵍ◌, ◌*ᵍ◌}
use Rattle.algebra.specs.Order.{◌⩽◌, ◌⋖◌}
use Rattle.algebra.specs.Size.{Within}
use Rattle.algebra.proofs.Ring.{Ring}
use Rattle.algebra.proofs.Integer.{ℤR}
use Rattle.algebra.proofs.Gauss.{𝔾R}
use Rattle.algebra.proofs.Reify.{ring!, reify, reifyᵍ, reifyᴿ}
use Rattle.algebra.proofs.Order.{nonneg_mul, nonneg_sq, sub_nonneg, pos_inj_le}
use Rattle.algebra.proofs.Linear.{lin, lin<, ◌&◌, ◌&<◌, ◌&≡◌, ◌&ℕ◌, none}
use Rattle.algebra.proofs.Within.{within_add, within_mul}

-- ---- identities
cube : (a b : ℤ) → (a +ℤ b) *ℤ (a +ℤ b) *ℤ (a +ℤ b) ≡ a *ℤ a *ℤ a +ℤ pos 3 *ℤ (a *ℤ a) *ℤ b +ℤ pos 3 *ℤ a *ℤ (b *ℤ b) +ℤ b *ℤ b *ℤ b
cube a b = ring! ℤR (a ∷ b ∷ []) (search reify depth 20) tt

-- the factors inside ιᵍ are taken apart; m is real, z and w are complex
squares : (m : ℤ) (z w : 𝔾) → ιᵍ (m *ℤ m) *ᵍ (z *ᵍ z) -ᵍ w *ᵍ w ≡ (ιᵍ m *ᵍ z -ᵍ w) *ᵍ (ιᵍ m *ᵍ z +ᵍ w)
squares m z w = ring! 𝔾R (ιᵍ m ∷ z ∷ w ∷ []) (search reifyᵍ depth 20) tt

over_any_ring : (R : Ring) (a b c : R.A) → R.mul a (R.add b c) ≡ R.add (R.mul c a) (R.mul b a)
over_any_ring R a b c = ring! R (a ∷ b ∷ c ∷ []) (search reifyᴿ depth 20) tt

-- ---- inequalities
chain : (a b c d : ℤ) → a +ℤ b ⩽ c → pos 2 *ℤ c ⩽ d → pos 0 ⩽ b → pos 2 *ℤ a ⩽ d
chain a b c d h k l = lin (a ∷ b ∷ c ∷ d ∷ []) (h & k & l & none) (search reify depth 20) tt

-- products that the goal needs are listed as facts
product : (a b c d : ℤ) → pos 0 ⩽ a → a ⩽ b → pos 0 ⩽ c → c ⩽ d → a *ℤ c ⩽ b *ℤ d
product a b c d h k l m = lin (a ∷ b ∷ c ∷ d ∷ [])
    (nonneg_mul h (sub_nonneg m) & nonneg_mul l (sub_nonneg k) & nonneg_mul (sub_nonneg k) (sub_nonneg m) & none) (search reify depth 20) tt

means : (a b : ℤ) → pos 2 *ℤ (a *ℤ b) ⩽ a *ℤ a +ℤ b *ℤ b
means a b = lin (a ∷ b ∷ []) (nonneg_sq (a -ℤ b) & none) (search reify depth 20) tt

-- strict facts, equations and facts of ℕ
strict : (a b c : ℤ) → a ⋖ b → b ≡ c -ℤ pos 1 → a ⋖ c
strict a b c h e = lin< (a ∷ b ∷ c ∷ []) (h &< e &≡ none) (search reify depth 20) tt

naturals : (m n : ℕ) (a : ℤ) → m < n → pos n ⩽ a → pos (suc m) ⩽ a
naturals m n a h k = lin (pos m ∷ pos n ∷ a ∷ []) (h &ℕ k & none) (search reify depth 20) tt

back_to_naturals : (m n : ℕ) (a : ℤ) → pos m ⩽ a → pos 2 *ℤ a ⋖ pos n → 2 * m + 1 ≤ n
back_to_naturals m n a h k = pos_inj_le (lin (pos m ∷ pos n ∷ a ∷ []) (h & k &< none) (search reify depth 20) tt)

-- ---- lengths: |u v + w| ≤ r s + t
product_error : (u v w : 𝔾) (r s t : ℤ) → Within u r → Within v s → Within w t → Within (u *ᵍ v +ᵍ w) (r *ℤ s +ℤ t)
product_error u v w r s t p q k = within_add (within_mul p q) k
