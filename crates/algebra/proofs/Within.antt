-- Lengths by their squares: z is within r where N z ≤ r² and r is not negative. Sum, difference, product, power, sum over an index,
-- scaling, weakening, and a positive factor left out.
use mathlib.Core.Path.{◌≡◌, refl, sym, ◌∙◌, ap, subst}
use mathlib.Core.List.{List, [], ◌∷◌}
use Prim.Native.Nat.{ℕ, zero, suc, ◌^◌, ◌<◌}
use native.Mathlib.Nat.{pow-zero, pow-suc}
use native.Mathlib.Omega.{arith}
use lib.IntN.{ℤ, pos, ◌+ℤ◌, ◌-ℤ◌, ◌*ℤ◌}
use Rattle.algebra.specs.Gauss.{𝔾, ◌^ᵍ◌, ιᵍ, negᵍ, ◌+ᵍ◌, ◌-ᵍ◌, ◌*ᵍ◌, N}
use Rattle.algebra.specs.Order.{◌⩽◌}
use Rattle.algebra.specs.Size.{Within}
use Rattle.algebra.proofs.Ring.{pw}
use Rattle.algebra.proofs.Integer.{ℤR}
use Rattle.algebra.proofs.Gauss.{𝔾R, power_is, dot}
use Rattle.algebra.proofs.Reify.{ring!, reify, reifyᵍ}
use Rattle.algebra.proofs.Order.{⩽_trans, nonneg_add, nonneg_mul, nonneg_sq, sub_nonneg}
use Rattle.algebra.proofs.Linear.{lin, ◌&◌, none}
use Rattle.algebra.proofs.Inequality.{sq_le, le_cancel}
use Rattle.algebra.proofs.Sum.{sum}

pub N-nonneg : (z : 𝔾) → pos 0 ⩽ N z
N-nonneg z = nonneg_add (nonneg_sq z.re) (nonneg_sq z.im)

-- ---- sum, difference and product
module _ {z w : 𝔾} {r s : ℤ} (p : Within z r) (q : Within w s) where
  abbrev atoms : List ℤ
  atoms = z.re ∷ z.im ∷ w.re ∷ w.im ∷ r ∷ s ∷ []

  -- Cauchy and Schwarz: what r² s² is more than (z · w)² is a sum of squares and products
  dot_le : dot z w ⩽ r *ℤ s
  dot_le = sq_le (nonneg_mul p.sign q.sign)
      (lin atoms (nonneg_mul (sub_nonneg p.size) (nonneg_sq s) & nonneg_mul (N-nonneg z) (sub_nonneg q.size)
      & nonneg_sq (z.re *ℤ w.im -ℤ z.im *ℤ w.re) & none) (search reify depth 20) tt)

  pub within_add : Within (z +ᵍ w) (r +ℤ s)
  unfolding ◌+ᵍ◌
  within_add = record {
    sign = nonneg_add p.sign q.sign;
    size = lin atoms (dot_le & p.size & q.size & none)
        (search reify depth 20) tt;
  }

  pub within_mul : Within (z *ᵍ w) (r *ℤ s)
  unfolding ◌*ᵍ◌
  within_mul = record {
    sign = nonneg_mul p.sign q.sign;
    size = lin atoms (nonneg_mul (sub_nonneg p.size) (nonneg_sq s) & nonneg_mul (N-nonneg z) (sub_nonneg q.size) & none)
        (search reify depth 20) tt;
  }

pub within_neg : {z : 𝔾} {r : ℤ} → Within z r → Within (negᵍ z) r
unfolding negᵍ
within_neg {z} {r} p = record { sign = p.sign; size = lin (z.re ∷ z.im ∷ r ∷ []) (p.size & none) (search reify depth 20) tt }

pub within_sub : {z w : 𝔾} {r s : ℤ} → Within z r → Within w s → Within (z -ᵍ w) (r +ℤ s)
within_sub p q = within_add p (within_neg q)

pub within_weaken : {z : 𝔾} {r s : ℤ} → Within z r → r ⩽ s → Within z s
within_weaken {z} {r} {s} p h = record {
  sign = ⩽_trans p.sign h;
  size = lin (z.re ∷ z.im ∷ r ∷ s ∷ []) (p.size & nonneg_mul p.sign (sub_nonneg h) & nonneg_sq (s -ℤ r) & none)
      (search reify depth 20) tt;
}

-- |z + w| ≤ 1 where |z| ≤ 8/9 and |w| ≤ 1/9
pub N-ninths : (z w : 𝔾) → pos 8 *ℤ N (z +ᵍ w) ⩽ pos 9 *ℤ N z +ℤ pos 72 *ℤ N w
unfolding ◌+ᵍ◌
N-ninths z w = lin (z.re ∷ z.im ∷ w.re ∷ w.im ∷ [])
    (nonneg_sq (z.re -ℤ pos 8 *ℤ w.re) & nonneg_sq (z.im -ℤ pos 8 *ℤ w.im) & none) (search reify depth 20) tt

-- ---- whole-number factors
pub within_ι : (c : ℤ) → pos 0 ⩽ c → Within (ιᵍ c) c
unfolding ιᵍ
within_ι c h = record { sign = h; size = lin (c ∷ []) none (search reify depth 20) tt }

pub within_scale : {z : 𝔾} {r : ℤ} (c : ℤ) → pos 0 ⩽ c → Within z r → Within (ιᵍ c *ᵍ z) (c *ℤ r)
within_scale c h p = within_mul (within_ι c h) p

pub within_cancel : {z : 𝔾} {r : ℤ} (c : ℤ) → pos 1 ⩽ c → Within (ιᵍ c *ᵍ z) (c *ℤ r) → Within z r
unfolding ιᵍ ◌*ᵍ◌
within_cancel {z} {r} c h p = record {
  sign = le_cancel c h (lin (c ∷ r ∷ []) (p.sign & none) (search reify depth 20) tt);
  size = le_cancel (c *ℤ c) (lin (c ∷ []) (nonneg_mul (sub_nonneg h) (sub_nonneg h) & h & none) (search reify depth 20) tt)
      (lin (c ∷ z.re ∷ z.im ∷ r ∷ []) (p.size & none) (search reify depth 20) tt);
}

-- a·|z| ≤ r and b/a ≤ s/r give b·|z| ≤ s
pub within_ratio : {r s : ℤ} (z : 𝔾) (a b : ℤ) → pos 1 ⩽ a → pos 0 ⩽ b → b *ℤ r ⩽ a *ℤ s → Within (ιᵍ a *ᵍ z) r → Within (ιᵍ b *ᵍ z) s
within_ratio {s} z a b g h k p = within_cancel a g (subst (λ w. Within w (a *ℤ s)) swap (within_weaken (within_scale b h p) k))
  where
    swap : ιᵍ b *ᵍ (ιᵍ a *ᵍ z) ≡ ιᵍ a *ᵍ (ιᵍ b *ᵍ z)
    swap = ring! 𝔾R (ιᵍ a ∷ ιᵍ b ∷ z ∷ []) (search reifyᵍ depth 20) tt

-- ---- powers, and sums over an index
pub within_pow : {z : 𝔾} {r : ℤ} → Within z r → (n : ℕ) → Within (pw 𝔾R z n) (pw ℤR r n)
unfolding ιᵍ
within_pow p zero = record { sign = record { le = tt }; size = record { le = tt } }
within_pow p (suc n) = within_mul (within_pow p n) p

pub within_power : {z : 𝔾} {r : ℤ} → Within z r → (n : ℕ) → Within (z ^ᵍ n) (pw ℤR r n)
within_power {z} {r} h n = subst (λ w. Within w (pw ℤR r n)) (power_is z n) (within_pow h n)

pub within_sum : (n : ℕ) {f : ℕ → 𝔾} {r : ℕ → ℤ} → ((j : ℕ) → j < n → Within (f j) (r j)) → Within (sum 𝔾R n f) (sum ℤR n r)
unfolding ιᵍ
within_sum zero h = record { sign = record { le = tt }; size = record { le = tt } }
within_sum (suc n) h = within_add (within_sum n (λ j p. h j (omega arith))) (h n (omega arith))

-- ---- the bounds themselves: sums and powers of integers, in order
pub sum_mono : (n : ℕ) {f g : ℕ → ℤ} → ((j : ℕ) → j < n → f j ⩽ g j) → sum ℤR n f ⩽ sum ℤR n g
sum_mono zero h = record { le = tt }
sum_mono (suc n) {f} {g} h = lin (sum ℤR n f ∷ sum ℤR n g ∷ f n ∷ g n ∷ [])
    (sum_mono n (λ j p. h j (omega arith)) & h n (omega arith) & none) (search reify depth 20) tt

pub sum_nonneg : (n : ℕ) {f : ℕ → ℤ} → ((j : ℕ) → j < n → pos 0 ⩽ f j) → pos 0 ⩽ sum ℤR n f
sum_nonneg zero h = record { le = tt }
sum_nonneg (suc n) h = nonneg_add (sum_nonneg n (λ j p. h j (omega arith))) (h n (omega arith))

pub pw_nonneg : {a : ℤ} → pos 0 ⩽ a → (n : ℕ) → pos 0 ⩽ pw ℤR a n
pw_nonneg h zero = record { le = tt }
pw_nonneg h (suc n) = nonneg_mul (pw_nonneg h n) h

pub pw_mono : {a b : ℤ} → pos 0 ⩽ a → a ⩽ b → (n : ℕ) → pw ℤR a n ⩽ pw ℤR b n
pw_mono h g zero = record { le = tt }
pw_mono {a} {b} h g (suc n) = lin (pw ℤR a n ∷ pw ℤR b n ∷ a ∷ b ∷ [])
    (nonneg_mul (sub_nonneg (pw_mono h g n)) h & nonneg_mul (pw_nonneg (⩽_trans h g) n) (sub_nonneg g) & none) (search reify depth 20) tt

pub pw_pos : (m n : ℕ) → pw ℤR (pos m) n ≡ pos (m ^ n)
pw_pos m zero = ap pos (sym (pow-zero m))
pw_pos m (suc n) = ap (λ t. t *ℤ pos m) (pw_pos m n) ∙ ap pos (sym (pow-suc m n))

pub pw_one : (n : ℕ) → pw ℤR (pos 1) n ≡ pos 1
pw_one zero = refl
pw_one (suc n) = ap (λ t. t *ℤ pos 1) (pw_one n)
