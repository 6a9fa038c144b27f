-- Complex whole numbers (Gaussian integers): a commutative ring, with conjugate, multiplication by i, squared length and inner product.
use mathlib.Core.Path.{◌≡◌, refl, sym, ◌∙◌, ap}
use mathlib.Core.List.{List, [], ◌∷◌}
use Prim.Native.Nat.{ℕ, zero, suc}
use lib.IntN.{ℤ, pos, ◌+ℤ◌, ◌*ℤ◌, neg_ℤ}
use Rattle.algebra.specs.Gauss.{𝔾, gi, ◌+ᵍ◌, ◌*ᵍ◌, negᵍ, ιᵍ, iᵍ, ◌^ᵍ◌, N}
use Rattle.algebra.proofs.Ring.{Ring, pw}
use Rattle.algebra.proofs.Integer.{ℤR}
use Rattle.algebra.proofs.Solver.{E, X, K, ◌:+◌, ◌:-◌, ◌:*◌, :neg, ring, den, nf, Zero}

pub gi_path : {z w : 𝔾} → z.re ≡ w.re → z.im ≡ w.im → z ≡ w
gi_path p q = λ i. record { re = p i; im = q i }

-- ---- the ring's laws, part by part: expressions for the two parts of a number
record GE : Type 0 where
  re : E
  im : E

abbrev gv : E → E → GE
gv a b = record { re = a; im = b }

abbrev ◌⊕◌ : GE → GE → GE
z ⊕ w = record { re = z.re :+ w.re; im = z.im :+ w.im }

abbrev ◌⊗◌ : GE → GE → GE
z ⊗ w = record { re = z.re :* w.re :- z.im :* w.im; im = z.re :* w.im :+ z.im :* w.re }

abbrev ⊖ : GE → GE
⊖ z = record { re = :neg z.re; im = :neg z.im }

infixl 6 ◌⊕◌
infixl 7 ◌⊗◌
abbrev gk : ℤ → GE
gk n = record { re = K n; im = K (pos 0) }

abbrev x₀ : GE
x₀ = record { re = X 0; im = X 1 }

abbrev x₁ : GE
x₁ = record { re = X 2; im = X 3 }

abbrev x₂ : GE
x₂ = record { re = X 4; im = X 5 }

abbrev denᵍ : GE → List ℤ → 𝔾
denᵍ e ρ = record { re = den ℤR e.re ρ; im = den ℤR e.im ρ }

ringᵍ : (ρ : List ℤ) (a b : GE) → Zero (nf (a.re :- b.re)) → Zero (nf (a.im :- b.im)) → denᵍ a ρ ≡ denᵍ b ρ
ringᵍ ρ a b p q = gi_path (ring ℤR ρ a.re b.re p) (ring ℤR ρ a.im b.im q)

abbrev ρ₁ : 𝔾 → List ℤ
ρ₁ z = z.re ∷ z.im ∷ []

abbrev ρ₂ : 𝔾 → 𝔾 → List ℤ
ρ₂ z w = z.re ∷ z.im ∷ w.re ∷ w.im ∷ []

abbrev ρ₃ : 𝔾 → 𝔾 → 𝔾 → List ℤ
ρ₃ z w u = z.re ∷ z.im ∷ w.re ∷ w.im ∷ u.re ∷ u.im ∷ []

pub g_add_assoc : (a b c : 𝔾) → a +ᵍ b +ᵍ c ≡ a +ᵍ (b +ᵍ c)
unfolding ◌+ᵍ◌ ◌*ᵍ◌ negᵍ ιᵍ
g_add_assoc a b c = ringᵍ (ρ₃ a b c) (x₀ ⊕ x₁ ⊕ x₂) (x₀ ⊕ (x₁ ⊕ x₂)) tt tt

pub g_add_comm : (a b : 𝔾) → a +ᵍ b ≡ b +ᵍ a
unfolding ◌+ᵍ◌ ◌*ᵍ◌ negᵍ ιᵍ
g_add_comm a b = ringᵍ (ρ₃ a b a) (x₀ ⊕ x₁) (x₁ ⊕ x₀) tt tt

pub g_add_zero : (a : 𝔾) → a +ᵍ ιᵍ (pos 0) ≡ a
unfolding ◌+ᵍ◌ ◌*ᵍ◌ negᵍ ιᵍ
g_add_zero a = ringᵍ (ρ₁ a) (x₀ ⊕ gk (pos 0)) x₀ tt tt

pub g_add_neg : (a : 𝔾) → a +ᵍ negᵍ a ≡ ιᵍ (pos 0)
unfolding ◌+ᵍ◌ ◌*ᵍ◌ negᵍ ιᵍ
g_add_neg a = ringᵍ (ρ₁ a) (x₀ ⊕ ⊖ x₀) (gk (pos 0)) tt tt

pub g_mul_assoc : (a b c : 𝔾) → a *ᵍ b *ᵍ c ≡ a *ᵍ (b *ᵍ c)
unfolding ◌+ᵍ◌ ◌*ᵍ◌ negᵍ ιᵍ
g_mul_assoc a b c = ringᵍ (ρ₃ a b c) (x₀ ⊗ x₁ ⊗ x₂) (x₀ ⊗ (x₁ ⊗ x₂)) tt tt

pub g_mul_comm : (a b : 𝔾) → a *ᵍ b ≡ b *ᵍ a
unfolding ◌+ᵍ◌ ◌*ᵍ◌ negᵍ ιᵍ
g_mul_comm a b = ringᵍ (ρ₃ a b a) (x₀ ⊗ x₁) (x₁ ⊗ x₀) tt tt

pub g_mul_one : (a : 𝔾) → a *ᵍ ιᵍ (pos 1) ≡ a
unfolding ◌+ᵍ◌ ◌*ᵍ◌ negᵍ ιᵍ
g_mul_one a = ringᵍ (ρ₁ a) (x₀ ⊗ gk (pos 1)) x₀ tt tt

pub g_add_mul : (a b c : 𝔾) → (a +ᵍ b) *ᵍ c ≡ a *ᵍ c +ᵍ b *ᵍ c
unfolding ◌+ᵍ◌ ◌*ᵍ◌ negᵍ ιᵍ
g_add_mul a b c = ringᵍ (ρ₃ a b c) ((x₀ ⊕ x₁) ⊗ x₂) (x₀ ⊗ x₂ ⊕ x₁ ⊗ x₂) tt tt

pub g_ι_add : (m n : ℤ) → ιᵍ (m +ℤ n) ≡ ιᵍ m +ᵍ ιᵍ n
unfolding ◌+ᵍ◌ ◌*ᵍ◌ negᵍ ιᵍ
g_ι_add m n = refl

pub g_ι_mul : (m n : ℤ) → ιᵍ (m *ℤ n) ≡ ιᵍ m *ᵍ ιᵍ n
unfolding ◌+ᵍ◌ ◌*ᵍ◌ negᵍ ιᵍ
g_ι_mul m n = ringᵍ (m ∷ n ∷ []) (gv (X 0 :* X 1) (K (pos 0))) (gv (X 0) (K (pos 0)) ⊗ gv (X 1) (K (pos 0))) tt tt

pub g_ι_neg : (m : ℤ) → ιᵍ (neg_ℤ m) ≡ negᵍ (ιᵍ m)
unfolding ◌+ᵍ◌ ◌*ᵍ◌ negᵍ ιᵍ
g_ι_neg m = refl

abbrev pub 𝔾R : Ring
𝔾R = record {
  A = 𝔾;
  add = ◌+ᵍ◌;
  mul = ◌*ᵍ◌;
  neg = negᵍ;
  ι = ιᵍ;
  add_assoc = g_add_assoc;
  add_comm = g_add_comm;
  add_zero = g_add_zero;
  add_neg = g_add_neg;
  mul_assoc = g_mul_assoc;
  mul_comm = g_mul_comm;
  mul_one = g_mul_one;
  add_mul = g_add_mul;
  ι_add = g_ι_add;
  ι_mul = g_ι_mul;
  ι_neg = g_ι_neg;
}

-- a power, in the ring's words
pub power_is : (z : 𝔾) (n : ℕ) → pw 𝔾R z n ≡ z ^ᵍ n
unfolding ◌^ᵍ◌
power_is z zero = refl
power_is z (suc n) = ap (λ w. w *ᵍ z) (power_is z n)

-- and of a real number
pub ι_power : (a : ℤ) (n : ℕ) → ιᵍ a ^ᵍ n ≡ ιᵍ (pw ℤR a n)
unfolding ◌^ᵍ◌
ι_power a zero = refl
ι_power a (suc n) = ap (λ z. z *ᵍ ιᵍ a) (ι_power a n) ∙ sym (g_ι_mul (pw ℤR a n) a)

-- ---- conjugate, and times i
pub i_mul : (z : 𝔾) → iᵍ *ᵍ z ≡ gi (neg_ℤ z.im) z.re
unfolding ◌*ᵍ◌
i_mul z = ringᵍ (ρ₁ z) (gv (K (pos 0)) (K (pos 1)) ⊗ x₀) (gv (:neg x₀.im) x₀.re) tt tt

-- ---- the square of the length, and the inner product
abbrev pub dot : 𝔾 → 𝔾 → ℤ
dot z w = z.re *ℤ w.re +ℤ z.im *ℤ w.im

abbrev Nᵉ : GE → E
Nᵉ z = z.re :* z.re :+ z.im :* z.im

pub N-mul : (z w : 𝔾) → N (z *ᵍ w) ≡ N z *ℤ N w
unfolding ◌*ᵍ◌
N-mul z w = ring ℤR (ρ₂ z w) (Nᵉ (x₀ ⊗ x₁)) (Nᵉ x₀ :* Nᵉ x₁) tt

pub N-scale : (c : ℤ) (z : 𝔾) → N (ιᵍ c *ᵍ z) ≡ c *ℤ c *ℤ N z
unfolding ◌*ᵍ◌ ιᵍ
N-scale c z = ring ℤR (c ∷ z.re ∷ z.im ∷ []) (Nᵉ (gv (X 0) (K (pos 0)) ⊗ gv (X 1) (X 2))) (X 0 :* X 0 :* Nᵉ (gv (X 1) (X 2))) tt
