-- Complex whole numbers.
use Rattle.std.specs.Prelude.{ℕ, zero, suc, ◌^◌, ℤ, pos, ◌+ℤ◌, ◌-ℤ◌, ◌*ℤ◌, neg_ℤ}

pub record 𝔾 : Type 0 where
  pub re : ℤ
  pub im : ℤ

-- a + ib
abbrev pub gi : ℤ → ℤ → 𝔾
gi a b = record { re = a; im = b }

infixl 6 ◌+ᵍ◌ ◌-ᵍ◌
infixl 7 ◌*ᵍ◌
unfoldable pub ◌+ᵍ◌ : 𝔾 → 𝔾 → 𝔾
z +ᵍ w = record { re = z.re +ℤ w.re; im = z.im +ℤ w.im }

unfoldable pub ◌*ᵍ◌ : 𝔾 → 𝔾 → 𝔾
z *ᵍ w = record { re = z.re *ℤ w.re -ℤ z.im *ℤ w.im; im = z.re *ℤ w.im +ℤ z.im *ℤ w.re }

unfoldable pub negᵍ : 𝔾 → 𝔾
negᵍ z = record { re = neg_ℤ z.re; im = neg_ℤ z.im }

abbrev pub ◌-ᵍ◌ : 𝔾 → 𝔾 → 𝔾
z -ᵍ w = z +ᵍ negᵍ w

-- a real number, and i
unfoldable pub ιᵍ : ℤ → 𝔾
ιᵍ n = record { re = n; im = pos 0 }

abbrev pub iᵍ : 𝔾
iᵍ = gi (pos 0) (pos 1)

unfoldable pub conj : 𝔾 → 𝔾
conj z = gi z.re (neg_ℤ z.im)

-- z to the n
infixl 8 ◌^ᵍ◌
unfoldable pub ◌^ᵍ◌ : 𝔾 → ℕ → 𝔾
z ^ᵍ zero = ιᵍ (pos 1)
z ^ᵍ suc n = z ^ᵍ n *ᵍ z

-- the square of the length
abbrev pub N : 𝔾 → ℤ
N z = z.re *ℤ z.re +ℤ z.im *ℤ z.im

-- ---- 2^n
abbrev pub two : ℕ → ℤ
two n = pos (2 ^ n)

abbrev pub twoᵍ : ℕ → 𝔾
twoᵍ n = ιᵍ (two n)
