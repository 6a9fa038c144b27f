-- Quotients rounded to whole numbers. A shift right, shr_z z m, is floor(z/m): towards minus infinity, for negative numbers too.
use Rattle.std.specs.Prelude.{ℕ, ◌*◌, ℤ, pos, neg_ℤ, ◌+ℤ◌, ◌*ℤ◌}
use Rattle.std.specs.Int.Signed.{shr_z}
use Rattle.algebra.specs.Gauss.{𝔾, gi}

-- each part by floor
unfoldable pub floorᵍ : 𝔾 → ℕ → 𝔾
floorᵍ z m = gi (shr_z z.re m) (shr_z z.im m)

-- floor(z/m + 1/2)
unfoldable pub nearest : ℤ → ℕ → ℤ
nearest z m = shr_z (pos 2 *ℤ z +ℤ pos m) (2 * m)

-- rounded up
unfoldable pub ceiling : ℤ → ℕ → ℤ
ceiling z m = neg_ℤ (shr_z (neg_ℤ z) m)
