-- The exact exponential to T terms (01, What demand 3 compares): "For two parts (zx, zy) in units, z is (zx + i·zy)/2^48. Its exact
-- exponential to T terms is the sum of z^j/j! for j from 0 to T − 1, in exact fractions, the term for j = 0 being one. Such a fraction is
-- a pair of whole numbers over one positive whole divisor."
-- Here one is U units, and the fraction is S T z / D T.
use Rattle.std.specs.Prelude.{ℕ, zero, suc, ◌*◌, ℤ, pos}
use Rattle.algebra.specs.Gauss.{𝔾, ιᵍ, ◌+ᵍ◌, ◌*ᵍ◌, ◌^ᵍ◌}

-- the divisor, U^T · T!
unfoldable pub D : ℕ → ℕ → ℕ
D U zero = 1
D U (suc T) = U * suc T * D U T

-- one more term, z^T / (U^T · T!), over one more factor of the divisor
unfoldable pub Sᵍ : ℕ → ℕ → 𝔾 → 𝔾
Sᵍ U zero z = ιᵍ (pos 0)
Sᵍ U (suc T) z = ιᵍ (pos (U * suc T)) *ᵍ (Sᵍ U T z +ᵍ z ^ᵍ T)

-- the divisor as a number of ℤ and of 𝔾
abbrev pub Dᶻ : ℕ → ℕ → ℤ
Dᶻ U T = pos (D U T)

abbrev pub Dᵍ : ℕ → ℕ → 𝔾
Dᵍ U T = ιᵍ (Dᶻ U T)
