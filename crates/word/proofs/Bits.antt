-- What a cast makes of a signed number that is not negative, and the way to the least number.
use mathlib.Core.Path.{◌≡◌, refl}
use mathlib.Core.Bool.{false}
use Prim.Native.Nat.{ℕ, zero, suc}
use native.Mathlib.Omega.{arith}
use lib.Dec.{T}
use lib.IntN.{ℤ, pos, negsuc, neg_ℤ, nat_abs, -ℤ_one, ◌-ℤ◌}
use lib.Signed.{non_neg, mag, lt_z}
use mir.Syntax.{w64}
use mir.Val.{Fits, SFits, of_z}
use Rattle.word.proofs.Compare.{fails}

-- of a z that is not negative: the number itself, its magnitude, and the cast is defined
pub record Nonnegative (z : ℤ) : Type 0 where
  pub sign : T (non_neg z)
  pub fits : Fits w64 (nat_abs z)
  pub bits : nat_abs z ≡ of_z w64 z
  pub whole : z ≡ pos (nat_abs z)
  pub same : nat_abs z ≡ mag z

pub nonnegative : {z : ℤ} → SFits w64 z → lt_z z (pos 0) ≡ false → Nonnegative z
nonnegative {z = pos n} f e = record { sign = tt; fits = record { fits = omega (arith, f.sfits) }; bits = refl; whole = refl; same = refl }
nonnegative {z = negsuc n} f e = absurd (fails e)

-- −n − 1, the way to the least number
pub minus_one : (n : ℕ) → neg_ℤ (pos n) -ℤ pos 1 ≡ negsuc n
minus_one zero = -ℤ_one (neg_ℤ (pos zero))
minus_one (suc n) = -ℤ_one (neg_ℤ (pos (suc n)))
