-- Sizes and lengths. "Size" of a part is its absolute value (01, Points and units); lengths are compared by their squares.
use Rattle.std.specs.Prelude.{cond, ℤ, pos, neg_ℤ, nat_abs, ◌*ℤ◌}
use Rattle.std.specs.Int.Signed.{le_z}
use Rattle.algebra.specs.Order.{◌⩽◌}
use Rattle.algebra.specs.Gauss.{𝔾, N}

unfoldable pub abs : ℤ → ℤ
abs x = pos (nat_abs x)

-- at most b in size
pub record Size (x b : ℤ) : Type 0 where
  pub lo : neg_ℤ b ⩽ x
  pub hi : x ⩽ b

-- each part at most b in size
pub record Parts (z : 𝔾) (b : ℤ) : Type 0 where
  pub re : Size z.re b
  pub im : Size z.im b

-- the larger part in size: M in the columns of 01
unfoldable pub larger : 𝔾 → ℤ
larger z = cond (le_z (abs z.re) (abs z.im)) (abs z.im) (abs z.re)

-- at most r long
pub record Within (z : 𝔾) (r : ℤ) : Type 0 where
  pub sign : pos 0 ⩽ r
  pub size : N z ⩽ r *ℤ r
