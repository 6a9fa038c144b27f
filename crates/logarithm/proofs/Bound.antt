-- THE LAW of the error bound: it is the least whole number that is not below 3M/2^N.
use Prim.Native.Nat.{ℕ, ◌^◌}
use lib.IntN.{ℤ, pos, ◌*ℤ◌}
use Rattle.algebra.specs.Gauss.{𝔾, two}
use Rattle.algebra.specs.Order.{◌⩽◌}
use Rattle.algebra.specs.Size.{larger}
use Rattle.algebra.proofs.Power.{two_pos}
use Rattle.algebra.proofs.Floor.{ceiling_enough, ceiling_least}
use Rattle.logarithm.specs.Answer.{error_bound_of}

module _ (n : ℕ) (p : 𝔾) where
  pub bound_enough : pos 3 *ℤ larger p ⩽ error_bound_of n p *ℤ two n
  unfolding error_bound_of
  bound_enough = ceiling_enough (2 ^ n) (two_pos n) (pos 3 *ℤ larger p)

  pub bound_least : (b : ℤ) → pos 3 *ℤ larger p ⩽ b *ℤ two n → error_bound_of n p ⩽ b
  unfolding error_bound_of
  bound_least b h = ceiling_least (2 ^ n) (two_pos n) (pos 3 *ℤ larger p) b h
