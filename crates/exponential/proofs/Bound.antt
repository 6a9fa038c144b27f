-- THE LAW of the error bound: it is the least whole number that is not below 8M/2^N + rounding-share·N.
use mathlib.Core.List.{List, [], ◌∷◌}
use Prim.Native.Nat.{ℕ, ◌^◌}
use lib.IntN.{ℤ, pos, neg_ℤ, ◌+ℤ◌, ◌-ℤ◌, ◌*ℤ◌}
use lib.Signed.{shr_z}
use Rattle.algebra.specs.Gauss.{𝔾, two}
use Rattle.algebra.specs.Order.{◌⩽◌, ◌⋖◌}
use Rattle.algebra.specs.Rounding.{ceiling}
use Rattle.algebra.specs.Size.{larger}
use Rattle.algebra.proofs.Reify.{reify}
use Rattle.algebra.proofs.Linear.{lin, lin<, ◌&◌, none}
use Rattle.algebra.proofs.Power.{two_pos}
use Rattle.algebra.proofs.Floor.{floor_lo, floor_hi}
use Rattle.exponential.specs.Answer.{rounding_share, error_bound_of}

module _ (n : ℕ) (s : 𝔾) where
  abbrev ρ : List ℤ
  ρ = two n ∷ pos n ∷ larger s ∷ shr_z (neg_ℤ (pos 8 *ℤ larger s)) (2 ^ n) ∷ []

  pub bound_enough : pos 8 *ℤ larger s +ℤ rounding_share *ℤ pos n *ℤ two n ⩽ error_bound_of n s *ℤ two n
  unfolding error_bound_of ceiling
  bound_enough = lin ρ (floor_lo (2 ^ n) (two_pos n) (neg_ℤ (pos 8 *ℤ larger s)) & none) (search reify depth 20) tt

  pub bound_least : (error_bound_of n s -ℤ pos 1) *ℤ two n ⋖ pos 8 *ℤ larger s +ℤ rounding_share *ℤ pos n *ℤ two n
  unfolding error_bound_of ceiling
  bound_least = lin< ρ (floor_hi (2 ^ n) (two_pos n) (neg_ℤ (pos 8 *ℤ larger s)) & none) (search reify depth 20) tt
