-- Rounding: a shift right is the floor of the quotient (towards minus infinity, for negative numbers too); floor(quotient + 1/2); a
-- quotient rounded up.
use mathlib.Core.Path.{◌≡◌, ap}
use mathlib.Core.List.{[], ◌∷◌}
use Prim.Native.Nat.{ℕ, ◌+◌, ◌*◌, ◌/◌, ◌≤◌, ◌<◌}
use native.Mathlib.Nat.{div-add-mod, div-one, mod-lt}
use native.Mathlib.Omega.{arith}
use lib.IntN.{ℤ, pos, negsuc, neg_ℤ, ◌+ℤ◌, ◌*ℤ◌}
use lib.Signed.{shr_z}
use Rattle.algebra.specs.Order.{◌⩽◌}
use Rattle.algebra.specs.Rounding.{nearest, ceiling}
use Rattle.algebra.proofs.Reify.{reify}
use Rattle.algebra.proofs.Order.{pos_mono, ⩽_antisym}
use Rattle.algebra.proofs.Linear.{lin, ◌&◌, ◌&ℕ◌, none}
use Rattle.algebra.proofs.Inequality.{below_next}

-- ---- m · floor(z/m) ≤ z < m · floor(z/m) + m
module _ (m : ℕ) (h : 0 < m) where
  pub lo : (a : ℕ) → m * (a / m) ≤ a
  lo a = omega (arith, div-add-mod a m)

  pub hi : (a : ℕ) → a + 1 ≤ m * (a / m) + m
  hi a = omega (arith, div-add-mod a m, mod-lt a h)

  pub floor_lo : (z : ℤ) → pos m *ℤ shr_z z m ⩽ z
  floor_lo (pos a) = pos_mono (lo a)
  floor_lo (negsuc a) = lin (pos a ∷ pos (a / m) ∷ pos m ∷ []) (hi a &ℕ none) (search reify depth 20) tt

  pub floor_hi : (z : ℤ) → z +ℤ pos 1 ⩽ pos m *ℤ shr_z z m +ℤ pos m
  floor_hi (pos a) = pos_mono (hi a)
  floor_hi (negsuc a) = lin (pos a ∷ pos (a / m) ∷ pos m ∷ []) (lo a &ℕ none) (search reify depth 20) tt

  -- the only number with that
  pub floor_unique : (z q : ℤ) → pos m *ℤ q ⩽ z → z +ℤ pos 1 ⩽ pos m *ℤ q +ℤ pos m → shr_z z m ≡ q
  floor_unique z q k l = ⩽_antisym
      (below_next (pos m) (pos_mono h) (lin (pos m ∷ shr_z z m ∷ z ∷ q ∷ []) (floor_lo z & l & none) (search reify depth 20) tt))
      (below_next (pos m) (pos_mono h) (lin (pos m ∷ shr_z z m ∷ z ∷ q ∷ []) (floor_hi z & k & none) (search reify depth 20) tt))

pub floor_one : (z : ℤ) → shr_z z 1 ≡ z
floor_one (pos a) = ap pos (div-one a)
floor_one (negsuc a) = ap negsuc (div-one a)

-- ---- the nearest whole number to z/m, the upper one of two: floor(z/m + 1/2)
-- it is off by at most a half: −m ≤ 2 (z − m · nearest) < m
module _ (m : ℕ) (h : 0 < m) where
  pub nearest_lo : (z : ℤ) → pos 2 *ℤ (pos m *ℤ nearest z m) ⩽ pos 2 *ℤ z +ℤ pos m
  unfolding nearest
  nearest_lo z = lin (pos m ∷ z ∷ nearest z m ∷ []) (floor_lo (2 * m) (omega arith) (pos 2 *ℤ z +ℤ pos m) & none) (search reify depth 20) tt

  pub nearest_hi : (z : ℤ) → pos 2 *ℤ z +ℤ pos 1 ⩽ pos 2 *ℤ (pos m *ℤ nearest z m) +ℤ pos m
  unfolding nearest
  nearest_hi z = lin (pos m ∷ z ∷ nearest z m ∷ []) (floor_hi (2 * m) (omega arith) (pos 2 *ℤ z +ℤ pos m) & none) (search reify depth 20) tt

-- ---- z/m rounded up: the least whole number that is not below it
module _ (m : ℕ) (h : 0 < m) where
  pub ceiling_enough : (z : ℤ) → z ⩽ ceiling z m *ℤ pos m
  unfolding ceiling
  ceiling_enough z = lin (z ∷ pos m ∷ shr_z (neg_ℤ z) m ∷ []) (floor_lo m h (neg_ℤ z) & none) (search reify depth 20) tt

  pub ceiling_least : (z c : ℤ) → z ⩽ c *ℤ pos m → ceiling z m ⩽ c
  unfolding ceiling
  ceiling_least z c k = below_next (pos m) (pos_mono h)
      (lin (z ∷ c ∷ pos m ∷ shr_z (neg_ℤ z) m ∷ []) (floor_hi m h (neg_ℤ z) & k & none) (search reify depth 20) tt)
