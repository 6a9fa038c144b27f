-- What the nearest whole number to z/m is worked out by: a shift after half of m is added, and where a multiple of m is added.
use mathlib.Core.Path.{◌≡◌}
use mathlib.Core.List.{List, [], ◌∷◌}
use Prim.Native.Nat.{ℕ, ◌*◌, ◌/◌, ◌<◌}
use native.Mathlib.Omega.{arith}
use lib.IntN.{ℤ, pos, ◌+ℤ◌, ◌*ℤ◌}
use lib.Signed.{shr_z}
use Rattle.algebra.specs.Rounding.{nearest}
use Rattle.algebra.proofs.Reify.{reify}
use Rattle.algebra.proofs.Linear.{lin, ◌&◌, ◌&ℕ◌, none}
use Rattle.algebra.proofs.Inequality.{below_next}
use Rattle.algebra.proofs.Floor.{lo, hi, floor_unique, nearest_lo, nearest_hi}

module _ (m : ℕ) (h : 0 < m) where
  -- the floor after half of m is added; m = 1 has no half
  pub nearest_half : (z : ℤ) → shr_z (z +ℤ pos (m / 2)) m ≡ nearest z m
  nearest_half z = floor_unique m h (z +ℤ pos (m / 2)) (nearest z m)
      (below_next (pos 2) (record { le = tt }) (lin ρ (nearest_lo m h z & hi 2 (omega arith) m &ℕ none) (search reify depth 20) tt))
      (below_next (pos 2) (record { le = tt }) (lin ρ (nearest_hi m h z & lo 2 (omega arith) m &ℕ none) (search reify depth 20) tt))
    where
      ρ : List ℤ
      ρ = pos m ∷ pos (m / 2) ∷ z ∷ nearest z m ∷ []

  -- c more where c · m is added
  pub nearest_shifted : (z c : ℤ) → shr_z (pos 2 *ℤ z +ℤ pos m +ℤ pos 2 *ℤ pos m *ℤ c) (2 * m) ≡ nearest z m +ℤ c
  nearest_shifted z c = floor_unique (2 * m) (omega arith) (pos 2 *ℤ z +ℤ pos m +ℤ pos 2 *ℤ pos m *ℤ c) (nearest z m +ℤ c)
      (lin (z ∷ c ∷ pos m ∷ nearest z m ∷ []) (nearest_lo m h z & none) (search reify depth 20) tt)
      (lin (z ∷ c ∷ pos m ∷ nearest z m ∷ []) (nearest_hi m h z & none) (search reify depth 20) tt)
