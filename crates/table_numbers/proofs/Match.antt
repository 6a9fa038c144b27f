-- What the last arm of a `match` on a number knows: the number is none of those before it.
use mathlib.Core.Path.{◌≡◌}
use Prim.Native.Nat.{ℕ, zero, suc, ◌+◌, ◌≤◌}
use native.Mathlib.Omega.{arith}

-- k is none of the m numbers from f on
abbrev pub Rests : ℕ → ℕ → ℕ → Type 0
Rests f k zero = Unit {0}
Rests f k (suc m) = Rests f k m × (k ≡ f + m → ⊥)

pub past : (f k m : ℕ) → f ≤ k → Rests f k m → f + m ≤ k
past f k zero h r = omega arith
past f k (suc m) h r = next (past f k m h r.0) r.1
  where
    next : f + m ≤ k → (k ≡ f + m → ⊥) → f + suc m ≤ k
    next g n = omega arith
