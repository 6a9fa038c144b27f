-- Binomial coefficients, by Pascal's rule.
use Prim.Native.Nat.{ℕ, zero, suc, ◌+◌}

-- the number of ways to choose j of m
unfoldable pub choose : ℕ → ℕ → ℕ
choose m zero = 1
choose zero (suc j) = 0
choose (suc m) (suc j) = choose m j + choose m (suc j)
