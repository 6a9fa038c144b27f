-- The limits of 01 on inputs, as tests, all ends included. The width is F: one is 2^F units, and 01 has F = 48.
use Rattle.std.specs.Prelude.{Bool, ◌&&◌, ℕ, ◌+◌, ◌-◌, ℤ, pos, neg_ℤ}
use Rattle.algebra.specs.Gauss.{𝔾, two}
use Rattle.word.specs.Compare.{between}

-- ---- the count of steps: "N is 1 to 40" for EXP, "N from 3 to 40" for LOG
unfoldable pub in_steps : ℕ → ℕ → ℤ → Bool
in_steps F least n = between (pos least) (pos (F - 8)) n

-- ---- a box: the real part from left to right, the imaginary part from bottom to top
unfoldable pub in_box : ℤ → ℤ → ℤ → ℤ → 𝔾 → Bool
in_box left right bottom top z = between left right z.re && between bottom top z.im

-- ---- "each part at most 2^58 in size"
unfoldable pub in_parts : ℕ → 𝔾 → Bool
in_parts F z = in_box (neg_ℤ (two (F + 10))) (two (F + 10)) (neg_ℤ (two (F + 10))) (two (F + 10)) z
