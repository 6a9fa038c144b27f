-- The shift-and-add step (01, The step): "turns (x, y) into x + floor((dx·x − dy·y)/2^n), y + floor((dx·y + dy·x)/2^n), both from the old
-- pair"; 02, E1: "Each of the two quotients in a step becomes floor(quotient + 1/2)".
use Rattle.std.specs.Prelude.{ℕ, ◌^◌, ℤ, ◌+ℤ◌, ◌-ℤ◌, ◌*ℤ◌}
use Rattle.algebra.specs.Gauss.{𝔾, gi}
use Rattle.algebra.specs.Rounding.{nearest}

-- v/2^n, rounded as a step rounds
unfoldable pub quotient : ℤ → ℕ → ℤ
quotient v n = nearest v (2 ^ n)

unfoldable pub step : ℕ → 𝔾 → 𝔾 → 𝔾
step n d z = gi
    (z.re +ℤ quotient (d.re *ℤ z.re -ℤ d.im *ℤ z.im) n)
    (z.im +ℤ quotient (d.re *ℤ z.im +ℤ d.im *ℤ z.re) n)
