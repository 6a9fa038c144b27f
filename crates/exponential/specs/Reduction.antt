-- EXP's reduction (02, E5): exponents outside the rectangle of 01, with both parts at most 8 in size. One is 2^F units; 01 has F = 48.
use Rattle.std.specs.Prelude.{Bool, cond, List, [], ◌∷◌, ℕ, ◌+◌, ◌-◌, ℤ, pos, negsuc, neg_ℤ, nat_abs, ◌-ℤ◌, ◌*ℤ◌, get_or}
use Rattle.std.specs.Int.Signed.{shr_z}
use Rattle.algebra.specs.Gauss.{𝔾, gi, ◌*ᵍ◌, two}
use Rattle.algebra.specs.Rounding.{nearest}
use Rattle.point.specs.Point.{point, nought}
use Rattle.point.specs.Limits.{in_box}
use Rattle.table_numbers.specs.Promise.{Constants}
use Rattle.exponential.specs.declared.reduction.Reduced.{Reduced}

-- ---- where it is used, all ends included
-- the rectangle of 01: "ex lies from −53/64 to 55/64, that is −233096465088512 to 241892558110720 units; ey is at most 47/64 in size,
-- 206708186021888 units"
unfoldable pub in_rectangle : ℕ → 𝔾 → Bool
in_rectangle F e = in_box (neg_ℤ (pos 53 *ℤ two (F - 6))) (pos 55 *ℤ two (F - 6)) (neg_ℤ (pos 47 *ℤ two (F - 6))) (pos 47 *ℤ two (F - 6)) e

-- "both parts at most 8 in size (2^51 units)"
unfoldable pub in_reach : ℕ → 𝔾 → Bool
in_reach F e = in_box (neg_ℤ (two (F + 3))) (two (F + 3)) (neg_ℤ (two (F + 3))) (two (F + 3)) e

-- ---- the factor of the start
-- p modulo m, from 0 to m − 1
abbrev pub modulo : ℤ → ℕ → ℤ
modulo p m = p -ℤ pos m *ℤ shr_z p m

-- "1, 1+i, i, −1+i, −1, −1−i, −i or 1−i by p modulo 8"
abbrev pub eight : List 𝔾
eight =
    gi (pos 1) (pos 0) ∷ gi (pos 1) (pos 1) ∷ gi (pos 0) (pos 1) ∷ gi (negsuc 0) (pos 1) ∷ gi (negsuc 0) (pos 0) ∷ gi (negsuc 0) (negsuc 0)
    ∷ gi (pos 0) (negsuc 0) ∷ gi (pos 1) (negsuc 0) ∷ []

unfoldable pub factor : ℤ → 𝔾
factor p = get_or eight (nat_abs (modulo p 8)) nought

-- ---- the exponent, Q, H and R being quarter-pi, ln-2 and half-ln-2 of the constants c
module _ (c : Constants) (e : 𝔾) where
  -- p: "p is floor(ey/Q + 1/2)"
  unfoldable pub eighths : ℤ
  eighths = nearest e.im c.quarter_pi

  -- "for odd p, ex loses the units nearest ½·ln 2"
  unfoldable pub turned_re : ℤ
  turned_re = e.re -ℤ modulo eighths 2 *ℤ pos c.half_ln_2

  -- k: "then k is floor(ex/H + 1/2)"
  unfoldable pub doublings : ℤ
  doublings = nearest turned_re c.ln_2

  -- "ey loses p·Q", "ex loses k·H"
  unfoldable pub left_over : 𝔾
  left_over = gi (turned_re -ℤ doublings *ℤ pos c.ln_2) (e.im -ℤ eighths *ℤ pos c.quarter_pi)

-- ---- what the steps are given, and k
-- outside the rectangle
abbrev pub reduced : Constants → 𝔾 → 𝔾 → Reduced
reduced c e s = record {
  exponent = point (left_over c e);
  start = point (s *ᵍ factor (eighths c e));
  binary_exponent = doublings c e;
}

-- "Inside the old rectangle each answer remains the same", and k is "0 within the rectangle"
abbrev pub unreduced : 𝔾 → 𝔾 → Reduced
unreduced e s = record { exponent = point e; start = point s; binary_exponent = pos 0 }

unfoldable pub reduction : ℕ → Constants → 𝔾 → 𝔾 → Reduced
reduction F c e s = cond (in_rectangle F e) (unreduced e s) (reduced c e s)
