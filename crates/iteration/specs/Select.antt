-- The digit of a step in each mode, each part by two thresholds (01, EXP and LOG). One is 2^F units; 01 has F = 48.
use Rattle.std.specs.Prelude.{cond, ℕ, suc, ◌-◌, ℤ, pos, negsuc, neg_ℤ, ◌-ℤ◌, ◌*ℤ◌}
use Rattle.std.specs.Int.Signed.{lt_z, le_z}
use Rattle.algebra.specs.Gauss.{𝔾, gi, two}

-- what the digits are read off: EXP is the E-mode of 000, LOG the L-mode
pub data Mode : Type 0 where
  Exp : Mode
  Log : Mode

-- ---- EXP, from the exponent e that is left: "dx = −1 if ex < −2^(47−n); 1 if ex ≥ 3·2^(45−n); else 0. dy = −1 if ey < −3·2^(46−n); 1 if
-- ey ≥ 13·2^(44−n); else 0"
abbrev pub low_x : ℕ → ℕ → ℤ
low_x F n = neg_ℤ (two (F - 1 - n))

abbrev pub high_x : ℕ → ℕ → ℤ
high_x F n = pos 3 *ℤ two (F - 3 - n)

abbrev pub low_y : ℕ → ℕ → ℤ
low_y F n = neg_ℤ (pos 3 *ℤ two (F - 2 - n))

abbrev pub high_y : ℕ → ℕ → ℤ
high_y F n = pos 13 *ℤ two (F - 4 - n)

-- −1 below lo, 1 from hi on, else 0
abbrev pub cut : ℤ → ℤ → ℤ → ℤ
cut lo hi x = cond (lt_z x lo) (negsuc 0) (cond (lt_z x hi) (pos 0) (pos 1))

unfoldable pub exp_select : ℕ → ℕ → 𝔾 → 𝔾
exp_select F n e = gi (cut (low_x F n) (high_x F n) e.re) (cut (low_y F n) (high_y F n) e.im)

-- ---- LOG, from the point v: "let u be the point less one. dx = 1 if ux ≤ −2^(47−n), −1 if ux ≥ 2^(47−n), else 0; dy likewise from uy"
-- half of 1/2^n in units
abbrev pub half : ℕ → ℕ → ℤ
half F n = two (F - suc n)

-- 1 from −t down, −1 from t up, else 0
unfoldable pub cut_back : ℤ → ℤ → ℤ
cut_back t u = cond (le_z u (neg_ℤ t)) (pos 1) (cond (le_z t u) (negsuc 0) (pos 0))

unfoldable pub log_select : ℕ → ℕ → 𝔾 → 𝔾
log_select F n v = gi (cut_back (half F n) (v.re -ℤ two F)) (cut_back (half F n) v.im)
