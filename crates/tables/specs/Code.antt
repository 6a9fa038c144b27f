-- What private contracts cite, and no public one.
use Rattle.std.specs.Prelude.{◌≡◌, ℕ, zero, suc, ◌/◌, ◌^◌, ◌<◌, T, ℤ, pos, negsuc, nat_abs, ◌+ℤ◌, ◌-ℤ◌, ◌*ℤ◌}
use Rattle.std.specs.Int.Signed.{non_neg, shr_z}
use Rattle.std.specs.Int.{w32, w64}
use Rattle.std.proofs.Common.{Fits, SFits, to_z}
use Rattle.algebra.specs.Gauss.{𝔾, gi}
use Rattle.table_numbers.specs.Cell.{numbered}

-- the one of three that a sign names
abbrev pub by_sign : ℤ → ℤ → ℤ → ℤ → ℤ
by_sign (negsuc n) minus nought plus = minus
by_sign (pos zero) minus nought plus = nought
by_sign (pos (suc n)) minus nought plus = plus

-- a cell's number is below 256, and nothing on the way to it overflows
pub record CellFits (column row : ℤ) : Type 0 where
  pub left : SFits w64 (column -ℤ pos 8)
  pub columns : SFits w64 ((column -ℤ pos 8) *ℤ pos 32)
  pub up : SFits w64 (row +ℤ pos 16)
  pub whole : SFits w64 (numbered column row)
  pub sign : T (non_neg (numbered column row))
  pub below : nat_abs (numbered column row) < 256

-- the reciprocal of a cell's centre as it is worked out: 2^27/S, cut, times X and −Y, each to the nearest
abbrev pub norm : ℤ → ℤ → ℤ
norm x y = x *ℤ x +ℤ y *ℤ y

abbrev pub one_over : ℤ → ℤ → ℕ
one_over x y = 134217728 / nat_abs (norm x y)

abbrev pub inverse : ℤ → ℤ → 𝔾
inverse x y = gi (shr_z (pos (one_over x y) *ℤ x +ℤ pos 32768) (2 ^ 16)) (shr_z (pos 32768 -ℤ pos (one_over x y) *ℤ y) (2 ^ 16))

-- nothing on the way to it overflows
pub record InverseFits (x y : ℤ) : Type 0 where
  pub xx : SFits w64 (x *ℤ x)
  pub yy : SFits w64 (y *ℤ y)
  pub s : SFits w64 (norm x y)
  pub divisor : T (non_neg (norm x y)) × Fits w32 (nat_abs (norm x y))
  pub some : 0 < nat_abs (norm x y)
  pub small : one_over x y < 2 ^ 63
  pub word : to_z w64 (one_over x y) ≡ pos (one_over x y)
  pub by_x : SFits w64 (pos (one_over x y) *ℤ x)
  pub by_y : SFits w64 (pos (one_over x y) *ℤ y)
  pub above : SFits w64 (pos (one_over x y) *ℤ x +ℤ pos 32768)
  pub below : SFits w64 (pos 32768 -ℤ pos (one_over x y) *ℤ y)
