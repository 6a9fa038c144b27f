-- Reciprocals ("seats", 01, LOG; 02, E6): for the cell of side 1/16 with centre (X + iY)/32 the number (a + ib)/64 near 32/(X + iY).
use Rattle.std.specs.Prelude.{ℤ, pos, negsuc, neg_ℤ, ◌+ℤ◌, ◌*ℤ◌, nat_abs}
use Rattle.algebra.specs.Gauss.{𝔾, gi}
use Rattle.algebra.specs.Order.{◌⩽◌}
use Rattle.algebra.specs.Rounding.{nearest}

-- a is 2048·X/S and b is −2048·Y/S, S = X² + Y², each as floor(value + 1/2)
unfoldable pub reciprocal : ℤ → ℤ → 𝔾
reciprocal X Y = let S = nat_abs (X *ℤ X +ℤ Y *ℤ Y) in gi (nearest (pos 2048 *ℤ X) S) (nearest (neg_ℤ (pos 2048 *ℤ Y)) S)

-- X and Y of the cells in a column or a row, numbered from the one that starts at nought
abbrev pub centre : ℤ → ℤ
centre i = pos 2 *ℤ i +ℤ pos 1

-- the 256 cells: X odd from 17 to 31, Y odd from −31 to 31
pub record InTable (column row : ℤ) : Type 0 where
  pub left : pos 8 ⩽ column
  pub right : column +ℤ pos 1 ⩽ pos 16
  pub low : negsuc 15 ⩽ row
  pub high : row +ℤ pos 1 ⩽ pos 16
