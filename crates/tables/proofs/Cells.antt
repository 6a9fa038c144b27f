-- A cell as code finds it: noughts outside; inside, its place among the cells, and nothing on the way to its number overflows.
use mathlib.Core.Path.{◌≡◌}
use mathlib.Core.Bool.{true, false}
use mathlib.Core.List.{List, [], ◌∷◌}
use Prim.Native.Nat.{◌<◌}
use native.Mathlib.Omega.{arith}
use lib.Dec.{T}
use lib.IntN.{ℤ, pos, negsuc, nat_abs, ◌+ℤ◌, ◌-ℤ◌, ◌*ℤ◌}
use lib.Signed.{non_neg}
use mir.Syntax.{w64}
use mir.Val.{SFits}
use Rattle.algebra.specs.Order.{◌⩽◌}
use Rattle.algebra.proofs.Reify.{reify}
use Rattle.algebra.proofs.Order.{pos_inj_le}
use Rattle.algebra.proofs.Linear.{lin, ◌&◌, none}
use Rattle.point.proofs.InLimits.{box_says}
use Rattle.table_numbers.specs.Reciprocal.{reciprocal, centre, InTable}
use Rattle.table_numbers.specs.Cell.{numbered, is_cell, cell_of}
use Rattle.table_numbers.specs.Numbers48.{reciprocal_logs}
use Rattle.table_numbers.specs.Rows.{entry, none as nothing, reciprocal_at, reciprocal_log_at}
use Rattle.tables.specs.Code.{CellFits}

record Small (z : ℤ) : Type 0 where
  fits : SFits w64 z
  sign : T (non_neg z)
  below : nat_abs z < 256

small : (z : ℤ) → pos 0 ⩽ z → z ⩽ pos 255 → Small z
small (pos n) lo hi = record { fits = record { sfits = omega (arith, pos_inj_le hi) }; sign = tt; below = omega (arith, pos_inj_le hi) }
small (negsuc n) lo hi = absurd lo.le

module _ (column row : ℤ) where
  -- ---- outside
  pub no_log : is_cell column row ≡ false → nothing ≡ reciprocal_log_at (cell_of column row)
  unfolding cell_of reciprocal_logs
  no_log h = rw h

  pub no_reciprocal : is_cell column row ≡ false → nothing ≡ reciprocal_at column row
  unfolding reciprocal_at
  no_reciprocal h = rw h

  -- ---- inside
  module _ (h : is_cell column row ≡ true) where
    pub in_table : InTable column row
    unfolding is_cell
    in_table = record {
      left = (box_says h).re_lo;
      right = lin (column ∷ []) ((box_says h).re_hi & none) (search reify depth 20) tt;
      low = (box_says h).im_lo;
      high = lin (row ∷ []) ((box_says h).im_hi & none) (search reify depth 20) tt;
    }

    pub cell_number : nat_abs (numbered column row) ≡ cell_of column row
    unfolding cell_of
    cell_number = rw h

    pub cell_reciprocal_lem : entry (reciprocal (centre column) (centre row)) ≡ reciprocal_at column row
    unfolding reciprocal_at
    cell_reciprocal_lem = rw h

  module _ (i : InTable column row) where
    abbrev ρ : List ℤ
    ρ = column ∷ row ∷ []

    number : Small (numbered column row)
    number = small (numbered column row) (lin ρ (i.left & i.low & none) (search reify depth 20) tt)
        (lin ρ (i.right & i.high & none) (search reify depth 20) tt)

    pub cell_fits : CellFits column row
    cell_fits = record {
      left = (small (column -ℤ pos 8) (lin ρ (i.left & none) (search reify depth 20) tt) (lin ρ (i.right & none) (search reify depth 20) tt)
          ).fits;
      columns = (small ((column -ℤ pos 8) *ℤ pos 32) (lin ρ (i.left & none) (search reify depth 20) tt)
          (lin ρ (i.right & none) (search reify depth 20) tt)).fits;
      up = (small (row +ℤ pos 16) (lin ρ (i.low & none) (search reify depth 20) tt) (lin ρ (i.high & none) (search reify depth 20) tt)).fits;
      whole = number.fits;
      sign = number.sign;
      below = number.below;
    }
