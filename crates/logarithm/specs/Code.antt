-- Only the contracts of private functions cite this: what the parts of LOG ask and make.
use Rattle.std.specs.Prelude.{◌≡◌, true, false, ℕ, ◌+◌, ◌^◌, ◌≤◌, ℤ, pos, neg_ℤ, ◌*ℤ◌}
use Rattle.algebra.specs.Gauss.{𝔾, two}
use Rattle.algebra.specs.Order.{◌⩽◌, ◌⋖◌}
use Rattle.algebra.specs.Rounding.{ceiling}
use Rattle.algebra.specs.Size.{Size, Parts}
use Rattle.point.specs.declared.Point.{Point}
use Rattle.point.specs.Point.{gauss, point}
use Rattle.point.specs.Limits.{in_steps, in_parts}
use Rattle.answer.specs.declared.Figures.{Figures}
use Rattle.table_numbers.specs.declared.Entry.{Entry}
use Rattle.table_numbers.specs.Rows.{number}
use Rattle.table_numbers.specs.Table.{step_table, reciprocal_table}
use Rattle.logarithm.specs.declared.reduction.Turn.{Turn}
use Rattle.logarithm.specs.Reduction.{turned, quadrant, bit_length}
use Rattle.logarithm.specs.Answer.{is_zero, figures}

-- ---- the reduction
abbrev pub turn_of : Point → Turn
turn_of p = record { point = point (turned (gauss p)); quadrant = quadrant (gauss p) }

-- −wx < wy ≤ wx
pub record Cone (w : 𝔾) : Type 0 where
  pub lo : neg_ℤ w.re ⋖ w.im
  pub hi : w.im ⩽ w.re

-- w is turned, and b is the length of its real part
pub record ScalePre (F : ℕ) (w : Point) (b : ℕ) : Type 0 where
  pub cone : Cone (gauss w)
  pub small : w.x ⩽ two (F + 10)
  pub bits_are : b ≡ bit_length (gauss w)

pub record ReducePre (F : ℕ) (p : Point) (c : Entry) : Type 0 where
  pub point : Parts (gauss p) (two F)
  pub factor : Parts (number c) (pos 124)

-- ---- the error bound
pub record BoundPre (F n : ℕ) (m : ℤ) : Type 0 where
  pub most : n + 8 ≤ F
  pub size : Size m (two (F + 10))

abbrev pub bound_at : ℕ → ℤ → ℤ
bound_at n m = ceiling (pos 3 *ℤ m) (2 ^ n)

-- ---- the whole
-- an input that meets no refusal
pub record Accepted (F : ℕ) (n : ℤ) (p : 𝔾) : Type 0 where
  pub steps : in_steps F 3 n ≡ true
  pub parts : in_parts F p ≡ true
  pub nonzero : is_zero p ≡ false

abbrev pub figures_of : ℕ → Point → Figures
figures_of n p = figures 48 step_table reciprocal_table n (gauss p)
