-- What the steps leave over is small (02, E7): "every remainder part is below 1/2^N in size".
use Rattle.std.specs.Prelude.{ℕ, ℤ, nat_abs, ◌*ℤ◌, IfOk}
use Rattle.algebra.specs.Gauss.{two}
use Rattle.algebra.specs.Order.{◌⋖◌}
use Rattle.algebra.specs.Size.{abs}
use Rattle.point.specs.declared.Point.{Point}
use Rattle.answer.specs.Answer.{Answer}

-- one is 2^F units, and both sides are multiplied by 2^n
pub record PartsBelow (F n : ℕ) (z : Point) : Type 0 where
  pub x : abs z.x *ℤ two n ⋖ two F
  pub y : abs z.y *ℤ two n ⋖ two F

-- of an answer by n steps, where there is one
abbrev pub RemainderBelow : ℕ → ℤ → Answer → Type 0
RemainderBelow F n a = IfOk a (λ f. PartsBelow F (nat_abs n) f.remainder)
