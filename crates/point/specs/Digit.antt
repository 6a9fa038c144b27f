-- Digits: d = dx + i·dy, each part −1, 0 or 1 (01, The step).
use Rattle.std.specs.Prelude.{ℤ, pos, negsuc}
use Rattle.algebra.specs.Gauss.{𝔾}

pub data Trit : ℤ → Type 0 where
  t- : Trit (negsuc 0)
  t0 : Trit (pos 0)
  t+ : Trit (pos 1)

pub record IsDigit (d : 𝔾) : Type 0 where
  pub x : Trit d.re
  pub y : Trit d.im
