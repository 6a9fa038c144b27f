-- The code's points and digits as complex whole numbers, and back; the points nought, one and i.
use Rattle.std.specs.Prelude.{ℕ, pos}
use Rattle.algebra.specs.Gauss.{𝔾, gi, two}
use Rattle.point.specs.declared.Point.{Point}
use Rattle.point.specs.declared.Digit.{Digit}

abbrev pub gauss : Point → 𝔾
gauss p = gi p.x p.y

abbrev pub point : 𝔾 → Point
point z = record { x = z.re; y = z.im }

abbrev pub gaussᵈ : Digit → 𝔾
gaussᵈ d = gi d.dx d.dy

abbrev pub digit : 𝔾 → Digit
digit z = record { dx = z.re; dy = z.im }

-- ---- "The points nought, one and i belong to the point itself", in units: one is 2^F of them, and 01 has F = 48
abbrev pub nought : 𝔾
nought = gi (pos 0) (pos 0)

abbrev pub one : ℕ → 𝔾
one F = gi (two F) (pos 0)

abbrev pub i : ℕ → 𝔾
i F = gi (pos 0) (two F)
