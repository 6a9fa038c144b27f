-- `exponential::reduction::factor` meets its contract: in each arm p modulo 8 is known, and the list has there what the arm answers.
use mathlib.Core.Path.{◌≡◌}
use Prim.Native.Nat.{ℕ, ◌%◌}
use native.Mathlib.Nat.{mod-lt}
use native.Mathlib.Omega.{arith}
use lib.Dec.{lit<}
use lib.ListN.{get_or}
use Rattle.algebra.specs.Gauss.{𝔾}
use Rattle.point.specs.Point.{nought}
use Rattle.table_numbers.proofs.Match.{Rests, past}
use Rattle.exponential.specs.Reduction.{eight}

abbrev at : ℕ → 𝔾
at i = get_or eight i nought

-- none of the first seven
last : (p : ℕ) → Rests 0 (p % 8) 7 → p % 8 ≡ 7
last p h = omega (arith, past 0 (p % 8) 7 (omega arith) h, mod-lt p {m = 8} (lit< tt))
