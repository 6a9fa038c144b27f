-- A digit's part in code: its place among the rows is one more than it.
use mathlib.Core.Path.{◌≡◌, refl}
use mathlib.Core.Bool.{true, false}
use mathlib.Core.List.{List}
use Prim.Native.Nat.{ℕ, zero, suc, ◌<◌}
use native.Mathlib.Nat.{not-suc-le-zero, le_of_suc-le-suc}
use native.Mathlib.Omega.{arith}
use lib.Dec.{lit<, leb→le}
use lib.IntN.{ℤ, pos, negsuc, nat_abs, ◌+ℤ◌}
use mir.Syntax.{w64}
use mir.Val.{SFits, to_z, of_z}
use Rattle.algebra.proofs.Order.{pos_inj_le}
use Rattle.word.specs.Compare.{between}
use Rattle.word.proofs.Compare.{between_true, fails}
use Rattle.point.specs.Digit.{Trit, t-, t0, t+}
use Rattle.table_numbers.specs.Listed.{by_digit}

abbrev pub place : ℤ → ℕ
place d = nat_abs (d +ℤ pos 1)

pub place_lt : {d : ℤ} → Trit d → place d < 3
place_lt t- = omega arith
place_lt t0 = omega arith
place_lt t+ = omega arith

pub next_fits : {d : ℤ} → Trit d → SFits w64 (to_z w64 (of_z w64 d) +ℤ pos 1)
next_fits t- = record { sfits = lit< tt }
next_fits t0 = record { sfits = lit< tt }
next_fits t+ = record { sfits = lit< tt }

pub place_word : {d : ℤ} → Trit d → to_z w64 (of_z w64 (to_z w64 (of_z w64 d) +ℤ pos 1)) ≡ pos (place d)
place_word t- = refl
place_word t0 = refl
place_word t+ = refl

-- a machine word holds it
pub trit_word : {d : ℤ} → Trit d → to_z w64 (of_z w64 d) ≡ d
trit_word t- = refl
trit_word t0 = refl
trit_word t+ = refl

-- the code's test of a digit's part
pub trit_of : (d : ℤ) → between (negsuc 0) (pos 1) d ≡ true → Trit d
trit_of (negsuc zero) e = t-
trit_of (negsuc (suc n)) e = absurd
    (not-suc-le-zero (leb→le (suc n) 0 (between_true {lo = negsuc 0} {hi = pos 1} {x = negsuc (suc n)} e).0.le))
trit_of (pos zero) e = t0
trit_of (pos (suc zero)) e = t+
trit_of (pos (suc (suc n))) e = absurd
    (not-suc-le-zero (le_of_suc-le-suc (pos_inj_le (between_true {lo = negsuc 0} {hi = pos 1} {x = pos (suc (suc n))} e).1)))

pub outside : {A : Type 0} (l : List A) (o : A) (d : ℤ) → between (negsuc 0) (pos 1) d ≡ false → by_digit l o d ≡ o
unfolding between
outside l o (negsuc zero) e = absurd (fails e)
outside l o (negsuc (suc n)) e = refl
outside l o (pos zero) e = absurd (fails e)
outside l o (pos (suc zero)) e = absurd (fails e)
outside l o (pos (suc (suc n))) e = refl
