-- What is left over, below 1/2^n: from a part in units, and as a size.
use mathlib.Core.List.{[], ◌∷◌}
use Prim.Native.Nat.{ℕ, ◌-◌, ◌^◌, ◌≤◌}
use lib.IntN.{ℤ, pos, ◌+ℤ◌, ◌*ℤ◌}
use Rattle.algebra.specs.Gauss.{two}
use Rattle.algebra.specs.Order.{◌⩽◌, ◌⋖◌}
use Rattle.algebra.specs.Size.{abs, Size, Parts}
use Rattle.algebra.proofs.Reify.{reify}
use Rattle.algebra.proofs.Order.{nonneg_mul, nonneg_pos, sub_nonneg}
use Rattle.algebra.proofs.Linear.{lin, lin<, ◌&◌, ◌&<◌, ◌&≡◌, none}
use Rattle.algebra.proofs.Inequality.{le_cancel}
use Rattle.algebra.proofs.Power.{two≥1, two_mono, two_whole}
use Rattle.algebra.proofs.Parts.{abs_nonneg, abs_size}
use Rattle.point.specs.declared.Point.{Point}
use Rattle.point.specs.Point.{gauss}
use Rattle.answer.specs.Remainder.{PartsBelow}

-- a part below 1/2^n, one being 2^F
pub part_below : (F n : ℕ) → n ≤ F → {a : ℤ} → a ⋖ two (F - n) → a *ℤ two n ⋖ two F
part_below F n h {a} l = lin< (a ∷ two n ∷ two (F - n) ∷ two F ∷ [])
    (nonneg_mul (sub_nonneg below) (nonneg_pos (2 ^ n)) & two≥1 n & two_whole n F h &≡ none) (search reify depth 20) tt
  where
    below : a +ℤ pos 1 ⩽ two (F - n)
    below = lin (a ∷ two (F - n) ∷ []) (l &< none) (search reify depth 20) tt

-- after m steps or more, a part is at most 1/2^m in size
pub remainder_size : (F m n : ℕ) → m ≤ n → m ≤ F → {z : Point} → PartsBelow F n z → Parts (gauss z) (two (F - m))
remainder_size F m n few fits {z} b = record { re = size z.x b.x; im = size z.y b.y }
  where
    size : (x : ℤ) → abs x *ℤ two n ⋖ two F → Size x (two (F - m))
    size x l = abs_size (le_cancel (two m) (two≥1 m) (lin (abs x ∷ two m ∷ two n ∷ two (F - m) ∷ two F ∷ [])
        (l &< nonneg_mul (abs_nonneg x) (sub_nonneg (two_mono m n few)) & two_whole m F fits &≡ none) (search reify depth 20) tt))
