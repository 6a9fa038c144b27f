-- Doubles and whole numbers of units. One is 2^F units, and 01 has F = 48.
use Rattle.std.specs.Prelude.{ℕ, suc, ◌*◌, ◌/◌, ◌%◌, ◌^◌, Bool, true, false, cond, not, ◌&&◌, ℤ, pos, negsuc, neg_ℤ, ◌==◌, nat_lt, unsigned_abs, Float}
use Rattle.std.specs.Float.{nan, inf, fin}
use Rattle.std.specs.Float.Ieee.{up, down, odd}
use Rattle.std.specs.Float.Ieee.Exact.{HasValue}

-- the sign of a whole number; nought has that of plus zero
abbrev pub is_negative : ℤ → Bool
is_negative (pos n) = false
is_negative (negsuc n) = true

-- the exact value of x is z/2^F, in sign and size
abbrev pub HasUnits : ℕ → Float → ℤ → Type 0
HasUnits F x z = HasValue x (is_negative z) (unsigned_abs z) (2 ^ F)

-- "each part divided by 2^48 with nothing lost": z/2^F, its numerator made odd, as the kit writes a double. Nothing in it rounds
unfoldable pub double_of : ℕ → ℤ → Float
unfolding odd
double_of F z = odd (suc F) (is_negative z) (unsigned_abs z) 0 F

-- "doubles that are a whole number of units below 2^49 in size. Minus zero is turned away, as are infinities and values that are not
-- numbers": `fin s m e` has the sign s and the size m·2^e, which is n/d units
unfoldable pub is_units : ℕ → Float → Bool
is_units F nan = false
is_units F (inf s) = false
is_units F (fin s m e) =
    let n = m * up e * 2 ^ F in
    let d = down e in
    (n % d == 0) && nat_lt (n / d) (2 ^ suc F) && not (s && m == 0)

-- how many units such a double is
unfoldable pub units_of : ℕ → Float → ℤ
units_of F nan = pos 0
units_of F (inf s) = pos 0
units_of F (fin s m e) = let size = m * up e * 2 ^ F / down e in cond s (neg_ℤ (pos size)) (pos size)
