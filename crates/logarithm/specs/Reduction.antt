-- LOG's reduction (01, LOG, in its order): a point is turned into a cone, scaled, and brought near one by the reciprocal of its cell.
-- One is 2^F units; 01 has F = 48.
use Rattle.std.specs.Prelude.{Bool, true, false, cond, ◌&&◌, ℕ, zero, suc, ◌-◌, ◌^◌, eqb, ltb, ℤ, pos, neg_ℤ, nat_abs, ◌-ℤ◌}
use Rattle.std.specs.Int.Signed.{shr_z, lt_z, le_z}
use Rattle.algebra.specs.Gauss.{𝔾, gi, ιᵍ, ◌*ᵍ◌}
use Rattle.algebra.specs.Rounding.{floorᵍ}
use Rattle.table_numbers.specs.Reciprocal.{reciprocal, centre}

-- ---- Turn: "the one q of 0 to 3 and the one point w with point = i^q·w and −wx < wy ≤ wx"
-- a quarter turn back: times −i
unfoldable pub turn_back : 𝔾 → 𝔾
turn_back z = gi z.im (neg_ℤ z.re)

unfoldable pub turns_back : ℕ → 𝔾 → 𝔾
turns_back zero z = z
turns_back (suc q) z = turn_back (turns_back q z)

-- −wx < wy ≤ wx
abbrev pub in_cone : 𝔾 → Bool
in_cone w = lt_z (neg_ℤ w.re) w.im && le_z w.im w.re

-- how many quarter turns bring w to the point: the first number for which w lies in the cone
unfoldable pub quarters : 𝔾 → ℕ
quarters p = cond (in_cone (turns_back 0 p)) 0 (cond (in_cone (turns_back 1 p)) 1 (cond (in_cone (turns_back 2 p)) 2 3))

-- w
unfoldable pub turned : 𝔾 → 𝔾
turned p = turns_back (quarters p) p

-- how that many quarter turns are written as q, by w (request E2): "q = 3 is written −1, as for (5, −5), and q = 2 with wy above zero is
-- written −2. A point straight to the left keeps q = 2"
unfoldable pub spelling : ℕ → 𝔾 → ℤ
spelling m w = cond (eqb m 3) (neg_ℤ (pos 1)) (cond (eqb m 2 && lt_z (pos 0) w.im) (neg_ℤ (pos 2)) (pos m))

-- q
unfoldable pub quadrant : 𝔾 → ℤ
quadrant p = spelling (quarters p) (turned p)

-- ---- Scale: "the one k with 2^(47+k) ≤ wx < 2^(48+k)". F + k is the length of wx in bits, so no definition goes by the sign of k
-- the first b from the given one on with m < 2^b, in at most f trials
unfoldable pub bits_from : ℕ → ℕ → ℕ → ℕ
bits_from zero b m = b
bits_from (suc f) b m = elim (ltb m (2 ^ b)) [ true ↦ b | false ↦ bits_from f (suc b) m ]

-- how many bits m has
unfoldable pub bits : ℕ → ℕ
bits m = bits_from m 0 m

-- F + k
unfoldable pub bit_length : 𝔾 → ℕ
bit_length w = bits (nat_abs w.re)

-- k
unfoldable pub binary_exponent_of : ℕ → 𝔾 → ℤ
binary_exponent_of F w = pos (bit_length w) -ℤ pos F

-- 2^−k, which is 1 for k > 0, and 2^k, which is 1 for k < 0; b is F + k
abbrev pub up : ℕ → ℕ → ℕ
up F b = 2 ^ (F - b)

abbrev pub down : ℕ → ℕ → ℕ
down F b = 2 ^ (b - F)

-- "Each part of w is divided by 2^k: exactly for k ≤ 0, by floor for k > 0"
unfoldable pub scaled : ℕ → 𝔾 → 𝔾
scaled F w = floorᵍ (ιᵍ (pos (up F (bit_length w))) *ᵍ w) (down F (bit_length w))

-- ---- Seat: "the scaled point lies in a cell of side 1/16 with centre (X + iY)/32, .. a cell owns its lower edges"
-- the side in units
abbrev pub side : ℕ → ℕ
side F = 2 ^ (F - 4)

-- the column and the row of cells that hold a point, numbered from those that start at nought
unfoldable pub column : ℕ → 𝔾 → ℤ
column F p = shr_z p.re (side F)

unfoldable pub row : ℕ → 𝔾 → ℤ
row F p = shr_z p.im (side F)

-- X and Y
abbrev pub cell_x : ℕ → 𝔾 → ℤ
cell_x F p = centre (column F p)

abbrev pub cell_y : ℕ → 𝔾 → ℤ
cell_y F p = centre (row F p)

-- "With S = X² + Y², the seat is (a + ib)/64, where a is 2048·X/S and b is −2048·Y/S, each as floor(value + 1/2)": a + ib
abbrev pub reciprocal_of : ℕ → 𝔾 → 𝔾
reciprocal_of F p = reciprocal (cell_x F p) (cell_y F p)

-- "The point is multiplied by a + ib and each part floored by 64"
unfoldable pub reduced : ℕ → 𝔾 → 𝔾
reduced F p = floorᵍ (reciprocal_of F p *ᵍ p) 64
