-- The reciprocal of a cell's centre as code works it out: in each of the 256 cells it is 01's formula, and nothing overflows.
use mathlib.Core.Path.{◌≡◌}
use mathlib.Core.Bool.{Bool}
use mathlib.Core.List.{List, [], ◌∷◌}
use Prim.Native.Nat.{◌^◌, ◌<◌}
use native.Mathlib.Omega.{arith}
use lib.Dec.{T}
use lib.IntN.{ℤ, pos, negsuc, nat_abs, ◌*ℤ◌}
use lib.Signed.{non_neg}
use mir.Syntax.{w32, w64}
use mir.Val.{Fits, SFits}
use Rattle.algebra.specs.Order.{◌⩽◌}
use Rattle.algebra.specs.Gauss.{two}
use Rattle.algebra.specs.Rounding.{nearest}
use Rattle.algebra.specs.Size.{Size}
use Rattle.algebra.proofs.Reify.{reify}
use Rattle.algebra.proofs.Order.{⩽_antisym, nonneg_pos, pos_inj_le}
use Rattle.algebra.proofs.Gauss.{gi_path}
use Rattle.algebra.proofs.Linear.{lin, ◌&◌, none}
use Rattle.algebra.proofs.Parts.{size_add, size_neg, size_mul}
use Rattle.algebra.proofs.Range.{les, Les, les_say}
use Rattle.word.proofs.Fits.{sfits_size, word_pos}
use Rattle.table_numbers.specs.Reciprocal.{reciprocal, centre, InTable}
use Rattle.table_numbers.proofs.Kept.{cells, cells_at}
use Rattle.tables.specs.Code.{norm, one_over, inverse, InverseFits}

-- ---- the test
abbrev facts : ℤ → ℤ → List (ℤ × ℤ)
facts x y =
    let z = inverse x y in
    let w = reciprocal x y in
    (pos 1, norm x y) ∷ (pos (one_over x y), two 27) ∷ (z.re, w.re) ∷ (w.re, z.re) ∷ (z.im, w.im) ∷ (w.im, z.im) ∷ []

test : ℤ → ℤ → Bool
test column row = les (facts (centre column) (centre row))

all_pass : T (cells test)
unfolding test reciprocal nearest
all_pass = tt

-- ---- what it says
said : {column row : ℤ} → InTable column row → Les (facts (centre column) (centre row))
unfolding test
said {column} {row} i = les_say (facts (centre column) (centre row)) (cells_at test all_pass column row i)

pub inverse_is : {column row : ℤ} → InTable column row → inverse (centre column) (centre row) ≡ reciprocal (centre column) (centre row)
inverse_is i = let (_, (_, (a, (b, (c, (d, _)))))) = said i in gi_path (⩽_antisym a b) (⩽_antisym c d)

-- ---- no overflow
divisor : (z : ℤ) → pos 1 ⩽ z → z ⩽ pos 1922 → T (non_neg z) × (Fits w32 (nat_abs z) × (0 < nat_abs z))
divisor (pos n) lo hi = (tt, (record { fits = omega (arith, pos_inj_le hi) }, pos_inj_le lo))
divisor (negsuc n) lo hi = absurd lo.le

fits : {x y : ℤ} → Size x (pos 31) → Size y (pos 31) → Les (facts x y) → InverseFits x y
fits {x} {y} hx hy (least, (most, _)) = record {
  xx = sfits_size (size_mul hx hx) tt;
  yy = sfits_size (size_mul hy hy) tt;
  s = sfits_size s_size tt;
  divisor = (narrow.0, narrow.1.0);
  some = narrow.1.1;
  small = small;
  word = word_pos (one_over x y) small;
  by_x = sfits_size (size_mul q_size hx) tt;
  by_y = sfits_size (size_mul q_size hy) tt;
  above = sfits_size (size_add (size_mul q_size hx) half) tt;
  below = sfits_size (size_add half (size_neg (size_mul q_size hy))) tt;
}
  where
    s_size : Size (norm x y) (pos 1922)
    s_size = size_add (size_mul hx hx) (size_mul hy hy)

    narrow : T (non_neg (norm x y)) × (Fits w32 (nat_abs (norm x y)) × (0 < nat_abs (norm x y)))
    narrow = divisor (norm x y) least s_size.hi

    q_size : Size (pos (one_over x y)) (two 27)
    q_size = record { lo = lin (pos (one_over x y) ∷ []) (nonneg_pos (one_over x y) & none) (search reify depth 20) tt; hi = most }

    small : one_over x y < 2 ^ 63
    small = omega (arith, pos_inj_le most)

    half : Size (pos 32768) (pos 32768)
    half = record { lo = record { le = tt }; hi = record { le = tt } }

pub record CentreFits (column row : ℤ) : Type 0 where
  pub columns : SFits w64 (pos 2 *ℤ column)
  pub x : SFits w64 (centre column)
  pub rows : SFits w64 (pos 2 *ℤ row)
  pub y : SFits w64 (centre row)
  pub inverse : InverseFits (centre column) (centre row)

pub centre_fits : {column row : ℤ} → InTable column row → CentreFits column row
centre_fits {column} {row} i = record {
  columns = sfits_size {b = pos 32} (record {
    lo = lin ρ (i.left & none) (search reify depth 20) tt;
    hi = lin ρ (i.right & none) (search reify depth 20) tt;
  }) tt;
  x = sfits_size x_size tt;
  rows = sfits_size {b = pos 32} (record {
    lo = lin ρ (i.low & none) (search reify depth 20) tt;
    hi = lin ρ (i.high & none) (search reify depth 20) tt;
  }) tt;
  y = sfits_size y_size tt;
  inverse = fits x_size y_size (said i);
}
  where
    ρ : List ℤ
    ρ = column ∷ row ∷ []

    x_size : Size (centre column) (pos 31)
    x_size = record { lo = lin ρ (i.left & none) (search reify depth 20) tt; hi = lin ρ (i.right & none) (search reify depth 20) tt }

    y_size : Size (centre row) (pos 31)
    y_size = record { lo = lin ρ (i.low & none) (search reify depth 20) tt; hi = lin ρ (i.high & none) (search reify depth 20) tt }
