-- For the code: the nearest multiple by a division of numbers that are not negative, 16 multiples more; and p modulo 8 and 2 by what is 16
-- more than p.
use mathlib.Core.Path.{◌≡◌, sym, ◌∙◌, ap}
use mathlib.Core.List.{[], ◌∷◌}
use Prim.Native.Nat.{ℕ, ◌*◌, ◌/◌, ◌%◌, ◌≤◌, ◌<◌}
use native.Mathlib.Nat.{div-add-mod}
use native.Mathlib.Omega.{arith}
use lib.Dec.{lit<}
use lib.IntN.{ℤ, pos, negsuc, nat_abs, ◌+ℤ◌, ◌-ℤ◌, ◌*ℤ◌}
use lib.ListN.{get_or}
use lib.Signed.{shr_z}
use mir.Syntax.{w64}
use mir.Val.{SFits}
use Rattle.algebra.specs.Gauss.{two}
use Rattle.algebra.specs.Rounding.{nearest}
use Rattle.algebra.specs.Size.{Size}
use Rattle.algebra.proofs.Integer.{ℤR}
use Rattle.algebra.proofs.Reify.{ring!, reify}
use Rattle.algebra.proofs.Order.{⩽_antisym, nonneg_pos, nonneg_mul, pos_inj_le}
use Rattle.algebra.proofs.Linear.{lin, ◌&◌, ◌&≡◌, none}
use Rattle.algebra.proofs.Floor.{floor_lo, floor_hi, floor_unique}
use Rattle.algebra.proofs.Nearest.{nearest_shifted}
use Rattle.algebra.proofs.Parts.{size_add}
use Rattle.word.proofs.Fits.{sfits_size}
use Rattle.word.proofs.Compare.{le_lt_z}
use Rattle.word.proofs.Bits.{Nonnegative, nonnegative}
use Rattle.point.specs.Point.{nought}
use Rattle.exponential.specs.Reduction.{modulo, eight, factor}
use Rattle.exponential.specs.Code.{NearestPre}

-- v is 2·x + 33·m
pub nearest_divided : (m : ℕ) → 0 < m → (x : ℤ) (v : ℕ) → pos v ≡ pos 2 *ℤ x +ℤ pos 33 *ℤ pos m → pos (v / (2 * m)) ≡ nearest x m +ℤ pos 16
nearest_divided m h x v e = ap (λ z. shr_z z (2 * m)) (e ∙ regroup) ∙ nearest_shifted m h x (pos 16)
  where
    regroup : pos 2 *ℤ x +ℤ pos 33 *ℤ pos m ≡ pos 2 *ℤ x +ℤ pos m +ℤ pos 2 *ℤ pos m *ℤ pos 16
    regroup = ring! ℤR (x ∷ pos m ∷ []) (search reify depth 20) tt

-- what the code makes of x and m
pub record NearestFits (x m : ℤ) : Type 0 where
  pub twice : SFits w64 (pos 2 *ℤ x)
  pub more : SFits w64 (pos 33 *ℤ m)
  pub above : SFits w64 (pos 2 *ℤ x +ℤ pos 33 *ℤ m)
  pub double : SFits w64 (pos 2 *ℤ m)
  pub above_sign : Nonnegative (pos 2 *ℤ x +ℤ pos 33 *ℤ m)
  pub double_sign : Nonnegative (pos 2 *ℤ m)
  pub some : 0 < nat_abs (pos 2 *ℤ m)
  pub made : pos (nat_abs (pos 2 *ℤ x +ℤ pos 33 *ℤ m) / nat_abs (pos 2 *ℤ m)) ≡ nearest x (nat_abs m) +ℤ pos 16

pub nearest_fits : (x m : ℤ) → NearestPre x m → NearestFits x m
nearest_fits x (negsuc m) h = absurd h.least.le
nearest_fits x (pos m) h = record {
  twice = sfits_size x_size tt;
  more = sfits_size m_size tt;
  above = above;
  double = double;
  above_sign = above_sign;
  double_sign = nonnegative double (le_lt_z {x = pos 2 *ℤ pos m} {y = pos 0} (nonneg_mul (nonneg_pos 2) (nonneg_pos m)));
  some = omega (arith, m≥1);
  made = nearest_divided m m≥1 x (nat_abs v) (sym above_sign.whole);
}
  where
    m≥1 : 1 ≤ m
    m≥1 = pos_inj_le h.least

    v : ℤ
    v = pos 2 *ℤ x +ℤ pos 33 *ℤ pos m

    x_size : Size (pos 2 *ℤ x) (two 53)
    x_size = record {
      lo = lin (x ∷ pos m ∷ []) (h.few.lo & h.most & none) (search reify depth 20) tt;
      hi = lin (x ∷ pos m ∷ []) (h.few.hi & h.most & none) (search reify depth 20) tt;
    }

    m_size : Size (pos 33 *ℤ pos m) (two 54)
    m_size = record {
      lo = lin (pos m ∷ []) (h.least & none) (search reify depth 20) tt;
      hi = lin (pos m ∷ []) (h.most & none) (search reify depth 20) tt;
    }

    double : SFits w64 (pos 2 *ℤ pos m)
    double = sfits_size {b = two 49} (record {
      lo = lin (pos m ∷ []) (h.least & none) (search reify depth 20) tt;
      hi = lin (pos m ∷ []) (h.most & none) (search reify depth 20) tt;
    }) tt

    above : SFits w64 v
    above = sfits_size (size_add x_size m_size) tt

    above_sign : Nonnegative v
    above_sign = nonnegative above (le_lt_z {x = v} {y = pos 0} (lin (x ∷ pos m ∷ []) (h.few.lo & h.least & none) (search reify depth 20) tt))

-- P is p + 16, and m divides 16
modulo_at : (m c : ℕ) → 0 < m → (p : ℤ) (P : ℕ) → pos P ≡ p +ℤ pos m *ℤ pos c → modulo p m ≡ pos (P % m)
modulo_at m c h p P e = ap (λ q. p -ℤ pos m *ℤ q) whole ∙ ⩽_antisym
    (lin (p ∷ pos P ∷ pos c ∷ pos m ∷ pos (P / m) ∷ pos (P % m) ∷ []) (e &≡ parts &≡ none) (search reify depth 20) tt)
    (lin (p ∷ pos P ∷ pos c ∷ pos m ∷ pos (P / m) ∷ pos (P % m) ∷ []) (e &≡ parts &≡ none) (search reify depth 20) tt)
  where
    whole : shr_z p m ≡ pos (P / m) -ℤ pos c
    whole = floor_unique m h p (pos (P / m) -ℤ pos c)
        (lin (p ∷ pos P ∷ pos c ∷ pos m ∷ pos (P / m) ∷ []) (e &≡ floor_lo m h (pos P) & none) (search reify depth 20) tt)
        (lin (p ∷ pos P ∷ pos c ∷ pos m ∷ pos (P / m) ∷ []) (e &≡ floor_hi m h (pos P) & none) (search reify depth 20) tt)

    parts : pos m *ℤ pos (P / m) +ℤ pos (P % m) ≡ pos P
    parts = ap pos (div-add-mod P m)

module _ (p : ℤ) (P : ℕ) (e : pos P ≡ p +ℤ pos 16) where
  pub odd_at : modulo p 2 ≡ pos (P % 2)
  odd_at = modulo_at 2 8 (lit< tt) p P e

  pub factor_at : factor p ≡ get_or eight (P % 8) nought
  unfolding factor
  factor_at = ap (λ i. get_or eight i nought) (ap nat_abs (modulo_at 8 2 (lit< tt) p P e))
