-- For the code: what an exponent is brought back to, at the width 48, fits.
use mathlib.Core.Path.{◌≡◌, sym, ◌∙◌, ap, ap₂, subst}
use mathlib.Core.List.{[], ◌∷◌}
use Prim.Native.Nat.{ℕ, ◌%◌, ◌≤◌, ◌<◌}
use native.Mathlib.Nat.{mod-lt}
use native.Mathlib.Omega.{arith}
use lib.Dec.{lit<}
use lib.IntN.{ℤ, pos, ◌+ℤ◌, ◌-ℤ◌, ◌*ℤ◌}
use lib.ListN.{get_or}
use mir.Syntax.{w64}
use mir.Val.{SFits, to_z}
use Rattle.algebra.specs.Gauss.{𝔾, gi, two}
use Rattle.algebra.specs.Order.{◌⩽◌}
use Rattle.algebra.specs.Size.{Size, Parts}
use Rattle.algebra.proofs.Integer.{ℤR}
use Rattle.algebra.proofs.Reify.{ring!, reify}
use Rattle.algebra.proofs.Order.{nonneg_pos, pos_inj_le}
use Rattle.algebra.proofs.Linear.{lin, ◌&◌, ◌&≡◌, ◌&ℕ◌, none}
use Rattle.algebra.proofs.Parts.{size_add, size_neg, size_mul, parts_weaken}
use Rattle.word.proofs.Fits.{word_pos, sfits_size, sfits_pos}
use Rattle.point.specs.Point.{point, nought}
use Rattle.table_numbers.specs.Numbers48.{constants48}
use Rattle.table_numbers.proofs.Promise48.{constants_promise}
use Rattle.exponential.specs.Reduction.{eight, factor, eighths, turned_re, doublings, left_over}
use Rattle.exponential.specs.Code.{NearestPre}
use Rattle.exponential.proofs.Reduced.{eighths_size, doublings_size, left_re, left_im}
use Rattle.exponential.proofs.Divided.{odd_at, factor_at}

-- ---- the constants as the code has them
abbrev Q : ℤ
Q = pos 221069929750889

abbrev H : ℤ
H = pos 195103586505167

abbrev R : ℤ
R = pos 97551793252584

Q-size : Size Q Q
Q-size = record { lo = record { le = tt }; hi = record { le = tt } }

H-size : Size H H
H-size = record { lo = record { le = tt }; hi = record { le = tt } }

-- what is at most half of a constant
half_fits : {z : ℤ} {b : ℕ} → Size (pos 2 *ℤ z) (pos b) → pos b ⩽ two 48 → SFits w64 z
half_fits {z} {b} h k = sfits_size {b = two 48} (record {
  lo = lin (z ∷ pos b ∷ []) (h.lo & k & none) (search reify depth 20) tt;
  hi = lin (z ∷ pos b ∷ []) (h.hi & k & none) (search reify depth 20) tt;
}) tt

small : (pos constants48.ln_2 ⩽ two 48) × (pos constants48.quarter_pi ⩽ two 48)
unfolding constants48
small = (record { le = tt }, record { le = tt })

-- ---- p and k, 16 more than they are
-- ex without R for an odd p
abbrev turned : ℤ → ℕ → ℤ
turned x p = x -ℤ pos (p % 2) *ℤ R

pub record CountFits (p : ℕ) : Type 0 where
  pub word : to_z w64 p ≡ pos p
  pub cast : SFits w64 (pos p)
  pub less : SFits w64 (pos p -ℤ pos 16)

sixteen_less : (p : ℕ) (z : ℤ) → pos p ≡ z +ℤ pos 16 → pos p -ℤ pos 16 ≡ z
sixteen_less p z e = ap (λ t. t -ℤ pos 16) e ∙ ring! ℤR (z ∷ []) (search reify depth 20) tt

count_fits : (p : ℕ) → p ≤ 64 → CountFits p
count_fits p h = record {
  word = word_pos p (omega (arith, h));
  cast = sfits_pos (omega (arith, h));
  less = sfits_size {b = pos 64} (record {
    lo = lin (pos p ∷ []) (nonneg_pos p & none) (search reify depth 20) tt;
    hi = lin (pos p ∷ []) (h &ℕ none) (search reify depth 20) tt;
  }) tt;
}

pub record TurnedFits (x : ℤ) (p : ℕ) : Type 0 where
  pub bit : to_z w64 (p % 2) ≡ pos (p % 2)
  pub half : SFits w64 (pos (p % 2) *ℤ R)
  pub left : SFits w64 (turned x p)
  pub next : NearestPre (turned x p) H

module _ (x y : ℤ) (far : Parts (gi x y) (two 51)) where
  abbrev e : 𝔾
  e = gi x y

  near : Parts e (pos 8 *ℤ two 48)
  near = parts_weaken far (record { le = tt })

  p_size : Size (eighths constants48 e) (pos 10)
  p_size = eighths_size 48 (omega arith) constants48 constants_promise e near

  k_size : Size (doublings constants48 e) (pos 12)
  k_size = doublings_size 48 (omega arith) constants48 constants_promise e near

  pub turns_pre : NearestPre y Q
  turns_pre = record {
    least = record { le = tt };
    most = record { le = tt };
    few = record {
      lo = lin (y ∷ []) (far.im.lo & none) (search reify depth 20) tt;
      hi = lin (y ∷ []) (far.im.hi & none) (search reify depth 20) tt;
    };
  }

  module _ (p : ℕ) (p_is : pos p ≡ eighths constants48 e +ℤ pos 16) where
    one_bit : p % 2 < 2
    one_bit = mod-lt p (lit< tt)

    half_size : Size (pos (p % 2) *ℤ R) R
    half_size = record {
      lo = lin (pos (p % 2) ∷ []) (nonneg_pos (p % 2) & none) (search reify depth 20) tt;
      hi = lin (pos (p % 2) ∷ []) (one_bit &ℕ none) (search reify depth 20) tt;
    }

    left_size : Size (turned x p) (two 51 +ℤ R)
    left_size = size_add far.re (size_neg half_size)

    pub turned_fits : TurnedFits x p
    turned_fits = record {
      bit = word_pos (p % 2) (omega (arith, one_bit));
      half = sfits_size half_size tt;
      left = sfits_size left_size tt;
      next = record {
        least = record { le = tt };
        most = record { le = tt };
        few = record {
          lo = lin (turned x p ∷ []) (left_size.lo & none) (search reify depth 20) tt;
          hi = lin (turned x p ∷ []) (left_size.hi & none) (search reify depth 20) tt;
        };
      };
    }

    pub turned_is : turned x p ≡ turned_re constants48 e
    unfolding turned_re constants48
    turned_is = ap (λ b. x -ℤ b *ℤ R) (sym (odd_at (eighths constants48 e) p p_is))

    few : p ≤ 26
    few = pos_inj_le (lin (pos p ∷ eighths constants48 e ∷ []) (p_is &≡ p_size.hi & none) (search reify depth 20) tt)

    pub factor_is : get_or eight (p % 8) nought ≡ factor (eighths constants48 e)
    factor_is = sym (factor_at (eighths constants48 e) p p_is)

    module _ (k : ℕ) (k_is : pos k ≡ doublings constants48 e +ℤ pos 16) where
      turns_are : pos p -ℤ pos 16 ≡ eighths constants48 e
      turns_are = sixteen_less p (eighths constants48 e) p_is

      doublings_are : pos k -ℤ pos 16 ≡ doublings constants48 e
      doublings_are = sixteen_less k (doublings constants48 e) k_is

      abbrev left_x : ℤ
      left_x = turned x p -ℤ (pos k -ℤ pos 16) *ℤ H

      abbrev left_y : ℤ
      left_y = y -ℤ (pos p -ℤ pos 16) *ℤ Q

      left_x_is : left_x ≡ (left_over constants48 e).re
      unfolding left_over constants48
      left_x_is = ap₂ (λ t d. t -ℤ d *ℤ H) turned_is doublings_are

      left_y_is : left_y ≡ (left_over constants48 e).im
      unfolding left_over constants48
      left_y_is = ap (λ d. y -ℤ d *ℤ Q) turns_are

      pub record LeftFits : Type 0 where
        pub p_count : CountFits p
        pub k_count : CountFits k
        pub lost_x : SFits w64 ((pos k -ℤ pos 16) *ℤ H)
        pub lost_y : SFits w64 ((pos p -ℤ pos 16) *ℤ Q)
        pub x_left : SFits w64 left_x
        pub y_left : SFits w64 left_y
        pub point_is : record { x = left_x; y = left_y } ≡ point (left_over constants48 e)
        pub k_left : pos k -ℤ pos 16 ≡ doublings constants48 e

      pub left_fits : LeftFits
      left_fits = record {
        p_count = count_fits p (omega (arith, few));
        k_count = count_fits k (pos_inj_le (lin (pos k ∷ doublings constants48 e ∷ []) (k_is &≡ k_size.hi & none) (search reify depth 20) tt));
        lost_x = subst (λ d. SFits w64 (d *ℤ H)) (sym doublings_are) (sfits_size (size_mul k_size H-size) tt);
        lost_y = subst (λ d. SFits w64 (d *ℤ Q)) (sym turns_are) (sfits_size (size_mul p_size Q-size) tt);
        x_left = subst (λ z. SFits w64 z) (sym left_x_is) (half_fits (left_re 48 (omega arith) constants48 constants_promise e) small.0);
        y_left = subst (λ z. SFits w64 z) (sym left_y_is) (half_fits (left_im 48 (omega arith) constants48 constants_promise e) small.1);
        point_is = ap₂ (λ x y. record { x = x; y = y }) left_x_is left_y_is;
        k_left = doublings_are;
      }
