-- The scale (01, LOG): "the one k with 2^(47+k) ≤ wx < 2^(48+k)", what scaling loses, and where the scaled point lies.
use mathlib.Core.Path.{◌≡◌, sym, ◌∙◌, ap, subst}
use mathlib.Core.List.{[], ◌∷◌}
use mathlib.Core.Bool.{Bool, true, false, not}
use mathlib.Core.Logic.{⊎_elim}
use Prim.Native.Nat.{ℕ, zero, suc, ◌+◌, ◌*◌, ◌-◌, ◌^◌, ◌≤◌, ◌<◌, zero-le, suc-le-suc}
use native.Mathlib.Nat.{pow-zero, pow-suc, pow-succ', zero-add, add-zero, mul_comm, not-suc-le-zero, le_antisymm}
use native.Mathlib.Omega.{arith}
use lib.Dec.{T, ltb, ltb→lt, nltb→le}
use lib.IntN.{ℤ, pos, negsuc, neg_ℤ, nat_abs, ◌+ℤ◌, ◌-ℤ◌, ◌*ℤ◌}
use Rattle.algebra.specs.Gauss.{𝔾, gi, ιᵍ, ◌-ᵍ◌, ◌*ᵍ◌, two}
use Rattle.algebra.specs.Order.{◌⩽◌}
use Rattle.algebra.specs.Size.{Parts}
use Rattle.algebra.specs.Rounding.{floorᵍ}
use Rattle.algebra.proofs.Integer.{ℤR}
use Rattle.algebra.proofs.Gauss.{gi_path}
use Rattle.algebra.proofs.Reify.{ring!, reify}
use Rattle.algebra.proofs.Order.{nonneg_mul, sub_nonneg, pos_mono, pos_inj_le}
use Rattle.algebra.proofs.Linear.{lin, lin_false, ◌&◌, ◌&<◌, ◌&≡◌, none}
use Rattle.algebra.proofs.Inequality.{below_next}
use Rattle.algebra.proofs.Power.{two_pos, two≥1, two_suc, two_split, two_reflects, below_two, le_or_lt}
use Rattle.algebra.proofs.Floor.{floor_lo, floor_hi, floor_one}
use Rattle.algebra.proofs.Parts.{parts_floor}
use Rattle.logarithm.specs.Answer.{two_to, power}
use Rattle.logarithm.specs.Reduction.{bits_from, bits, bit_length, binary_exponent_of, up, down, scaled}
use Rattle.logarithm.specs.Code.{Cone}
use Rattle.logarithm.proofs.Quadrant.{cone_pos}

-- ---- 2^(b−1) ≤ m < 2^b, and b is the one number with that
pub record Bits (m b : ℕ) : Type 0 where
  pub above : m < 2 ^ b
  pub half : 2 ^ b ≤ 2 * m

bits_from_law : (f b m : ℕ) → m < 2 ^ (b + f) → 2 ^ b ≤ 2 * m → Bits m (bits_from f b m)
unfolding bits_from
bits_from_law zero b m h g = record { above = subst (λ k. m < 2 ^ k) (add-zero b) h; half = g }
bits_from_law (suc f) b m h g = go (ltb m (2 ^ b)) (ltb→lt m (2 ^ b)) (nltb→le m (2 ^ b))
    (bits_from_law f (suc b) m (subst (λ k. m < 2 ^ k) (shift b f) h))
  where
    shift : (b f : ℕ) → b + suc f ≡ suc b + f
    shift b f = omega arith

    go : (t : Bool) → (T t → m < 2 ^ b) → (T (not t) → 2 ^ b ≤ m) → (2 ^ suc b ≤ 2 * m → Bits m (bits_from f (suc b) m)) →
        Bits m (elim t [ true ↦ b | false ↦ bits_from f (suc b) m ])
    go true l o next = record { above = l tt; half = g }
    go false l o next = next (omega (arith, pow-suc 2 b, o tt))

pub bits_law : (m : ℕ) → 1 ≤ m → Bits m (bits m)
unfolding bits
bits_law m h = bits_from_law m 0 m (subst (λ k. m < 2 ^ k) (sym (zero-add m)) (below_two m)) (omega (arith, pow-zero 2))

bits_below : {m : ℕ} (b c : ℕ) → Bits m b → Bits m c → b ≤ c
bits_below b c h g = two_reflects b c (omega (arith, pow-suc 2 c, h.half, g.above))

pub bits_unique : {m : ℕ} (b c : ℕ) → Bits m b → Bits m c → b ≡ c
bits_unique b c h g = le_antisymm (bits_below b c h g) (bits_below c b g h)

-- it is one more than the logarithm
pub bits_log : (k m : ℕ) → 1 ≤ m → 2 ^ k ≤ m → m < 2 * 2 ^ k → k + 1 ≡ bits m
bits_log k m h low high = omega arith ∙ sym (bits_unique (bits m) (suc k) (bits_law m h)
    (record { above = omega (arith, pow-suc 2 k, high); half = omega (arith, pow-suc 2 k, low) }))

-- ---- wx < 2^(F+k) ≤ 2 wx, and F + k is the one number with that
pub record Length (x : ℤ) (b : ℕ) : Type 0 where
  pub above : x +ℤ pos 1 ⩽ two b
  pub half : two b ⩽ pos 2 *ℤ x

pub length_law : (w : 𝔾) → pos 1 ⩽ w.re → Length w.re (bit_length w)
unfolding bit_length
length_law w h = go w.re h
  where
    go : (x : ℤ) → pos 1 ⩽ x → Length x (bits (nat_abs x))
    go (pos m) l = let g = bits_law m (pos_inj_le l) in record { above = pos_mono (omega (arith, g.above)); half = pos_mono g.half }
    go (negsuc m) l = absurd l.le

pub length_unique : (w : 𝔾) (b : ℕ) → pos 1 ⩽ w.re → Length w.re b → bit_length w ≡ b
unfolding bit_length
length_unique w b = go w.re
  where
    go : (x : ℤ) → pos 1 ⩽ x → Length x b → bits (nat_abs x) ≡ b
    go (pos m) l h = bits_unique (bits m) b (bits_law m (pos_inj_le l))
        (record { above = pos_inj_le (lin (pos m ∷ two b ∷ []) (h.above & none) (search reify depth 20) tt); half = pos_inj_le h.half })
    go (negsuc m) l h = absurd l.le

-- 1 ≤ F + k, and F + k ≤ n + 1 where wx ≤ 2^n: k runs from 1 − F to 11 for n = F + 10 (from −47 at F = 48)
pub length_pos : (w : 𝔾) → pos 1 ⩽ w.re → 1 ≤ bit_length w
length_pos w h = go (bit_length w) (length_law w h).above
  where
    go : (b : ℕ) → w.re +ℤ pos 1 ⩽ two b → 1 ≤ b
    go zero g = absurd (lin_false (w.re ∷ []) (h & g & none) (search reify depth 20) tt)
    go (suc b) g = suc-le-suc zero-le

pub length_le : (w : 𝔾) (n : ℕ) → pos 1 ⩽ w.re → w.re ⩽ two n → bit_length w ≤ suc n
length_le w n h l = two_reflects (bit_length w) (suc n)
    (pos_inj_le (lin (w.re ∷ two (bit_length w) ∷ two n ∷ two (suc n) ∷ two (suc (suc n)) ∷ [])
    ((length_law w h).half & l & two_suc (suc n) &≡ two_suc n &≡ h & none) (search reify depth 20) tt))

-- in 01's words: 2^(F+k−1) ≤ wx < 2^(F+k), times two, and k is the one number with that
pub exponent_length : (F : ℕ) (w : 𝔾) → pos F +ℤ binary_exponent_of F w ≡ pos (bit_length w)
unfolding binary_exponent_of
exponent_length F w = ring! ℤR (pos F ∷ pos (bit_length w) ∷ []) (search reify depth 20) tt

pub power_is : (F : ℕ) (w : 𝔾) → power F (binary_exponent_of F w) ≡ two (bit_length w)
power_is F w = ap two_to (exponent_length F w)

pub record Exponent (F : ℕ) (x k : ℤ) : Type 0 where
  pub above : x +ℤ pos 1 ⩽ power F k
  pub half : power F k ⩽ pos 2 *ℤ x

pub exponent_law : (F : ℕ) (w : 𝔾) → Cone w → Exponent F w.re (binary_exponent_of F w)
exponent_law F w c = let h = length_law w (cone_pos c) in record {
  above = subst (λ b. w.re +ℤ pos 1 ⩽ b) (sym (power_is F w)) h.above;
  half = subst (λ b. b ⩽ pos 2 *ℤ w.re) (sym (power_is F w)) h.half;
}

pub exponent_unique : (F : ℕ) (w : 𝔾) (k : ℤ) → Cone w → Exponent F w.re k → binary_exponent_of F w ≡ k
unfolding binary_exponent_of
exponent_unique F w k c e = ap (λ b. b -ℤ pos F) (length_is (pos F +ℤ k) e.above e.half)
    ∙ ring! ℤR (pos F ∷ k ∷ []) (search reify depth 20) tt
  where
    length_is : (b : ℤ) → w.re +ℤ pos 1 ⩽ two_to b → two_to b ⩽ pos 2 *ℤ w.re → pos (bit_length w) ≡ b
    length_is (pos n) above half = ap pos (length_unique w n (cone_pos c) (record { above = above; half = half }))
    length_is (negsuc n) above half = absurd (no_power above).le
      where
        no_power : w.re +ℤ pos 1 ⩽ pos 0 → pos 2 ⩽ pos 0
        no_power h = lin (w.re ∷ []) (cone_pos c & h & none) (search reify depth 20) tt

-- ---- 2^−k · 2^(F+k) = 2^F, whichever the sign of k
nothing_left : (m n : ℕ) → m ≤ n → m - n ≡ 0
nothing_left m n h = omega arith

pub up_down : (F b : ℕ) → up F b * 2 ^ b ≡ down F b * 2 ^ F
up_down F b = ⊎_elim
    (λ h. omega (arith, ap (λ t. 2 ^ t * 2 ^ F) (nothing_left b F h), pow-zero 2, two_split b F h, mul_comm (2 ^ b) (2 ^ (F - b))))
    (λ h. let g : F ≤ b = omega arith in
    omega (arith, ap (λ t. 2 ^ t * 2 ^ b) (nothing_left F b g), pow-zero 2, two_split F b g, mul_comm (2 ^ F) (2 ^ (b - F))))
    (le_or_lt b F)

-- ---- what scaling loses: less than one unit in each part for k > 0, and nothing for k ≤ 0
-- p is z/d by floor: at most the quotient, and less than one unit below it
record Floored (d : ℕ) (z p : 𝔾) : Type 0 where
  re_lo : pos d *ℤ p.re ⩽ z.re
  re_hi : z.re +ℤ pos 1 ⩽ pos d *ℤ p.re +ℤ pos d
  im_lo : pos d *ℤ p.im ⩽ z.im
  im_hi : z.im +ℤ pos 1 ⩽ pos d *ℤ p.im +ℤ pos d

module _ (F : ℕ) (w : 𝔾) where
  scaled_floor : Floored (down F (bit_length w)) (ιᵍ (pos (up F (bit_length w))) *ᵍ w) (scaled F w)
  unfolding scaled floorᵍ
  scaled_floor = record {
    re_lo = floor_lo d d>0 z.re;
    re_hi = floor_hi d d>0 z.re;
    im_lo = floor_lo d d>0 z.im;
    im_hi = floor_hi d d>0 z.im;
  }
    where
      d : ℕ
      d = down F (bit_length w)

      d>0 : 0 < d
      d>0 = two_pos (bit_length w - F)

      z : 𝔾
      z = ιᵍ (pos (up F (bit_length w))) *ᵍ w

  -- times 2^k
  pub scaled_error : Parts (ιᵍ (pos (up F (bit_length w))) *ᵍ w -ᵍ ιᵍ (pos (down F (bit_length w))) *ᵍ scaled F w)
      (pos (down F (bit_length w)))
  unfolding scaled
  scaled_error = parts_floor (down F (bit_length w)) (two_pos (bit_length w - F)) (ιᵍ (pos (up F (bit_length w))) *ᵍ w)

  pub scaled_exact : bit_length w ≤ F → scaled F w ≡ ιᵍ (pos (up F (bit_length w))) *ᵍ w
  unfolding scaled floorᵍ
  scaled_exact h = ap (λ m. floorᵍ (ιᵍ (pos (up F (bit_length w))) *ᵍ w) m) (ap (λ t. 2 ^ t) (nothing_left (bit_length w) F h) ∙ pow-zero 2)
      ∙ gi_path (floor_one _) (floor_one _)

-- ---- the ranges of a scaled point, U units to one: half of one at least, below one, and the cone but for the floor
pub record Scaled (U : ℤ) (p : 𝔾) : Type 0 where
  pub half : U ⩽ pos 2 *ℤ p.re
  pub below : p.re +ℤ pos 1 ⩽ U
  pub lo : neg_ℤ p.re -ℤ pos 1 ⩽ p.im
  pub hi : p.im ⩽ p.re

module _ (u d B h wx wy x y : ℤ) (u≥1 : pos 1 ⩽ u) (d≥1 : pos 1 ⩽ d) (same : u *ℤ B ≡ d *ℤ (pos 2 *ℤ h)) (above : wx +ℤ pos 1 ⩽ B)
    (half : B ⩽ pos 2 *ℤ wx)
    (lo : pos 1 -ℤ wx ⩽ wy) (hi : wy ⩽ wx) (x_lo : d *ℤ x ⩽ u *ℤ wx) (x_hi : u *ℤ wx +ℤ pos 1 ⩽ d *ℤ x +ℤ d) (y_lo : d *ℤ y ⩽ u *ℤ wy)
    (y_hi : u *ℤ wy +ℤ pos 1 ⩽ d *ℤ y +ℤ d) where
  u≥0 : pos 0 ⩽ u
  u≥0 = lin (u ∷ []) (u≥1 & none) (search reify depth 20) tt

  ranges : Scaled (pos 2 *ℤ h) (gi x y)
  ranges = record {
    half = lin (h ∷ x ∷ []) (below_next {a = h} {b = x} d d≥1
        (lin (u ∷ d ∷ B ∷ h ∷ wx ∷ x ∷ []) (same &≡ nonneg_mul u≥0 (sub_nonneg half) & x_hi & none) (search reify depth 20) tt) & none)
        (search reify depth 20) tt;
    below = lin (h ∷ x ∷ []) (below_next {a = x} {b = pos 2 *ℤ h -ℤ pos 1} d d≥1
        (lin (u ∷ d ∷ B ∷ h ∷ wx ∷ x ∷ []) (same &≡ nonneg_mul u≥0 (sub_nonneg above) & x_lo & u≥1 & none) (search reify depth 20) tt)
        & none) (search reify depth 20) tt;
    lo = below_next d d≥1 (lin (u ∷ d ∷ wx ∷ wy ∷ x ∷ y ∷ []) (nonneg_mul u≥0 (sub_nonneg lo) & x_hi & y_hi & u≥1 & x_lo & none)
        (search reify depth 20) tt);
    hi = below_next d d≥1 (lin (u ∷ d ∷ wx ∷ wy ∷ x ∷ y ∷ []) (nonneg_mul u≥0 (sub_nonneg hi) & x_hi & y_lo & none)
        (search reify depth 20) tt);
  }

ranges_suc : (F : ℕ) (w : 𝔾) → Cone w → Scaled (two (suc F)) (scaled (suc F) w)
unfolding ιᵍ ◌*ᵍ◌
ranges_suc F w c = subst (λ t. Scaled t (scaled (suc F) w)) (sym (two_suc F))
    (ranges (pos u) (pos d) (two b) (two F) w.re w.im x y (two≥1 (suc F - b)) (two≥1 (b - suc F))
    (ap pos (up_down (suc F) b ∙ ap (λ t. d * t) (pow-succ' 2 F)))
    (length_law w (cone_pos c)).above (length_law w (cone_pos c)).half
    (lin (w.re ∷ w.im ∷ []) (c.lo &< none) (search reify depth 20) tt) c.hi
    (lin (pos u ∷ pos d ∷ w.re ∷ w.im ∷ x ∷ []) (f.re_lo & none) (search reify depth 20) tt)
    (lin (pos u ∷ pos d ∷ w.re ∷ w.im ∷ x ∷ []) (f.re_hi & none) (search reify depth 20) tt)
    (lin (pos u ∷ pos d ∷ w.re ∷ w.im ∷ y ∷ []) (f.im_lo & none) (search reify depth 20) tt)
    (lin (pos u ∷ pos d ∷ w.re ∷ w.im ∷ y ∷ []) (f.im_hi & none) (search reify depth 20) tt))
  where
    b : ℕ
    b = bit_length w

    u : ℕ
    u = up (suc F) b

    d : ℕ
    d = down (suc F) b

    x : ℤ
    x = (scaled (suc F) w).re

    y : ℤ
    y = (scaled (suc F) w).im

    f : Floored d (ιᵍ (pos u) *ᵍ w) (scaled (suc F) w)
    f = scaled_floor (suc F) w

pub scaled_ranges : (F : ℕ) → 1 ≤ F → (w : 𝔾) → Cone w → Scaled (two F) (scaled F w)
scaled_ranges zero h w c = absurd (not-suc-le-zero h)
scaled_ranges (suc F) h w c = ranges_suc F w c

-- so neither part is above one in size
pub scaled_parts : {U : ℤ} {p : 𝔾} → Scaled U p → Parts p U
scaled_parts {U} {p} h = record {
  re = record {
    lo = lin (U ∷ p.re ∷ []) (h.half & h.below & none) (search reify depth 20) tt;
    hi = lin (U ∷ p.re ∷ []) (h.below & none) (search reify depth 20) tt;
  };
  im = record {
    lo = lin (U ∷ p.re ∷ p.im ∷ []) (h.below & h.lo & none) (search reify depth 20) tt;
    hi = lin (U ∷ p.re ∷ p.im ∷ []) (h.below & h.hi & none) (search reify depth 20) tt;
  };
}
