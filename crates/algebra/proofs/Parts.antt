-- Sizes ("size" of a part is its absolute value, 01): a number at most b in size, a complex number with each part at most b in size, and
-- how that goes with lengths: a part is at most the length, and the length at most 99/70 of the larger part (2·70² ≤ 99²).
use mathlib.Core.Path.{◌≡◌, sym, ap, subst}
use mathlib.Core.List.{List, [], ◌∷◌}
use mathlib.Core.Logic.{⊎_elim}
use Prim.Native.Nat.{ℕ, zero, suc, ◌+◌, ◌-◌, ◌≤◌, ◌<◌}
use native.Mathlib.Omega.{arith}
use lib.IntN.{ℤ, pos, negsuc, ◌+ℤ◌, ◌-ℤ◌, ◌*ℤ◌, neg_ℤ, nat_abs}
use lib.Signed.{shr_z}
use Rattle.algebra.specs.Gauss.{𝔾, ιᵍ, negᵍ, ◌+ᵍ◌, ◌-ᵍ◌, ◌*ᵍ◌, N}
use Rattle.algebra.specs.Order.{◌⩽◌, ◌⋖◌}
use Rattle.algebra.specs.Size.{Within, abs, Size, Parts}
use Rattle.algebra.specs.Rounding.{nearest, floorᵍ}
use Rattle.algebra.proofs.Integer.{ℤR}
use Rattle.algebra.proofs.Gauss.{N-mul, N-scale}
use Rattle.algebra.proofs.Reify.{ring!, reify}
use Rattle.algebra.proofs.Order.{⩽_refl, ⩽_trans, nonneg_add, nonneg_mul, nonneg_pos, nonneg_sq, sub_nonneg, le_or_gt, pos_mono}
use Rattle.algebra.proofs.Linear.{lin, lin<, lin_false, ◌&◌, ◌&<◌, ◌&≡◌, none}
use Rattle.algebra.proofs.Inequality.{sq_le, le_cancel, below_next, neg_mono}
use Rattle.algebra.proofs.Within.{N-nonneg}
use Rattle.algebra.proofs.Floor.{floor_lo, floor_hi, nearest_lo, nearest_hi}

-- ---- |x|
pub abs_nonneg : (x : ℤ) → pos 0 ⩽ abs x
unfolding abs
abs_nonneg x = nonneg_pos (nat_abs x)

pub le_abs : (x : ℤ) → x ⩽ abs x
unfolding abs
le_abs (pos n) = ⩽_refl (pos n)
le_abs (negsuc n) = record { le = tt }

pub neg_abs_le : (x : ℤ) → neg_ℤ (abs x) ⩽ x
unfolding abs
neg_abs_le (pos n) = lin (pos n ∷ []) (nonneg_pos n & none) (search reify depth 20) tt
neg_abs_le (negsuc n) = ⩽_refl (negsuc n)

-- ---- one part
pub size_abs : {x b : ℤ} → Size x b → abs x ⩽ b
unfolding abs
size_abs {x = pos n} h = h.hi
size_abs {x = negsuc n} {b} h = lin (pos n ∷ b ∷ []) (h.lo & none) (search reify depth 20) tt

pub abs_size : {x b : ℤ} → abs x ⩽ b → Size x b
abs_size {x} h = record { lo = ⩽_trans (neg_mono h) (neg_abs_le x); hi = ⩽_trans (le_abs x) h }

-- strictly between −b and b
pub abs_below : {x b : ℤ} → neg_ℤ b ⋖ x → x ⋖ b → abs x ⋖ b
abs_below {x} {b} lo hi = lin< (abs x ∷ b ∷ []) (size_abs {x = x} {b = b -ℤ pos 1} inside & none) (search reify depth 20) tt
  where
    inside : Size x (b -ℤ pos 1)
    inside = record {
      lo = lin (x ∷ b ∷ []) (lo &< none) (search reify depth 20) tt;
      hi = lin (x ∷ b ∷ []) (hi &< none)
          (search reify depth 20) tt;
    }

pub below_size : {x b : ℤ} → abs x ⋖ b → Size x b
below_size {x} {b} h = abs_size (lin (abs x ∷ b ∷ []) (h &< none) (search reify depth 20) tt)

pub size_nat : {x : ℤ} {b : ℕ} → nat_abs x ≤ b → Size x (pos b)
unfolding abs
size_nat h = abs_size (pos_mono h)

pub size_sign : {x b : ℤ} → Size x b → pos 0 ⩽ b
size_sign {x} {b} h = lin (x ∷ b ∷ []) (h.lo & h.hi & none) (search reify depth 20) tt

pub size_weaken : {x b c : ℤ} → Size x b → b ⩽ c → Size x c
size_weaken h l = record { lo = ⩽_trans (neg_mono l) h.lo; hi = ⩽_trans h.hi l }

pub size_add : {x y a b : ℤ} → Size x a → Size y b → Size (x +ℤ y) (a +ℤ b)
size_add {x} {y} {a} {b} h g = record {
  lo = lin (x ∷ y ∷ a ∷ b ∷ []) (h.lo & g.lo & none) (search reify depth 20) tt;
  hi = lin (x ∷ y ∷ a ∷ b ∷ []) (h.hi & g.hi & none) (search reify depth 20) tt;
}

pub size_neg : {x b : ℤ} → Size x b → Size (neg_ℤ x) b
size_neg {x} {b} h = record {
  lo = neg_mono h.hi;
  hi = lin (x ∷ b ∷ []) (h.lo & none) (search reify depth 20) tt;
}

pub size_scale : {x b : ℤ} (c : ℤ) → pos 0 ⩽ c → Size x b → Size (c *ℤ x) (c *ℤ b)
size_scale {x} {b} c l h = record {
  lo = lin (x ∷ b ∷ c ∷ []) (nonneg_mul l (sub_nonneg h.lo) & none) (search reify depth 20) tt;
  hi = lin (x ∷ b ∷ c ∷ []) (nonneg_mul l (sub_nonneg h.hi) & none) (search reify depth 20) tt;
}

pub size_cancel : {x b : ℤ} (c : ℤ) → pos 1 ⩽ c → Size (c *ℤ x) (c *ℤ b) → Size x b
size_cancel {x} {b} c l h = record {
  lo = le_cancel c l (lin (x ∷ b ∷ c ∷ []) (h.lo & none) (search reify depth 20) tt);
  hi = le_cancel c l h.hi;
}

pub size_mul : {x y a b : ℤ} → Size x a → Size y b → Size (x *ℤ y) (a *ℤ b)
size_mul {x} {y} {a} {b} h g = record {
  lo = lin (x ∷ y ∷ a ∷ b ∷ []) (nonneg_mul (sub_nonneg h.lo) (sub_nonneg g.lo)
      & nonneg_mul (sub_nonneg h.hi) (sub_nonneg g.hi) & none) (search reify depth 20) tt;
  hi = lin (x ∷ y ∷ a ∷ b ∷ []) (nonneg_mul (sub_nonneg h.lo) (sub_nonneg g.hi)
      & nonneg_mul (sub_nonneg h.hi) (sub_nonneg g.lo) & none) (search reify depth 20) tt;
}

-- times a number that is at most 1 in size
pub size_digit : {d x b : ℤ} → Size d (pos 1) → Size x b → Size (d *ℤ x) b
size_digit {b} e h = size_weaken (size_mul e h) (lin (b ∷ []) none (search reify depth 20) tt)

-- |x|·c ≤ b from the size of c·x
pub abs_scaled : {b : ℤ} (c x : ℤ) → Size (c *ℤ x) b → abs x *ℤ c ⩽ b
unfolding abs
abs_scaled {b} c (pos n) h = lin (pos n ∷ c ∷ b ∷ []) (h.hi & none) (search reify depth 20) tt
abs_scaled {b} c (negsuc n) h = lin (pos n ∷ c ∷ b ∷ []) (h.lo & none) (search reify depth 20) tt

pub size_sq : {x b : ℤ} → Size x b → x *ℤ x ⩽ b *ℤ b
size_sq {x} {b} h = lin (x ∷ b ∷ []) (nonneg_mul (sub_nonneg h.lo) (sub_nonneg h.hi) & none) (search reify depth 20) tt

pub sq_size : {x b : ℤ} → pos 0 ⩽ b → x *ℤ x ⩽ b *ℤ b → Size x b
sq_size {x} {b} g h = record {
  lo = lin (x ∷ b ∷ []) (sq_le {a = neg_ℤ x} g (lin (x ∷ b ∷ []) (h & none) (search reify depth 20) tt) & none) (search reify depth 20) tt;
  hi = sq_le g h;
}

-- what a floor leaves
pub size_floor : (m : ℕ) → 0 < m → (x : ℤ) → Size (x -ℤ pos m *ℤ shr_z x m) (pos m)
size_floor m h x = record {
  lo = lin (x ∷ pos m ∷ shr_z x m ∷ []) (floor_lo m h x & nonneg_pos m & none) (search reify depth 20) tt;
  hi = lin (x ∷ pos m ∷ shr_z x m ∷ []) (floor_hi m h x & none) (search reify depth 20) tt;
}

-- twice what the nearest whole number is off by
pub size_off : (m : ℕ) → 0 < m → (x : ℤ) → Size (pos 2 *ℤ (pos m *ℤ nearest x m -ℤ x)) (pos m)
size_off m h x = record {
  lo = lin (x ∷ pos m ∷ nearest x m ∷ []) (nearest_hi m h x & none) (search reify depth 20) tt;
  hi = lin (x ∷ pos m ∷ nearest x m ∷ []) (nearest_lo m h x & none) (search reify depth 20) tt;
}

-- a number of at most c in size has at most n nearest multiples of m, where 2·c is below (2·n + 1)·m
pub size_multiple : (m n : ℕ) → 0 < m → (x c : ℤ) → Size x c → pos 2 *ℤ c +ℤ pos 1 ⩽ (pos 2 *ℤ pos n +ℤ pos 1) *ℤ pos m →
    Size (nearest x m) (pos n)
size_multiple m n h x c s few = record {
  lo = ⊎_elim (λ k. k) (λ k. absurd (lin_false ρ
      (nearest_hi m h x & s.lo & few & nonneg_mul (nonneg_pos m) (sub_nonneg k) & none) (search reify depth 20) tt))
      (le_or_gt (neg_ℤ (pos n)) (nearest x m));
  hi = ⊎_elim (λ k. k) (λ k. absurd (lin_false ρ
      (nearest_lo m h x & s.hi & few & nonneg_mul (nonneg_pos m) (sub_nonneg k) & none) (search reify depth 20) tt))
      (le_or_gt (nearest x m) (pos n));
}
  where
    ρ : List ℤ
    ρ = pos m ∷ pos n ∷ x ∷ c ∷ nearest x m ∷ []

-- which is no larger than what is divided
pub size_nearest : {x b : ℤ} (m : ℕ) → 0 < m → Size x b → Size (nearest x m) b
size_nearest {x} {b} m h s = record {
  lo = below_next (pos 2 *ℤ pos m) two_m (lin ρ (nearest_hi m h x & s.lo & room & pos_mono h & none) (search reify depth 20) tt);
  hi = below_next (pos 2 *ℤ pos m) two_m (lin ρ (nearest_lo m h x & s.hi & room & pos_mono h & none) (search reify depth 20) tt);
}
  where
    ρ : List ℤ
    ρ = x ∷ b ∷ pos m ∷ nearest x m ∷ []

    two_m : pos 1 ⩽ pos 2 *ℤ pos m
    two_m = lin (pos m ∷ []) (pos_mono h & none) (search reify depth 20) tt

    room : pos 0 ⩽ (pos m -ℤ pos 1) *ℤ b
    room = nonneg_mul (sub_nonneg (pos_mono h)) (size_sign s)

-- ---- both parts
pub parts_weaken : {z : 𝔾} {b c : ℤ} → Parts z b → b ⩽ c → Parts z c
parts_weaken h l = record { re = size_weaken h.re l; im = size_weaken h.im l }

pub parts_add : {z w : 𝔾} {a b : ℤ} → Parts z a → Parts w b → Parts (z +ᵍ w) (a +ℤ b)
unfolding ◌+ᵍ◌
parts_add h g = record { re = size_add h.re g.re; im = size_add h.im g.im }

pub parts_neg : {z : 𝔾} {b : ℤ} → Parts z b → Parts (negᵍ z) b
unfolding negᵍ
parts_neg h = record { re = size_neg h.re; im = size_neg h.im }

-- the parts of c · z, c a real number
pub scaled_re : (c : ℤ) (z : 𝔾) → (ιᵍ c *ᵍ z).re ≡ c *ℤ z.re
unfolding ιᵍ ◌*ᵍ◌
scaled_re c z = ring! ℤR (c ∷ z.re ∷ z.im ∷ []) (search reify depth 20) tt

pub scaled_im : (c : ℤ) (z : 𝔾) → (ιᵍ c *ᵍ z).im ≡ c *ℤ z.im
unfolding ιᵍ ◌*ᵍ◌
scaled_im c z = ring! ℤR (c ∷ z.re ∷ z.im ∷ []) (search reify depth 20) tt

pub parts_scale : {z : 𝔾} {b : ℤ} (c : ℤ) → pos 0 ⩽ c → Parts z b → Parts (ιᵍ c *ᵍ z) (c *ℤ b)
parts_scale {z} {b} c l h = record {
  re = subst (λ t. Size t (c *ℤ b)) (sym (scaled_re c z)) (size_scale c l h.re);
  im = subst (λ t. Size t (c *ℤ b)) (sym (scaled_im c z)) (size_scale c l h.im);
}

pub parts_cancel : {z : 𝔾} {b : ℤ} (c : ℤ) → pos 1 ⩽ c → Parts (ιᵍ c *ᵍ z) (c *ℤ b) → Parts z b
parts_cancel {z} {b} c l h = record {
  re = size_cancel c l (subst (λ t. Size t (c *ℤ b)) (scaled_re c z) h.re);
  im = size_cancel c l (subst (λ t. Size t (c *ℤ b)) (scaled_im c z) h.im);
}

-- each part of c · z at most b in size, as |part|·c ≤ b
pub parts_abs : {b : ℤ} (c : ℤ) (z : 𝔾) → Parts (ιᵍ c *ᵍ z) b → (abs z.re *ℤ c ⩽ b) × (abs z.im *ℤ c ⩽ b)
parts_abs {b} c z h = (
  abs_scaled c z.re (subst (λ t. Size t b) (scaled_re c z) h.re),
  abs_scaled c z.im (subst (λ t. Size t b) (scaled_im c z) h.im),
)

-- ---- from z on in steps of w
pub moved_re : (z w : 𝔾) (i : ℤ) → (z +ᵍ ιᵍ i *ᵍ w).re ≡ z.re +ℤ i *ℤ w.re
unfolding ◌+ᵍ◌
moved_re z w i = ap (λ t. z.re +ℤ t) (scaled_re i w)

pub moved_im : (z w : 𝔾) (i : ℤ) → (z +ᵍ ιᵍ i *ᵍ w).im ≡ z.im +ℤ i *ℤ w.im
unfolding ◌+ᵍ◌
moved_im z w i = ap (λ t. z.im +ℤ t) (scaled_im i w)

-- what lies between two numbers of at most b in size is at most b in size
size_convex : (x d b i j n : ℤ) → n ≡ i +ℤ j → pos 0 ⩽ i → pos 0 ⩽ j → pos 1 ⩽ n → Size x b → Size (x +ℤ n *ℤ d) b → Size (x +ℤ i *ℤ d) b
size_convex x d b i j n e i≥0 j≥0 n≥1 h k = record {
  lo = le_cancel n n≥1 (lin (x ∷ d ∷ b ∷ i ∷ j ∷ n ∷ [])
      (nonneg_mul j≥0 (sub_nonneg h.lo) & nonneg_mul i≥0 (sub_nonneg k.lo) & ap (λ t. t *ℤ x) e &≡ ap (λ t. t *ℤ b) e &≡ none)
      (search reify depth 20) tt);
  hi = le_cancel n n≥1 (lin (x ∷ d ∷ b ∷ i ∷ j ∷ n ∷ [])
      (nonneg_mul j≥0 (sub_nonneg h.hi) & nonneg_mul i≥0 (sub_nonneg k.hi) & ap (λ t. t *ℤ x) e &≡ ap (λ t. t *ℤ b) e &≡ none)
      (search reify depth 20) tt);
}

-- so on the way from z to n times w further each point has parts of at most b, where the ends have
pub parts_convex : (z w : 𝔾) {b : ℤ} (n : ℕ) → Parts z b → Parts (z +ᵍ ιᵍ (pos n) *ᵍ w) b → (i : ℕ) → i ≤ n → Parts (z +ᵍ ιᵍ (pos i) *ᵍ w) b
parts_convex z w {b} zero h k i l = subst (λ i. Parts (z +ᵍ ιᵍ (pos i) *ᵍ w) b) none_left k
  where
    none_left : 0 ≡ i
    none_left = omega arith
parts_convex z w {b} (suc n) h k i l = record {
  re = subst (λ t. Size t b) (sym (moved_re z w (pos i))) (size_convex z.re w.re b (pos i) (pos j) (pos (suc n)) parted
      (nonneg_pos i) (nonneg_pos j) (pos_mono (omega arith)) h.re (subst (λ t. Size t b) (moved_re z w (pos (suc n))) k.re));
  im = subst (λ t. Size t b) (sym (moved_im z w (pos i))) (size_convex z.im w.im b (pos i) (pos j) (pos (suc n)) parted
      (nonneg_pos i) (nonneg_pos j) (pos_mono (omega arith)) h.im (subst (λ t. Size t b) (moved_im z w (pos (suc n))) k.im));
}
  where
    j : ℕ
    j = suc n - i

    parted : pos (suc n) ≡ pos i +ℤ pos j
    parted = ap pos whole
      where
        whole : suc n ≡ i + (suc n - i)
        whole = omega arith

-- a digit times z
pub parts_digit : {d z : 𝔾} {b : ℤ} → Parts d (pos 1) → Parts z b → Parts (d *ᵍ z) (b +ℤ b)
unfolding ◌*ᵍ◌
parts_digit e h = record {
  re = size_add (size_digit e.re h.re) (size_neg (size_digit e.im h.im));
  im = size_add (size_digit e.re h.im) (size_digit e.im h.re);
}

-- ---- each part over m, cut by floor
pub parts_floor : (m : ℕ) → 0 < m → (z : 𝔾) → Parts (z -ᵍ ιᵍ (pos m) *ᵍ floorᵍ z m) (pos m)
unfolding floorᵍ ◌+ᵍ◌ negᵍ
parts_floor m h z = record {
  re = subst (λ t. Size (z.re -ℤ t) (pos m)) (sym (scaled_re (pos m) (floorᵍ z m))) (size_floor m h z.re);
  im = subst (λ t. Size (z.im -ℤ t) (pos m)) (sym (scaled_im (pos m) (floorᵍ z m))) (size_floor m h z.im);
}

-- ---- with lengths
pub within_parts : {z : 𝔾} {r : ℤ} → Within z r → Parts z r
within_parts {z} {r} h = record {
  re = sq_size h.sign (lin (z.re ∷ z.im ∷ r ∷ []) (h.size & nonneg_sq z.im & none) (search reify depth 20) tt);
  im = sq_size h.sign (lin (z.re ∷ z.im ∷ r ∷ []) (h.size & nonneg_sq z.re & none) (search reify depth 20) tt);
}

pub parts_within : {z : 𝔾} {b : ℤ} → Parts z b → Within (ιᵍ (pos 70) *ᵍ z) (pos 99 *ℤ b)
unfolding ιᵍ ◌*ᵍ◌
parts_within {z} {b} h = record {
  sign = lin (b ∷ []) (size_sign h.re & none) (search reify depth 20) tt;
  size = lin (z.re ∷ z.im ∷ b ∷ []) (size_sq h.re & size_sq h.im & nonneg_sq b & none) (search reify depth 20) tt;
}

-- 91/64 for √2, where the bound is a multiple of 64
pub parts_length : {z : 𝔾} (u : ℤ) → pos 0 ⩽ u → Parts z (pos 64 *ℤ u) → Within z (pos 91 *ℤ u)
parts_length {z} u g p = record {
  sign = nonneg_mul (nonneg_pos 91) g;
  size = lin (u ∷ z.re ∷ z.im ∷ []) (size_sq p.re & size_sq p.im & nonneg_sq u & none) (search reify depth 20) tt;
}

-- the sum of the parts' sizes, a whole number, for the length
abbrev pub sizes : 𝔾 → ℤ
sizes z = abs z.re +ℤ abs z.im

pub within_sizes : (z : 𝔾) → Within z (sizes z)
within_sizes z = record {
  sign = nonneg_add (abs_nonneg z.re) (abs_nonneg z.im);
  size = lin (z.re ∷ z.im ∷ abs z.re ∷ abs z.im ∷ [])
      (nonneg_mul (sub_nonneg (le_abs z.re)) (sub_nonneg (neg_abs_le z.re))
      & nonneg_mul (sub_nonneg (le_abs z.im)) (sub_nonneg (neg_abs_le z.im))
      & nonneg_mul (abs_nonneg z.re) (abs_nonneg z.im) & none) (search reify depth 20) tt;
}

-- ---- to divide by A + f, |f| ≤ r ≤ A
far_parts : (A r fx fy : ℤ) → r ⩽ A → neg_ℤ r ⩽ fx → (A -ℤ r) *ℤ (A -ℤ r) ⩽ (A +ℤ fx) *ℤ (A +ℤ fx) +ℤ fy *ℤ fy
far_parts A r fx fy h l = lin (A ∷ r ∷ fx ∷ fy ∷ [])
    (nonneg_mul (sub_nonneg l) (sub_nonneg l) & nonneg_mul (sub_nonneg h) (sub_nonneg l) & nonneg_sq fy & none)
    (search reify depth 20) tt

far : (A r : ℤ) (f : 𝔾) → r ⩽ A → Within f r → (A -ℤ r) *ℤ (A -ℤ r) ⩽ N (ιᵍ A +ᵍ f)
unfolding ιᵍ ◌+ᵍ◌
far A r f h w = lin (A ∷ r ∷ f.re ∷ f.im ∷ []) (far_parts A r f.re f.im h (within_parts w).re.lo & none)
    (search reify depth 20) tt

pub within_far : (A r : ℤ) (f y : 𝔾) (ρ : ℤ) → r ⩽ A → Within f r → Within (y *ᵍ (ιᵍ A +ᵍ f)) ρ → Within (ιᵍ (A -ℤ r) *ᵍ y) ρ
within_far A r f y ρ h w g = record {
  sign = g.sign;
  size = subst (λ t. t ⩽ ρ *ℤ ρ) (sym (N-scale (A -ℤ r) y))
      (⩽_trans (lin (A ∷ r ∷ N y ∷ N (ιᵍ A +ᵍ f) ∷ []) (nonneg_mul (N-nonneg y) (sub_nonneg (far A r f h w)) & none)
      (search reify depth 20) tt)
      (subst (λ t. t ⩽ ρ *ℤ ρ) (N-mul y (ιᵍ A +ᵍ f)) g.size));
}
