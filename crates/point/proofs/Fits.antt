-- Whatever a method makes fits a word, from the parts' sizes (01, Points and units: "on parts at most 2^61 in size, where none overflows").
use mathlib.Core.Path.{◌≡◌, ◌∙◌, ap}
use mathlib.Core.List.{List, [], ◌∷◌}
use Prim.Native.Nat.{ℕ, ◌+◌, ◌*◌, ◌-◌, ◌/◌, ◌^◌, ◌≤◌, ◌<◌}
use native.Mathlib.Omega.{arith}
use lib.IntN.{ℤ, pos, ◌+ℤ◌, ◌-ℤ◌, ◌*ℤ◌}
use lib.Signed.{shr_z}
use mir.Syntax.{w64}
use mir.Val.{SFits, to_z, of_z}
use Rattle.algebra.specs.Gauss.{𝔾, two}
use Rattle.algebra.specs.Order.{◌⩽◌}
use Rattle.algebra.specs.Size.{Size, Parts}
use Rattle.algebra.proofs.Reify.{reify}
use Rattle.algebra.proofs.Order.{nonneg_mul, nonneg_pos, sub_nonneg, pos_mono, pos_inj_le}
use Rattle.algebra.proofs.Linear.{lin, ◌&◌, ◌&≡◌, none}
use Rattle.algebra.proofs.Inequality.{below_next}
use Rattle.algebra.proofs.Power.{two_pos, two≥1, two_mul, two_mono}
use Rattle.algebra.proofs.Floor.{floor_unique}
use Rattle.algebra.proofs.Nearest.{nearest_half}
use Rattle.algebra.proofs.Parts.{size_nat, size_add, size_digit, size_neg}
use Rattle.word.proofs.Fits.{back, zero_sub, sfits_size}
use Rattle.word.proofs.Shift.{sfits_shift}
use Rattle.point.specs.Digit.{IsDigit}
use Rattle.point.specs.Step.{quotient}
use Rattle.point.proofs.Digits.{trit_size}
use Rattle.point.proofs.Rounding.{quotient_size}

-- ---- a point's parts, and their negations
pub record PointFits (z : 𝔾) : Type 0 where
  pub x : SFits w64 z.re
  pub y : SFits w64 z.im
  pub minus_x : SFits w64 (pos 0 -ℤ z.re)
  pub minus_y : SFits w64 (pos 0 -ℤ z.im)

pub point_fits : {z : 𝔾} → Parts z (two 61) → PointFits z
point_fits {z} h = record {
  x = sfits_size h.re tt;
  y = sfits_size h.im tt;
  minus_x = rw (zero_sub z.re) (sfits_size (size_neg h.re) tt);
  minus_y = rw (zero_sub z.im) (sfits_size (size_neg h.im) tt);
}

-- ---- a quotient: v, half of 2^n as the code makes it, and their sum
abbrev pub half_made : ℕ → ℤ
half_made n = to_z w64 (of_z w64 (shr_z (two 62) (2 ^ (63 - n))))

pub record QuotientFits (v : ℤ) (n : ℕ) : Type 0 where
  pub given : SFits w64 v
  pub half : half_made n ≡ pos (2 ^ n / 2)
  pub raised : SFits w64 (v +ℤ pos (2 ^ n / 2))

pub quotient_fits : {v : ℤ} (n : ℕ) → Size v (two 62) → n < 63 → QuotientFits v n
quotient_fits n s h = record {
  given = sfits_size s tt;
  half = ap (λ u. to_z w64 (of_z w64 u)) shifted ∙ back (sfits_size small tt);
  raised = sfits_size (size_add s small) tt;
}
  where
    ρ : List ℤ
    ρ = two (63 - n) ∷ two n ∷ pos (2 ^ n / 2) ∷ []

    few : 2 ^ n ≤ 2 ^ 62
    few = pos_inj_le (two_mono n 62 (omega arith))

    small : Size (pos (2 ^ n / 2)) (two 61)
    small = size_nat (omega (arith, few))

    -- 2^(63 − n) · 2^n = 2^63, and half of 2^n, twice, is 2^n or one less
    whole : two (63 - n) *ℤ two n ≡ two 63
    whole = two_mul (63 - n) n ∙ ap two same
      where
        same : 63 - n + n ≡ 63
        same = omega arith

    m≥0 : pos 0 ⩽ two (63 - n)
    m≥0 = nonneg_pos (2 ^ (63 - n))

    lo : 2 * (2 ^ n / 2) ≤ 2 ^ n
    lo = omega arith

    hi : 2 ^ n ≤ 2 * (2 ^ n / 2) + 1
    hi = omega arith

    shifted : shr_z (two 62) (2 ^ (63 - n)) ≡ pos (2 ^ n / 2)
    shifted = floor_unique (2 ^ (63 - n)) (two_pos (63 - n)) (two 62) (pos (2 ^ n / 2))
        (below_next (pos 2) (record { le = tt }) (lin ρ (whole &≡ nonneg_mul m≥0 (sub_nonneg (pos_mono lo)) & none) (search reify depth 20) tt))
        (below_next (pos 2) (record { le = tt }) (lin ρ (whole &≡ nonneg_mul m≥0 (sub_nonneg (pos_mono hi)) & two≥1 (63 - n) & none)
        (search reify depth 20) tt))

-- the code's word is the quotient
abbrev pub quotient_made : ℤ → ℕ → ℤ
quotient_made v n = to_z w64 (of_z w64 (shr_z (to_z w64 (of_z w64 (to_z w64 (of_z w64 v) +ℤ half_made n))) (2 ^ n)))

pub quotient_is : {v : ℤ} {n : ℕ} → QuotientFits v n → quotient_made v n ≡ quotient v n
unfolding quotient
quotient_is {v} {n} f = simp (back, f.half, f.given, f.raised)
    (back (sfits_shift (2 ^ n) f.raised) ∙ nearest_half (2 ^ n) (two_pos n) v)

-- ---- a step
pub record StepFits (n : ℕ) (d z : 𝔾) : Type 0 where
  pub x : SFits w64 z.re
  pub y : SFits w64 z.im
  pub dx : SFits w64 d.re
  pub dy : SFits w64 d.im
  pub dx_x : SFits w64 (d.re *ℤ z.re)
  pub dy_y : SFits w64 (d.im *ℤ z.im)
  pub dx_y : SFits w64 (d.re *ℤ z.im)
  pub dy_x : SFits w64 (d.im *ℤ z.re)
  pub re : SFits w64 (d.re *ℤ z.re -ℤ d.im *ℤ z.im)
  pub im : SFits w64 (d.re *ℤ z.im +ℤ d.im *ℤ z.re)
  pub size_re : Size (d.re *ℤ z.re -ℤ d.im *ℤ z.im) (two 62)
  pub size_im : Size (d.re *ℤ z.im +ℤ d.im *ℤ z.re) (two 62)
  pub quotient_re : SFits w64 (quotient (d.re *ℤ z.re -ℤ d.im *ℤ z.im) n)
  pub quotient_im : SFits w64 (quotient (d.re *ℤ z.im +ℤ d.im *ℤ z.re) n)
  pub new_x : SFits w64 (z.re +ℤ quotient (d.re *ℤ z.re -ℤ d.im *ℤ z.im) n)
  pub new_y : SFits w64 (z.im +ℤ quotient (d.re *ℤ z.im +ℤ d.im *ℤ z.re) n)

pub step_fits : (n : ℕ) {d z : 𝔾} → IsDigit d → Parts z (two 61) → StepFits n d z
step_fits n t h =
    let dx = trit_size t.x in
    let dy = trit_size t.y in
    let re = size_add (size_digit dx h.re) (size_neg (size_digit dy h.im)) in
    let im = size_add (size_digit dx h.im) (size_digit dy h.re) in
    record {
      x = sfits_size h.re tt;
      y = sfits_size h.im tt;
      dx = sfits_size dx tt;
      dy = sfits_size dy tt;
      dx_x = sfits_size (size_digit dx h.re) tt;
      dy_y = sfits_size (size_digit dy h.im) tt;
      dx_y = sfits_size (size_digit dx h.im) tt;
      dy_x = sfits_size (size_digit dy h.re) tt;
      re = sfits_size re tt;
      im = sfits_size im tt;
      size_re = re;
      size_im = im;
      quotient_re = sfits_size (quotient_size n re) tt;
      quotient_im = sfits_size (quotient_size n im) tt;
      new_x = sfits_size (size_add h.re (quotient_size n re)) tt;
      new_y = sfits_size (size_add h.im (quotient_size n im)) tt;
    }
