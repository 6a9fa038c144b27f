-- The error of EXP outside the rectangle (02, E5), for both parts of the exponent at most 8 in size and T from 80 on: with s₁ the start times
-- the factor, A the answer of the steps and m the larger part of s₁ in size, each part of A·2^k less the start times the exponential of the
-- exponent is at most (8·m/2^N + rounding-share·N)·2^k. At every width, for every table and constants that keep their promises.
-- (Of 560 parts in 70·8, 520 are the closeness of the steps, Error, and 14 the reduction: 36·99/256, Outward.)
use mathlib.Core.Path.{◌≡◌, sym, ap, subst}
use mathlib.Core.List.{[], ◌∷◌}
use Prim.Native.Nat.{ℕ, ◌+◌, ◌^◌, ◌≤◌}
use native.Mathlib.Omega.{arith}
use lib.IntN.{ℤ, pos, ◌+ℤ◌, ◌*ℤ◌}
use Rattle.algebra.specs.Gauss.{𝔾, ιᵍ, ◌-ᵍ◌, ◌*ᵍ◌, N, two, twoᵍ}
use Rattle.algebra.specs.Order.{◌⩽◌}
use Rattle.algebra.specs.Size.{Within, Parts}
use Rattle.algebra.proofs.Gauss.{𝔾R, N-mul}
use Rattle.algebra.proofs.Reify.{ring!, reify, reifyᵍ}
use Rattle.algebra.proofs.Order.{⩽_trans, nonneg_pos, nonneg_mul, nonneg_sq, sub_nonneg}
use Rattle.algebra.proofs.Linear.{lin, ◌&◌, ◌&≡◌, none}
use Rattle.algebra.proofs.Power.{two≥1, two_mul_le}
use Rattle.algebra.proofs.Within.{N-nonneg, within_neg, within_weaken, within_ratio}
use Rattle.algebra.proofs.Parts.{parts_add, parts_scale, parts_cancel, parts_weaken, parts_within, within_parts, size_sign}
use Rattle.series.specs.Series.{D, Sᵍ, Dᶻ}
use Rattle.point.specs.Point.{gauss}
use Rattle.table_numbers.specs.Promise.{StepTable, Constants}
use Rattle.table_numbers.proofs.Promises.{StepPromise, ConstantsPromise}
use Rattle.exponential.specs.Reduction.{factor, eighths, doublings, left_over, reduced}
use Rattle.exponential.specs.Answer.{up, down, ended, miss, allowed}
use Rattle.exponential.proofs.Error.{exp_error_share}
use Rattle.exponential.proofs.Reduced.{odd, split, eighths_size, left_rectangle}
use Rattle.exponential.proofs.Outward.{outward}

-- a start is at most as long as the start times the factor
shorter : (a b c : ℤ) → pos 0 ⩽ a → c ≡ pos 1 +ℤ b *ℤ b → a ⩽ a *ℤ c
shorter a b c h p = lin (a ∷ b ∷ c ∷ []) (nonneg_mul h (nonneg_sq b) & ap (λ t. a *ℤ t) p &≡ none) (search reify depth 20) tt

module _ (F M : ℕ) (wide : 16 ≤ F) (narrow : F ≤ 48) (room : M + 8 ≤ F) (t : StepTable) (table : StepPromise F M t)
    (c : Constants) (promise : ConstantsPromise F c) (e : 𝔾) (far : Parts e (pos 8 *ℤ two F)) (s : 𝔾) where
  abbrev r : 𝔾
  r = left_over c e

  abbrev f : 𝔾
  f = factor (eighths c e)

  abbrev k : ℤ
  k = doublings c e

  -- what the steps answer
  abbrev A : ℕ → 𝔾
  A n = gauss (ended F t n (reduced c e s)).point

  module _ (m : ℤ) (given : Parts (s *ᵍ f) m) (T : ℕ) (long : 80 ≤ T) where
    abbrev s₇₀ : 𝔾
    s₇₀ = ιᵍ (pos 70) *ᵍ s

    abbrev δ : ℤ
    δ = Dᶻ (2 ^ F) T

    m≥0 : pos 0 ⩽ m
    m≥0 = size_sign given.re

    shares≥0 : pos 0 ⩽ m *ℤ (two (up k) *ℤ δ)
    shares≥0 = nonneg_mul m≥0 (nonneg_mul (nonneg_pos (2 ^ up k)) (nonneg_pos (D (2 ^ F) T)))

    long_turned : Within (s₇₀ *ᵍ f) (pos 99 *ℤ m)
    long_turned = subst (λ z. Within z (pos 99 *ℤ m)) (ring! 𝔾R (s ∷ f ∷ []) (search reifyᵍ depth 20) tt) (parts_within given)

    long_start : Within s₇₀ (pos 99 *ℤ m)
    long_start = record {
      sign = long_turned.sign;
      size = ⩽_trans (subst (λ v. N s₇₀ ⩽ v) (sym (N-mul s₇₀ f)) (shorter (N s₇₀) (odd (eighths c e)) (N f) (N-nonneg s₇₀)
          (split (eighths c e) (eighths_size F (omega arith) c promise e far)).length))
          long_turned.size;
    }

    -- what the reduction is off by, in 1/70 of the start
    abbrev off : 𝔾
    off = twoᵍ (down k) *ᵍ s₇₀ *ᵍ Sᵍ (2 ^ F) T e -ᵍ s₇₀ *ᵍ f *ᵍ twoᵍ (up k) *ᵍ Sᵍ (2 ^ F) T r

    pub reduction_off : Within (twoᵍ F *ᵍ off) (pos 3564 *ℤ m *ℤ two (up k) *ℤ δ)
    reduction_off = within_weaken (outward F (omega arith) narrow c promise e far T long s₇₀ (pos 99 *ℤ m) long_start long_turned)
        (lin (m ∷ two (up k) ∷ δ ∷ []) none (search reify depth 20) tt)

    reduction_share : (n : ℕ) → n ≤ M → Within (twoᵍ n *ᵍ off) (pos 14 *ℤ m *ℤ two (up k) *ℤ δ)
    reduction_share n h = within_ratio off (two F) (two n) (two≥1 F) (nonneg_pos (2 ^ n))
        (lin (two F ∷ two n ∷ m ∷ two (up k) ∷ δ ∷ [])
        (nonneg_mul shares≥0 (sub_nonneg (two_mul_le 8 n F (omega arith))) & nonneg_mul shares≥0 (nonneg_pos (2 ^ n)) & none)
        (search reify depth 20 fits 4000) tt)
        reduction_off

    -- what a·z is off by, Z times: 2^up times what it is for the turned start and the reduced exponent, and what the reduction is
    pub with_reduction : (Z : ℤ) (a z : 𝔾) {b d l : ℤ} → Parts (ιᵍ (pos 70) *ᵍ (ιᵍ Z *ᵍ (a *ᵍ z -ᵍ s *ᵍ f *ᵍ Sᵍ (2 ^ F) T r))) b →
        Within (ιᵍ Z *ᵍ off) d → two (up k) *ℤ b +ℤ d ⩽ pos 70 *ℤ l →
        Parts (ιᵍ Z *ᵍ (twoᵍ (up k) *ᵍ a *ᵍ z -ᵍ twoᵍ (down k) *ᵍ s *ᵍ Sᵍ (2 ^ F) T e)) l
    with_reduction Z a z {l} steps reduction few = parts_cancel (pos 70) (record { le = tt }) (subst (λ y. Parts y (pos 70 *ℤ l))
        (ring! 𝔾R (twoᵍ (up k) ∷ twoᵍ (down k) ∷ ιᵍ Z ∷ z ∷ s ∷ f ∷ a ∷ Sᵍ (2 ^ F) T r ∷ Sᵍ (2 ^ F) T e ∷ [])
        (search reifyᵍ depth 20 fits 4000) tt)
        (parts_weaken (parts_add (parts_scale (two (up k)) (nonneg_pos (2 ^ up k)) steps) (within_parts (within_neg reduction))) few))

    -- THE ERROR
    pub far_error : (n : ℕ) → 1 ≤ n → n ≤ M → n ≤ 40 → Parts (twoᵍ n *ᵍ miss F T k e s (A n)) (allowed F n T k m)
    far_error n h g l = with_reduction (two n) (A n) (ιᵍ δ)
        (exp_error_share F M wide room t table r (left_rectangle F (omega arith) c promise e) (s *ᵍ f) m given T (omega arith) n h g l)
        (reduction_share n g)
        (lin (m ∷ pos n ∷ two n ∷ two (up k) ∷ δ ∷ []) (shares≥0 & none) (search reify depth 20 fits 4000) tt)
