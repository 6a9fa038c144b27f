-- What the steps are given, inside the rectangle and outside: an exponent in the rectangle, a start of parts at most twice the given one's,
-- and k from −12 to 12. Over any width F with constants that keep their promise.
use mathlib.Core.Path.{◌≡◌, refl, subst}
use mathlib.Core.Bool.{Bool, true, false, cond}
use mathlib.Core.List.{[], ◌∷◌}
use Prim.Native.Nat.{ℕ, ◌+◌, ◌-◌, ◌≤◌}
use native.Mathlib.Omega.{arith}
use lib.IntN.{ℤ, pos, neg_ℤ, ◌+ℤ◌, ◌*ℤ◌}
use Rattle.algebra.specs.Gauss.{𝔾, ◌*ᵍ◌, two}
use Rattle.algebra.specs.Size.{Size, Parts}
use Rattle.algebra.proofs.Gauss.{g_mul_comm}
use Rattle.algebra.proofs.Reify.{reify}
use Rattle.algebra.proofs.Linear.{lin, ◌&◌, ◌&≡◌, none}
use Rattle.algebra.proofs.Power.{two≥1, two_mono, two_mul, two_mul_le, two_whole}
use Rattle.algebra.proofs.Parts.{parts_weaken, parts_digit}
use Rattle.word.specs.Compare.{between}
use Rattle.word.proofs.Compare.{is_between}
use Rattle.point.specs.Point.{gauss}
use Rattle.point.specs.Limits.{in_box, in_parts}
use Rattle.point.proofs.Digits.{digit_parts}
use Rattle.point.proofs.InLimits.{box_says, parts_say}
use Rattle.table_numbers.specs.Promise.{Constants}
use Rattle.table_numbers.proofs.Promises.{ConstantsPromise}
use Rattle.exponential.specs.declared.reduction.Reduced.{Reduced}
use Rattle.exponential.specs.Reduction.{in_rectangle, in_reach, factor, eighths, reduced, unreduced, reduction}
use Rattle.exponential.proofs.Convergence.{Rectangle}
use Rattle.exponential.proofs.Reduced.{factor_digit, doublings_size, left_rectangle}

-- ---- what the tests of the exponent say
pub rectangle_says : (F : ℕ) (e : 𝔾) → 6 ≤ F → in_rectangle F e ≡ true → Rectangle F e
unfolding in_rectangle
rectangle_says F e wide t =
    let h = box_says t in
    record {
      re_lo = lin (two F ∷ two (F - 6) ∷ e.re ∷ []) (two_whole 6 F wide &≡ h.re_lo & none) (search reify depth 20) tt;
      re_hi = lin (two F ∷ two (F - 6) ∷ e.re ∷ []) (two_whole 6 F wide &≡ h.re_hi & none) (search reify depth 20) tt;
      im_lo = lin (two F ∷ two (F - 6) ∷ e.im ∷ []) (two_whole 6 F wide &≡ h.im_lo & none) (search reify depth 20) tt;
      im_hi = lin (two F ∷ two (F - 6) ∷ e.im ∷ []) (two_whole 6 F wide &≡ h.im_hi & none) (search reify depth 20) tt;
    }

pub reach_says : (F : ℕ) (e : 𝔾) → in_reach F e ≡ true → Parts e (pos 8 *ℤ two F)
unfolding in_reach
reach_says F e t =
    let h = box_says t in
    let eight : two F *ℤ pos 8 ≡ two (F + 3) = two_mul F 3 in
    record {
      re = record {
        lo = lin (two F ∷ two (F + 3) ∷ e.re ∷ []) (eight &≡ h.re_lo & none) (search reify depth 20) tt;
        hi = lin (two F ∷ two (F + 3) ∷ e.re ∷ []) (eight &≡ h.re_hi & none) (search reify depth 20) tt;
      };
      im = record {
        lo = lin (two F ∷ two (F + 3) ∷ e.im ∷ []) (eight &≡ h.im_lo & none) (search reify depth 20) tt;
        hi = lin (two F ∷ two (F + 3) ∷ e.im ∷ []) (eight &≡ h.im_hi & none) (search reify depth 20) tt;
      };
    }

-- the one lies within the other
pub rectangle_near : {F : ℕ} {e : 𝔾} → Rectangle F e → Parts e (pos 8 *ℤ two F)
rectangle_near {F} {e} h = record {
  re = record {
    lo = lin (e.re ∷ two F ∷ []) (h.re_lo & two≥1 F & none) (search reify depth 20) tt;
    hi = lin (e.re ∷ two F ∷ []) (h.re_hi & two≥1 F & none) (search reify depth 20) tt;
  };
  im = record {
    lo = lin (e.im ∷ two F ∷ []) (h.im_lo & two≥1 F & none) (search reify depth 20) tt;
    hi = lin (e.im ∷ two F ∷ []) (h.im_hi & two≥1 F & none) (search reify depth 20) tt;
  };
}

pub rectangle_reaches : (F : ℕ) (e : 𝔾) → 6 ≤ F → in_rectangle F e ≡ true → in_reach F e ≡ true
unfolding in_reach in_box
rectangle_reaches F e wide t = rw (part h.re, part h.im)
  where
    h : Parts e (pos 8 *ℤ two F)
    h = rectangle_near (rectangle_says F e wide t)

    eight : two F *ℤ pos 8 ≡ two (F + 3)
    eight = two_mul F 3

    part : {x : ℤ} → Size x (pos 8 *ℤ two F) → between (neg_ℤ (two (F + 3))) (two (F + 3)) x ≡ true
    part {x} s = is_between
        (lin (x ∷ two F ∷ two (F + 3) ∷ []) (s.lo & eight &≡ none) (search reify depth 20) tt)
        (lin (x ∷ two F ∷ two (F + 3) ∷ []) (s.hi & eight &≡ none) (search reify depth 20) tt)

-- ---- what holds of the reduction, inside the rectangle and outside
pub by_rectangle : (P : Bool → Reduced → Type 0) (F : ℕ) (c : Constants) (e s : 𝔾) →
    (in_rectangle F e ≡ true → P true (unreduced e s)) → (in_rectangle F e ≡ false → P false (reduced c e s)) →
    P (in_rectangle F e) (reduction F c e s)
unfolding reduction
by_rectangle P F c e s inside outside = go (in_rectangle F e) refl
  where
    go : (b : Bool) → in_rectangle F e ≡ b → P b (cond b (unreduced e s) (reduced c e s))
    go true h = inside h
    go false h = outside h

module _ (F : ℕ) (wide : 6 ≤ F) (c : Constants) (promise : ConstantsPromise F c) (e s : 𝔾) where
  pub given_rectangle : Rectangle F (gauss (reduction F c e s).exponent)
  given_rectangle = by_rectangle (λ _ r. Rectangle F (gauss r.exponent)) F c e s
      (λ h. rectangle_says F e wide h) (λ _. left_rectangle F wide c promise e)

  -- the factor is a digit
  turned_start : {b : ℤ} → Parts s b → Parts (s *ᵍ factor (eighths c e)) (pos 2 *ℤ b)
  turned_start {b} h = parts_weaken
      (subst (λ z. Parts z (b +ℤ b)) (g_mul_comm (factor (eighths c e)) s) (parts_digit (digit_parts (factor_digit (eighths c e))) h))
      (lin (b ∷ []) none (search reify depth 20) tt)

  pub given_start : in_parts F s ≡ true → Parts (gauss (reduction F c e s).start) (two (F + 11))
  given_start h = by_rectangle (λ _ r. Parts (gauss r.start) (two (F + 11))) F c e s
      (λ _. parts_weaken (parts_say F s h) (two_mono (F + 10) (F + 11) (omega arith)))
      (λ _. parts_weaken (turned_start (parts_say F s h)) (two_mul_le 1 (F + 10) (F + 11) (omega arith)))

  pub given_exponent : in_reach F e ≡ true → Size (reduction F c e s).binary_exponent (pos 12)
  given_exponent reach = by_rectangle (λ _ r. Size r.binary_exponent (pos 12)) F c e s
      (λ _. record { lo = record { le = tt }; hi = record { le = tt } })
      (λ _. doublings_size F wide c promise e (reach_says F e reach))
