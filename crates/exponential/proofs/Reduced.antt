-- What the reduction gives (02, E5), over any width F with constants that keep their promise (table_numbers, Promises): p and k are small,
-- the factor is (1 + b·i)·i^a with p = 2·a + b, and the reduced exponent lies within the rectangle.
use mathlib.Core.Path.{◌≡◌, ap, subst}
use mathlib.Core.List.{List, [], ◌∷◌}
use mathlib.Core.Bool.{Bool}
use mathlib.Core.Logic.{◌⊎◌, inl, inr, ⊎_elim}
use Prim.Native.Nat.{ℕ, zero, suc, ◌^◌, ◌-◌, ◌≤◌, ◌<◌}
use lib.Dec.{T, lit<}
use lib.IntN.{ℤ, pos, negsuc, nat_abs, ◌+ℤ◌, ◌-ℤ◌, ◌*ℤ◌}
use lib.ListN.{get_or}
use lib.Signed.{shr_z}
use Rattle.algebra.specs.Gauss.{𝔾, gi, ιᵍ, iᵍ, negᵍ, ◌*ᵍ◌, ◌^ᵍ◌, N, two}
use Rattle.algebra.specs.Order.{◌⩽◌}
use Rattle.algebra.specs.Rounding.{nearest}
use Rattle.algebra.specs.Size.{Within, Size, Parts}
use Rattle.algebra.proofs.Test.{all}
use Rattle.algebra.proofs.Range.{les, Les, les_say, all_from}
use Rattle.algebra.proofs.Integer.{ℤR}
use Rattle.algebra.proofs.Gauss.{gi_path}
use Rattle.algebra.proofs.Reify.{ring!, reify}
use Rattle.algebra.proofs.Order.{⩽_antisym, nonneg_pos, nonneg_mul, nonneg_sq, sub_nonneg, le_or_gt, pos_inj_le}
use Rattle.algebra.proofs.Linear.{lin, ◌&◌, ◌&≡◌, none}
use Rattle.algebra.proofs.Power.{two≥1, two_whole}
use Rattle.algebra.proofs.Floor.{floor_lo, floor_hi}
use Rattle.algebra.proofs.Parts.{size_neg, size_sq, size_off, size_multiple}
use Rattle.algebra.proofs.Within.{within_ratio}
use Rattle.series.specs.Series.{D, Sᵍ, Dᶻ}
use Rattle.series.proofs.Laws.{laws_far}
use Rattle.point.specs.Digit.{IsDigit, t-, t0, t+}
use Rattle.point.specs.Point.{nought}
use Rattle.table_numbers.specs.Promise.{Constants}
use Rattle.table_numbers.proofs.Promises.{ConstantsPromise}
use Rattle.exponential.specs.Reduction.{modulo, eight, factor, eighths, turned_re, doublings, left_over}
use Rattle.exponential.proofs.Convergence.{Rectangle}

-- ---- p = 2·a + b, b being 1 for odd p and else 0
abbrev pub halved : ℤ → ℤ
halved p = shr_z p 2

abbrev pub odd : ℤ → ℤ
odd p = modulo p 2

module _ (p : ℤ) where
  pub odd_lo : pos 0 ⩽ odd p
  odd_lo = lin (p ∷ shr_z p 2 ∷ []) (floor_lo 2 (lit< tt) p & none) (search reify depth 20) tt

  pub odd_hi : odd p ⩽ pos 1
  odd_hi = lin (p ∷ shr_z p 2 ∷ []) (floor_hi 2 (lit< tt) p & none) (search reify depth 20) tt

  pub odd_is : (odd p ≡ pos 0) ⊎ (odd p ≡ pos 1)
  odd_is = ⊎_elim (λ h. inl (⩽_antisym h odd_lo)) (λ h. inr (⩽_antisym odd_hi h)) (le_or_gt (odd p) (pos 0))

  pub halved_size : Size p (pos 10) → Size (halved p) (pos 5)
  halved_size h = record {
    lo = lin (p ∷ shr_z p 2 ∷ []) (floor_hi 2 (lit< tt) p & h.lo & none) (search reify depth 20) tt;
    hi = lin (p ∷ shr_z p 2 ∷ []) (floor_lo 2 (lit< tt) p & h.hi & none) (search reify depth 20) tt;
  }

-- ---- the factor: a digit
pub eight_digit : (i : ℕ) → IsDigit (get_or eight i nought)
eight_digit zero = record { x = t+; y = t0 }
eight_digit (suc zero) = record { x = t+; y = t+ }
eight_digit (suc (suc zero)) = record { x = t0; y = t+ }
eight_digit (suc (suc (suc zero))) = record { x = t-; y = t+ }
eight_digit (suc (suc (suc (suc zero)))) = record { x = t-; y = t0 }
eight_digit (suc (suc (suc (suc (suc zero))))) = record { x = t-; y = t- }
eight_digit (suc (suc (suc (suc (suc (suc zero)))))) = record { x = t0; y = t- }
eight_digit (suc (suc (suc (suc (suc (suc (suc zero))))))) = record { x = t+; y = t- }
eight_digit (suc (suc (suc (suc (suc (suc (suc (suc i)))))))) = record { x = t0; y = t0 }

pub factor_digit : (p : ℤ) → IsDigit (factor p)
unfolding factor
factor_digit p = eight_digit (nat_abs (modulo p 8))

-- and it is (1 + b·i)·i^a: one computed test
unfoldable pub quarter_turns : ℤ → 𝔾
quarter_turns (pos n) = iᵍ ^ᵍ n
quarter_turns (negsuc n) = negᵍ iᵍ ^ᵍ suc n

abbrev split_facts : ℤ → List (ℤ × ℤ)
split_facts p =
    let f = factor p in
    let o = gi (pos 1) (odd p) in
    let g = o *ᵍ quarter_turns (halved p) in
    (f.re, g.re) ∷ (g.re, f.re) ∷ (f.im, g.im) ∷ (g.im, f.im) ∷ (N f, N o) ∷ (N o, N f) ∷ []

split_test : ℤ → Bool
split_test p = les (split_facts p)

split_all : T (all 21 (λ i. split_test (negsuc 9 +ℤ pos i)))
unfolding split_test factor quarter_turns ◌^ᵍ◌ ◌*ᵍ◌ negᵍ ιᵍ
split_all = tt

pub record Split (p : ℤ) : Type 0 where
  pub is : factor p ≡ gi (pos 1) (odd p) *ᵍ quarter_turns (halved p)
  pub length : N (factor p) ≡ N (gi (pos 1) (odd p))

pub split : (p : ℤ) → Size p (pos 10) → Split p
unfolding split_test
split p h = said (les_say (split_facts p)
    (all_from (negsuc 9) 21 split_test split_all p h.lo (lin (p ∷ []) (h.hi & none) (search reify depth 20) tt)))
  where
    said : Les (split_facts p) → Split p
    said (a, (b, (c, (d, (e, (f, _)))))) = record { is = gi_path (⩽_antisym a b) (⩽_antisym c d); length = ⩽_antisym e f }

-- what is left of a nearest multiple
remains : (m : ℕ) → 0 < m → (z : ℤ) → Size (pos 2 *ℤ (z -ℤ nearest z m *ℤ pos m)) (pos m)
remains m h z = subst (λ t. Size t (pos m)) (ring! ℤR (pos m ∷ z ∷ nearest z m ∷ []) (search reify depth 20) tt) (size_neg (size_off m h z))

module _ (F : ℕ) (wide : 6 ≤ F) (k : Constants) (promise : ConstantsPromise F k) (e : 𝔾) where
  abbrev U : ℤ
  U = two F

  abbrev Q : ℤ
  Q = pos k.quarter_pi

  abbrev H : ℤ
  H = pos k.ln_2

  abbrev R : ℤ
  R = pos k.half_ln_2

  abbrev r : 𝔾
  r = left_over k e

  Q>0 : 0 < k.quarter_pi
  Q>0 = pos_inj_le (lin (Q ∷ U ∷ []) (promise.quarter_pi_low & two≥1 F & none) (search reify depth 20) tt)

  H>0 : 0 < k.ln_2
  H>0 = pos_inj_le (lin (H ∷ U ∷ []) (promise.ln_2_low & two≥1 F & none) (search reify depth 20) tt)

  pub left_re : Size (pos 2 *ℤ r.re) H
  unfolding left_over doublings
  left_re = remains k.ln_2 H>0 (turned_re k e)

  pub left_im : Size (pos 2 *ℤ r.im) Q
  unfolding left_over eighths
  left_im = remains k.quarter_pi Q>0 e.im

  -- inside the rectangle: |ey| is at most Q/2 and |ex| at most H/2
  pub left_rectangle : Rectangle F r
  left_rectangle = record {
    re_lo = lin (H ∷ U ∷ r.re ∷ []) (left_re.lo & promise.ln_2_high & two≥1 F & none) (search reify depth 20) tt;
    re_hi = lin (H ∷ U ∷ r.re ∷ []) (left_re.hi & promise.ln_2_high & two≥1 F & none) (search reify depth 20) tt;
    im_lo = lin (Q ∷ U ∷ r.im ∷ []) (left_im.lo & promise.quarter_pi_high & two≥1 F & none) (search reify depth 20) tt;
    im_hi = lin (Q ∷ U ∷ r.im ∷ []) (left_im.hi & promise.quarter_pi_high & two≥1 F & none) (search reify depth 20) tt;
  }

  -- the exponential of what is left is at most 7/4 long: r = 34/64, and (2 + r)/(2 − r) = 162/94
  pub left_exp : (n : ℕ) → 1 ≤ n → Within (ιᵍ (pos 4) *ᵍ Sᵍ (2 ^ F) n r) (pos 7 *ℤ Dᶻ (2 ^ F) n)
  left_exp n h = within_ratio (Sᵍ (2 ^ F) n r) (pos 2 *ℤ U -ℤ pos 34 *ℤ u) (pos 4)
      (lin (U ∷ u ∷ []) (u≥1 & unit &≡ none) (search reify depth 20) tt) (nonneg_pos 4)
      (lin (U ∷ u ∷ Dᶻ (2 ^ F) n ∷ [])
      (nonneg_mul (nonneg_pos (2 ^ (F - 6))) (nonneg_pos (D (2 ^ F) n)) & ap (λ v. v *ℤ Dᶻ (2 ^ F) n) unit &≡ none)
      (search reify depth 20) tt)
      ((laws_far F).size short (lin (U ∷ u ∷ []) (u≥1 & unit &≡ none) (search reify depth 20) tt) n h)
    where
      u : ℤ
      u = two (F - 6)

      u≥1 : pos 1 ⩽ u
      u≥1 = two≥1 (F - 6)

      unit : pos 64 *ℤ u ≡ U
      unit = two_whole 6 F wide

      -- 4·34² ≥ (0.7² + 0.79²)·64²
      half_squares : (x y a b v : ℤ) → pos 4 *ℤ (x *ℤ x) ⩽ a *ℤ a → pos 4 *ℤ (y *ℤ y) ⩽ b *ℤ b → pos 0 ⩽ a → pos 0 ⩽ b →
          pos 100 *ℤ a ⩽ pos 4480 *ℤ v → pos 100 *ℤ b ⩽ pos 5056 *ℤ v → pos 0 ⩽ v →
          x *ℤ x +ℤ y *ℤ y ⩽ pos 34 *ℤ v *ℤ (pos 34 *ℤ v)
      half_squares x y a b v h₁ h₂ a≥0 b≥0 h₃ h₄ v≥0 = lin (x ∷ y ∷ a ∷ b ∷ v ∷ [])
          (h₁ & h₂ & nonneg_mul (sub_nonneg h₃) a≥0 & nonneg_mul (sub_nonneg h₃) v≥0 & nonneg_mul (sub_nonneg h₄) b≥0
          & nonneg_mul (sub_nonneg h₄) v≥0 & nonneg_sq v & none) (search reify depth 20 fits 4000) tt

      short : Within r (pos 34 *ℤ u)
      short = record {
        sign = nonneg_mul (nonneg_pos 34) (nonneg_pos (2 ^ (F - 6)));
        size = half_squares r.re r.im H Q u
            (lin (r.re ∷ H ∷ []) (size_sq left_re & none) (search reify depth 20) tt)
            (lin (r.im ∷ Q ∷ []) (size_sq left_im & none) (search reify depth 20) tt)
            (nonneg_pos k.ln_2) (nonneg_pos k.quarter_pi)
            (lin (H ∷ U ∷ u ∷ []) (promise.ln_2_high & unit &≡ none) (search reify depth 20) tt)
            (lin (Q ∷ U ∷ u ∷ []) (promise.quarter_pi_high & unit &≡ none) (search reify depth 20) tt)
            (nonneg_pos (2 ^ (F - 6)));
      }

  -- ---- for both parts at most 8 in size
  module _ (far : Parts e (pos 8 *ℤ U)) where
    pub eighths_size : Size (eighths k e) (pos 10)
    unfolding eighths
    eighths_size = size_multiple k.quarter_pi 10 Q>0 e.im (pos 8 *ℤ U) far.im
        (lin (Q ∷ U ∷ []) (promise.quarter_pi_low & two≥1 F & none) (search reify depth 20) tt)

    turned_size : Size (turned_re k e) (pos 8 *ℤ U +ℤ R)
    unfolding turned_re
    turned_size = record {
      lo = lin (e.re ∷ U ∷ R ∷ p ∷ halved p ∷ []) (far.re.lo & nonneg_mul (nonneg_pos k.half_ln_2) (sub_nonneg (odd_hi p)) & none)
          (search reify depth 20) tt;
      hi = lin (e.re ∷ U ∷ R ∷ p ∷ halved p ∷ [])
          (far.re.hi & nonneg_mul (nonneg_pos k.half_ln_2) (odd_lo p) & nonneg_pos k.half_ln_2 & none) (search reify depth 20) tt;
    }
      where
        p : ℤ
        p = eighths k e

    pub doublings_size : Size (doublings k e) (pos 12)
    unfolding doublings
    doublings_size = size_multiple k.ln_2 12 H>0 (turned_re k e) (pos 8 *ℤ U +ℤ R) turned_size
        (lin (H ∷ R ∷ U ∷ []) (promise.ln_2_low & promise.half_ln_2_high & two≥1 F & none) (search reify depth 20) tt)
