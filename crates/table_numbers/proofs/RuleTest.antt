-- A test that shows the rule of an entry: it is computed at 24 terms with a ninth to spare, which covers the terms beyond, however many.
use mathlib.Core.Path.{◌≡◌, refl, sym, ◌∙◌, ap, ap₂, subst, subst₂}
use mathlib.Core.List.{List, [], ◌∷◌}
use Prim.Native.Nat.{ℕ, zero, suc, ◌*◌, ◌^◌, ◌≤◌}
use native.Mathlib.Nat.{le_refl, mul-pos}
use lib.Dec.{lit<}
use lib.IntN.{ℤ, pos, ◌+ℤ◌, ◌*ℤ◌}
use Rattle.algebra.specs.Gauss.{◌^ᵍ◌, 𝔾, ιᵍ, ◌+ᵍ◌, ◌-ᵍ◌, ◌*ᵍ◌, N, two}
use Rattle.algebra.specs.Order.{◌⩽◌}
use Rattle.algebra.specs.Size.{abs}
use Rattle.algebra.proofs.Within.{N-ninths}
use Rattle.algebra.proofs.Integer.{ℤR}
use Rattle.algebra.proofs.Gauss.{𝔾R, N-scale}
use Rattle.algebra.proofs.Reify.{ring!, reify, reifyᵍ}
use Rattle.algebra.proofs.Order.{⩽_trans, nonneg_mul, nonneg_pos, nonneg_sq, sub_nonneg, pos_mono}
use Rattle.algebra.proofs.Linear.{lin, ◌&◌, none}
use Rattle.algebra.proofs.Inequality.{le_cancel}
use Rattle.algebra.proofs.Parts.{sizes, within_sizes}
use Rattle.algebra.proofs.Range.{Les}
use Rattle.algebra.proofs.Power.{two_pos}
use Rattle.series.specs.Series.{D, Sᵍ, Dᵍ, Dᶻ}
use Rattle.series.proofs.Series.{D-pos}
use Rattle.series.proofs.Laws.{Laws, laws, bound_2}
use Rattle.table_numbers.specs.Promise.{Rule}

-- ---- the sum with the next power beside it, to compute with
pub record Partial : Type 0 where
  pub sum : 𝔾
  pub power : 𝔾

abbrev pub terms : ℕ → 𝔾 → ℕ → Partial
terms U z zero = record { sum = ιᵍ (pos 0); power = ιᵍ (pos 1) }
terms U z (suc T) = let s = terms U z T in record { sum = ιᵍ (pos (U * suc T)) *ᵍ (s.sum +ᵍ s.power); power = s.power *ᵍ z }

pub terms_are : (U : ℕ) (z : 𝔾) (T : ℕ) → terms U z T ≡ record { sum = Sᵍ U T z; power = z ^ᵍ T }
unfolding Sᵍ ◌^ᵍ◌
terms_are U z zero = refl
terms_are U z (suc T) = ap (λ s. record { sum = ιᵍ (pos (U * suc T)) *ᵍ (s.sum +ᵍ s.power); power = s.power *ᵍ z }) (terms_are U z T)

-- ---- the test for z, a logarithm of c/m: z is at most two long, it keeps the rule at 24 terms with 8/9 of a unit in place of one, and the
-- terms beyond, which are at most 1/2^54, are at most 1/9 of a unit times the length of c/m
abbrev off : ℕ → 𝔾 → ℕ → 𝔾 → 𝔾
off m c d s = ιᵍ (pos m) *ᵍ s -ᵍ c *ᵍ ιᵍ (pos d)

abbrev pub rule_facts : (F m : ℕ) (c z : 𝔾) → List (ℤ × ℤ)
rule_facts F m c z =
    let d = D (2 ^ F) 24 in
    let s = (terms (2 ^ F) z 24).sum in
    (sizes z, pos 2 *ℤ two F)
    ∷ (pos 81 *ℤ N (off m c d s) *ℤ (two F *ℤ two F), pos 64 *ℤ N c *ℤ (pos d *ℤ pos d))
    ∷ (pos 81 *ℤ (two F *ℤ two F) *ℤ (pos m *ℤ pos m), pos (2 ^ 54) *ℤ pos (2 ^ 54) *ℤ N c)
    ∷ []

-- ---- from 24 terms to any number of them
-- Squares throughout: u of one, d and d' of the divisors, e of what 24 terms are off by, t of what follows them, 1/b of the bound on that,
-- m of the scale, f of |c|, n of what all terms are off by
ninths : (u d d' e t b m f n : ℤ) → pos 0 ⩽ u → pos 1 ⩽ d → pos 0 ⩽ d' → pos 1 ⩽ b → pos 0 ⩽ m → pos 81 *ℤ e *ℤ u ⩽ pos 64 *ℤ f *ℤ d →
    b *ℤ t ⩽ d *ℤ d' → pos 81 *ℤ u *ℤ m ⩽ b *ℤ f →
    pos 8 *ℤ (d *ℤ n) ⩽ pos 9 *ℤ (d' *ℤ e) +ℤ pos 72 *ℤ (m *ℤ t) → n *ℤ u ⩽ f *ℤ d'
ninths u d d' e t b m f n hu hd hd' hb hm h₁ h₂ h₃ h₄ = le_cancel b hb (le_cancel d hd (lin (u ∷ d ∷ d' ∷ e ∷ t ∷ b ∷ m ∷ f ∷ n ∷ [])
    (nonneg_mul (nonneg_mul hb' hd') (sub_nonneg h₁) & nonneg_mul (nonneg_mul hu hm) (sub_nonneg h₂)
    & nonneg_mul (nonneg_mul (⩽_trans (nonneg_pos 1) hd) hd') (sub_nonneg h₃)
    & nonneg_mul (nonneg_mul hb' hu) (sub_nonneg h₄) & none) (search reify depth 20 fits 4000) tt))
  where
    hb' : pos 0 ⩽ b
    hb' = ⩽_trans (nonneg_pos 1) hb

module _ (F m : ℕ) (c z : 𝔾) where
  abbrev U : ℕ
  U = 2 ^ F

  near : Laws U 24 2 1 (2 ^ 54)
  near = laws U 24 2 1 (2 ^ 54) (two_pos F) (lit< tt) bound_2

  -- what follows the first 24 terms, times the divisors
  abbrev rest : ℕ → 𝔾
  rest T = Dᵍ U 24 *ᵍ Sᵍ U T z -ᵍ Dᵍ U T *ᵍ Sᵍ U 24 z

  split : (T : ℕ) → ιᵍ (Dᶻ U 24) *ᵍ off m c (D U T) (Sᵍ U T z) ≡ ιᵍ (Dᶻ U T) *ᵍ off m c (D U 24) (Sᵍ U 24 z) +ᵍ ιᵍ (pos m) *ᵍ rest T
  split T = ring! 𝔾R (ιᵍ (pos m) ∷ c ∷ Dᵍ U 24 ∷ Dᵍ U T ∷ Sᵍ U T z ∷ Sᵍ U 24 z ∷ []) (search reifyᵍ depth 20) tt

  both : (T : ℕ) → pos 8 *ℤ (Dᶻ U 24 *ℤ Dᶻ U 24 *ℤ N (off m c (D U T) (Sᵍ U T z)))
      ⩽ pos 9 *ℤ (Dᶻ U T *ℤ Dᶻ U T *ℤ N (off m c (D U 24) (Sᵍ U 24 z))) +ℤ pos 72 *ℤ (pos m *ℤ pos m *ℤ N (rest T))
  both T = subst₂ (λ a b. pos 8 *ℤ a ⩽ b)
      (ap N (sym (split T)) ∙ N-scale (Dᶻ U 24) (off m c (D U T) (Sᵍ U T z)))
      (ap₂ (λ a b. pos 9 *ℤ a +ℤ pos 72 *ℤ b) (N-scale (Dᶻ U T) (off m c (D U 24) (Sᵍ U 24 z))) (N-scale (pos m) (rest T)))
      (N-ninths (ιᵍ (Dᶻ U T) *ᵍ off m c (D U 24) (Sᵍ U 24 z)) (ιᵍ (pos m) *ᵍ rest T))

  beyond : sizes z ⩽ pos 2 *ℤ two F → (T : ℕ) → 24 ≤ T →
      pos (2 ^ 54) *ℤ pos (2 ^ 54) *ℤ N (rest T) ⩽ Dᶻ U 24 *ℤ Dᶻ U 24 *ℤ (Dᶻ U T *ℤ Dᶻ U T)
  beyond short T h = subst₂ ◌⩽◌ (N-scale (pos (2 ^ 54)) (rest T)) (regroup (Dᶻ U 24) (Dᶻ U T))
      (near.tail (within_sizes z) short' 24 T (le_refl 24) h).size
    where
      short' : pos 1 *ℤ sizes z ⩽ pos 2 *ℤ two F
      short' = lin (abs z.re ∷ abs z.im ∷ two F ∷ []) (short & none) (search reify depth 20) tt

      regroup : (a b : ℤ) → a *ℤ b *ℤ (a *ℤ b) ≡ a *ℤ a *ℤ (b *ℤ b)
      regroup a b = ring! ℤR (a ∷ b ∷ []) (search reify depth 20) tt

  pub rule_holds : Les (rule_facts F m c z) → (T : ℕ) → 24 ≤ T → Rule F T m c z
  rule_holds (short, (at-24, (spare, _))) T h = ninths (two F *ℤ two F) (Dᶻ U 24 *ℤ Dᶻ U 24) (Dᶻ U T *ℤ Dᶻ U T)
      (N (off m c (D U 24) (Sᵍ U 24 z))) (N (rest T))
      (pos (2 ^ 54) *ℤ pos (2 ^ 54)) (pos m *ℤ pos m) (N c) (N (off m c (D U T) (Sᵍ U T z)))
      (nonneg_sq (two F)) (pos_mono (mul-pos (D-pos U (two_pos F) 24) (D-pos U (two_pos F) 24))) (nonneg_sq (Dᶻ U T)) (record { le = tt })
      (nonneg_sq (pos m))
      (subst (λ s. pos 81 *ℤ N (off m c (D U 24) s.sum) *ℤ (two F *ℤ two F) ⩽ pos 64 *ℤ N c *ℤ (Dᶻ U 24 *ℤ Dᶻ U 24))
      (terms_are U z 24) at-24)
      (beyond short T h) spare (both T)
