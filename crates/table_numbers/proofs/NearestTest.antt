-- The parts of a table's entries are the nearest, from one computed test over the table: over any width.
use mathlib.Core.Path.{◌≡◌, ◌∙◌, ap, subst}
use mathlib.Core.Bool.{Bool, ◌&&◌}
use mathlib.Core.List.{[], ◌∷◌}
use Prim.Native.Nat.{ℕ, zero, suc, ◌^◌, ◌≤◌}
use native.Mathlib.Nat.{not-suc-le-zero, pow-le-pow_right}
use lib.Dec.{T, lit<, lit≤}
use lib.IntN.{ℤ, pos, neg_ℤ, ◌+ℤ◌, ◌-ℤ◌, ◌*ℤ◌}
use Rattle.algebra.specs.Gauss.{𝔾, gi, ιᵍ, ◌+ᵍ◌, N, twoᵍ}
use Rattle.algebra.specs.Order.{◌⋖◌}
use Rattle.algebra.proofs.Integer.{ℤR}
use Rattle.algebra.proofs.Gauss.{dot}
use Rattle.algebra.proofs.Reify.{ring!, reify}
use Rattle.algebra.proofs.Linear.{lin<, ◌&<◌, none}
use Rattle.algebra.proofs.Power.{two_pos}
use Rattle.algebra.proofs.Test.{and_left, and_right, all, all_at}
use Rattle.algebra.proofs.Range.{les, les_say}
use Rattle.series.specs.Series.{D, Sᵍ, Dᶻ}
use Rattle.series.proofs.Series.{Sᶻ}
use Rattle.point.proofs.Digits.{nine, nine_at}
use Rattle.table_numbers.specs.Reciprocal.{reciprocal, centre}
use Rattle.table_numbers.specs.Promise.{StepTable, ReciprocalTable, look}
use Rattle.table_numbers.proofs.Kept.{cells, cells_at}
use Rattle.table_numbers.proofs.Nearest.{Nearest, NearestSteps, NearestReciprocals, direction, cross}
use Rattle.table_numbers.proofs.SignTest.{S-real, form, sign_facts, sign_holds}

-- ---- what the four forms say
below_of : (q s n d : ℤ) → pos 0 ⋖ neg_ℤ q *ℤ s +ℤ n *ℤ d → s *ℤ q ⋖ n *ℤ d
below_of q s n d h = lin< (q ∷ s ∷ n ∷ d ∷ []) (h &< none) (search reify depth 20) tt

above_of : (q s n d : ℤ) → pos 0 ⋖ q *ℤ s +ℤ neg_ℤ n *ℤ d → n *ℤ d ⋖ s *ℤ q
above_of q s n d h = lin< (q ∷ s ∷ n ∷ d ∷ []) (h &< none) (search reify depth 20) tt

left_of : (c e : 𝔾) (d : ℤ) → pos 0 ⋖ dot (gi c.im (neg_ℤ c.re)) e +ℤ pos 0 *ℤ d → pos 0 ⋖ cross e c
left_of c e d h = lin< (c.re ∷ c.im ∷ e.re ∷ e.im ∷ d ∷ []) (h &< none) (search reify depth 20) tt

right_of : (c e : 𝔾) (d : ℤ) → pos 0 ⋖ dot (gi (neg_ℤ c.im) c.re) e +ℤ pos 0 *ℤ d → pos 0 ⋖ cross c e
right_of c e d h = lin< (c.re ∷ c.im ∷ e.re ∷ e.im ∷ d ∷ []) (h &< none) (search reify depth 20) tt

-- the form at a real argument
real_form : (U T₁ : ℕ) (a v k : ℤ) → form (D U T₁) (ιᵍ v) k (Sᵍ U T₁ (ιᵍ a)) ≡ v *ℤ Sᶻ U T₁ a +ℤ k *ℤ Dᶻ U T₁
unfolding ιᵍ
real_form U T₁ a v k = ap (λ s. dot (ιᵍ v) s +ℤ k *ℤ Dᶻ U T₁) (S-real U T₁ a)
    ∙ ring! ℤR (v ∷ Sᶻ U T₁ a ∷ k ∷ Dᶻ U T₁ ∷ []) (search reify depth 20) tt

-- ---- the signs at arguments up to 3/x: real ones in units, imaginary ones in half units
module _ (F x : ℕ) (h : 2 ≤ x) (T₁ : ℕ) (e : 24 ≤ T₁) where
  real_sign : (a v k : ℤ) → T (les (sign_facts (2 ^ F) x (ιᵍ a) (ιᵍ v) k)) → pos 0 ⋖ v *ℤ Sᶻ (2 ^ F) T₁ a +ℤ k *ℤ Dᶻ (2 ^ F) T₁
  real_sign a v k p = subst (λ t. pos 0 ⋖ t) (real_form (2 ^ F) T₁ a v k)
      (sign_holds (2 ^ F) (two_pos F) x h (ιᵍ a) (ιᵍ v) k (les_say (sign_facts (2 ^ F) x (ιᵍ a) (ιᵍ v) k) p) T₁ e)

  turn_sign : (b : ℤ) (v : 𝔾) → T (les (sign_facts (2 ^ suc F) x (gi (pos 0) b) v (pos 0))) →
      pos 0 ⋖ dot v (direction F T₁ b) +ℤ pos 0 *ℤ Dᶻ (2 ^ suc F) T₁
  turn_sign b v p = sign_holds (2 ^ suc F) (two_pos (suc F)) x h (gi (pos 0) b) v (pos 0)
      (les_say (sign_facts (2 ^ suc F) x (gi (pos 0) b) v (pos 0)) p) T₁ e

-- ---- the test for z, a logarithm of c/m
module _ (F x m : ℕ) (c z : 𝔾) where
  abbrev lower : ℤ → ℤ
  lower w = pos 2 *ℤ w -ℤ pos 1

  abbrev upper : ℤ → ℤ
  upper w = pos 2 *ℤ w +ℤ pos 1

  abbrev square : ℤ
  square = pos m *ℤ pos m

  abbrev longer_test : Bool
  longer_test = les (sign_facts (2 ^ F) x (ιᵍ (lower z.re)) (ιᵍ (neg_ℤ square)) (N c))

  abbrev shorter_test : Bool
  shorter_test = les (sign_facts (2 ^ F) x (ιᵍ (upper z.re)) (ιᵍ square) (neg_ℤ (N c)))

  abbrev left_test : Bool
  left_test = les (sign_facts (2 ^ suc F) x (gi (pos 0) (lower z.im)) (gi c.im (neg_ℤ c.re)) (pos 0))

  abbrev right_test : Bool
  right_test = les (sign_facts (2 ^ suc F) x (gi (pos 0) (upper z.im)) (gi (neg_ℤ c.im) c.re) (pos 0))

  unfoldable pub nearest_test : Bool
  nearest_test = (longer_test && shorter_test) && (left_test && right_test)

  pub nearest_said : 2 ≤ x → T nearest_test → (T₁ : ℕ) → 24 ≤ T₁ → Nearest F T₁ m c z
  unfolding nearest_test
  nearest_said h p T₁ e = record {
    longer = below_of square (Sᶻ (2 ^ F) T₁ (lower z.re)) (N c) (Dᶻ (2 ^ F) T₁)
        (real_sign F x h T₁ e (lower z.re) (neg_ℤ square) (N c) (and_left longer_test shorter_test real));
    shorter = above_of square (Sᶻ (2 ^ F) T₁ (upper z.re)) (N c) (Dᶻ (2 ^ F) T₁)
        (real_sign F x h T₁ e (upper z.re) square (neg_ℤ (N c)) (and_right longer_test shorter_test real));
    left = left_of c (direction F T₁ (lower z.im)) (Dᶻ (2 ^ suc F) T₁)
        (turn_sign F x h T₁ e (lower z.im) (gi c.im (neg_ℤ c.re)) (and_left left_test right_test angle));
    right = right_of c (direction F T₁ (upper z.im)) (Dᶻ (2 ^ suc F) T₁)
        (turn_sign F x h T₁ e (upper z.im) (gi (neg_ℤ c.im) c.re) (and_right left_test right_test angle));
  }
    where
      real : T (longer_test && shorter_test)
      real = and_left (longer_test && shorter_test) (left_test && right_test) p

      angle : T (left_test && right_test)
      angle = and_right (longer_test && shorter_test) (left_test && right_test) p

-- ---- the step table at n with arguments up to 3/2^n, the reciprocals with arguments up to 3/2
module _ (F : ℕ) (t : StepTable) where
  unfoldable pub step_nearest_test : ℕ → ℤ → ℤ → Bool
  step_nearest_test n dx dy = nearest_test F (2 ^ n) (2 ^ n) (twoᵍ n +ᵍ gi dx dy) (t n dx dy)

  abbrev pub steps_nearest_test : ℕ → Bool
  steps_nearest_test M = all M (λ i. nine (step_nearest_test (suc i)))

  pub steps_are_nearest : (M : ℕ) → T (steps_nearest_test M) → NearestSteps F M t
  unfolding step_nearest_test
  steps_are_nearest M p zero lo hi d k = absurd (not-suc-le-zero lo)
  steps_are_nearest M p (suc n) lo hi d k = nearest_said F (2 ^ suc n) (2 ^ suc n) (twoᵍ (suc n) +ᵍ d) (look t (suc n) d)
      (pow-le-pow_right {n = 2} (lit< tt) {i = 1} {j = suc n} lo)
      (nine_at (step_nearest_test (suc n)) (all_at M (λ i. nine (step_nearest_test (suc i))) p n hi) k)

module _ (F : ℕ) (t : ReciprocalTable) where
  unfoldable pub reciprocal_nearest_test : ℤ → ℤ → Bool
  reciprocal_nearest_test column row = nearest_test F 2 64 (reciprocal (centre column) (centre row)) (t (centre column) (centre row))

  pub reciprocals_are_nearest : T (cells reciprocal_nearest_test) → NearestReciprocals F t
  unfolding reciprocal_nearest_test
  reciprocals_are_nearest p column row i = nearest_said F 2 64 (reciprocal (centre column) (centre row)) (t (centre column) (centre row))
      (lit≤ tt)
      (cells_at reciprocal_nearest_test p column row i)
