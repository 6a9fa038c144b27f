-- The product: at (α + β)/U at most R = p/q, S T a · S T b / (D T)² and S T (a + b) / D T differ by at most 1/c, from T₀ terms on.
-- The difference is the corner of the square of terms. Its majorant is a part of the real series' tail at α + β.
use mathlib.Core.Path.{◌≡◌, sym, ◌∙◌, ap, subst, subst₂}
use mathlib.Core.List.{[], ◌∷◌}
use Prim.Native.Nat.{ℕ, ◌+◌, ◌*◌, ◌-◌, ◌<◌, ◌≤◌}
use native.Mathlib.Nat.{mul-pos}
use native.Mathlib.Decide.{le_ind}
use native.Mathlib.Omega.{arith}
use lib.IntN.{ℤ, pos, ◌+ℤ◌, ◌*ℤ◌}
use Rattle.algebra.specs.Order.{◌⩽◌}
use Rattle.algebra.specs.Gauss.{𝔾, ιᵍ, ◌+ᵍ◌, ◌-ᵍ◌, ◌*ᵍ◌}
use Rattle.algebra.specs.Size.{Within}
use Rattle.algebra.proofs.Integer.{ℤR}
use Rattle.algebra.proofs.Reify.{ring!, reify, reifyᵍ}
use Rattle.algebra.proofs.Order.{nonneg_pos, nonneg_mul, nonneg_add, sub_nonneg, pos_mono, ⩽_refl, ⩽_trans}
use Rattle.algebra.proofs.Linear.{lin, ◌&◌, ◌&≡◌, none}
use Rattle.algebra.proofs.Gauss.{𝔾R, g_ι_mul}
use Rattle.algebra.proofs.Sum.{sum, sum_triangle, sum_times_sum}
use Rattle.algebra.proofs.Within.{within_mul, within_sum, within_pow, within_weaken, sum_mono, sum_nonneg, pw_nonneg, within_scale, within_cancel}
use Rattle.series.specs.Series.{D, Dᵍ, Dᶻ}
use Rattle.series.proofs.Series.{D-pos, Sᶜ, Sᶻ, tail}
use Rattle.series.proofs.Coefficient.{co}
use Rattle.series.proofs.Cauchy.{mono, part, corner, part_S, triangle, square, corner_S}
use Rattle.series.proofs.Tail.{TailBound, tail_le}

-- more terms, none of them negative
sum_grow : (f : ℕ → ℤ) → ((j : ℕ) → pos 0 ⩽ f j) → (m n : ℕ) → m ≤ n → sum ℤR m f ⩽ sum ℤR n f
sum_grow f h m = le_ind (λ n. sum ℤR m f ⩽ sum ℤR n f) (⩽_refl (sum ℤR m f))
    (λ n k p. lin (sum ℤR m f ∷ sum ℤR n f ∷ f n ∷ []) (p & h n & none) (search reify depth 20) tt)

-- a square of side m lies in a triangle of side n, 2m ≤ n
square≤triangle : (f : ℕ → ℕ → ℤ) → ((i j : ℕ) → pos 0 ⩽ f i j) → (m n : ℕ) → m + m ≤ n →
    sum ℤR m (λ i. sum ℤR m (f i)) ⩽ sum ℤR n (λ i. sum ℤR (n - i) (f i))
square≤triangle f h m n k = ⩽_trans (sum_mono m (λ i l. sum_grow (f i) (h i) m (n - i) (omega arith)))
    (sum_grow (λ i. sum ℤR (n - i) (f i)) (λ i. sum_nonneg (n - i) (λ j _. h i j)) m n (omega arith))

module _ (U n : ℕ) where
  mono_nonneg : (ρ : ℤ) → pos 0 ⩽ ρ → (k : ℕ) → pos 0 ⩽ mono ℤR U n ρ k
  unfolding mono
  mono_nonneg ρ h k = nonneg_mul (nonneg_pos (co U n k)) (pw_nonneg h k)

  within_mono : {z : 𝔾} {ρ : ℤ} → Within z ρ → (k : ℕ) → Within (mono 𝔾R U n z k) (mono ℤR U n ρ k)
  unfolding mono
  within_mono h k = within_scale (pos (co U n k)) (nonneg_pos (co U n k)) (within_pow h k)

  within_corner : {a b : 𝔾} {α β : ℤ} → Within a α → Within b β → (m : ℕ) → Within (corner 𝔾R U n m a b) (corner ℤR U n m α β)
  within_corner h g m = within_sum m (λ i _. within_sum i (λ j _. within_mul (within_mono h i) (within_mono g (m - i + j))))

  corner≤tail : 0 < U → (α β : ℤ) → pos 0 ⩽ α → pos 0 ⩽ β → (m : ℕ) → m + m ≤ n →
      Dᶻ U m *ℤ Dᶻ U m *ℤ corner ℤR U n m α β ⩽ Dᶻ U m *ℤ Dᶻ U n *ℤ tail ℤR U m n (α +ℤ β)
  unfolding tail
  corner≤tail U>0 α β hα hβ m fits = lin
      (d ∷ e ∷ part ℤR U n m α ∷ part ℤR U n m β ∷ part ℤR U n m (α +ℤ β) ∷ part ℤR U n n (α +ℤ β) ∷ corner ℤR U n m α β ∷ Sᶻ U m
      (α +ℤ β) ∷ Sᶻ U n (α +ℤ β) ∷ [])
      (nonneg_mul (nonneg_pos (D U m * D U m)) (sub_nonneg inside) & ap (λ t. d *ℤ d *ℤ t) (square ℤR U n U>0 α β m (omega arith))
      &≡ ap (λ t. d *ℤ e *ℤ t) (part_S ℤR U n m (α +ℤ β) (omega arith)) &≡ ap (λ t. d *ℤ d *ℤ t) (part_S ℤR U n n (α +ℤ β) (omega arith))
      &≡ none)
      (search reify depth 20 fits 4000) tt
    where
      d : ℤ
      d = Dᶻ U m

      e : ℤ
      e = Dᶻ U n

      inside : part ℤR U n m α *ℤ part ℤR U n m β ⩽ e *ℤ part ℤR U n n (α +ℤ β)
      inside = subst₂ ◌⩽◌ (sym (sum_times_sum ℤR m m (mono ℤR U n α) (mono ℤR U n β)))
          (sym (sum_triangle ℤR n (λ i j. mono ℤR U n α i *ℤ mono ℤR U n β j)) ∙ triangle ℤR U n U>0 α β n (omega arith))
          (square≤triangle (λ i j. mono ℤR U n α i *ℤ mono ℤR U n β j)
          (λ i j. nonneg_mul (mono_nonneg α hα i) (mono_nonneg β hβ j)) m n fits)

module _ (T₀ p q c : ℕ) (tb : TailBound T₀ p q c) (U : ℕ) (U>0 : 0 < U) {a b : 𝔾} {α β : ℤ} (h : Within a α) (g : Within b β)
    (near : pos q *ℤ (α +ℤ β) ⩽ pos p *ℤ pos U) (T : ℕ) (enough : T₀ ≤ T) where
  pub product : Within (ιᵍ (pos c) *ᵍ (Sᶜ U T a *ᵍ Sᶜ U T b -ᵍ Dᵍ U T *ᵍ Sᶜ U T (a +ᵍ b))) (Dᶻ U T *ℤ Dᶻ U T)
  product = within_cancel (e *ℤ e) (pos_mono (mul-pos (D-pos U U>0 n) (D-pos U U>0 n))) (subst (λ w. Within w (e *ℤ e *ℤ (d *ℤ d))) out
      (within_weaken (within_scale (pos c *ℤ (d *ℤ d)) (nonneg_pos (c * (D U T * D U T))) (within_corner U n h g T)) real))
    where
      n : ℕ
      n = T + T

      d : ℤ
      d = Dᶻ U T

      e : ℤ
      e = Dᶻ U n

      x : 𝔾
      x = Sᶜ U T a *ᵍ Sᶜ U T b -ᵍ Dᵍ U T *ᵍ Sᶜ U T (a +ᵍ b)

      real : pos c *ℤ (d *ℤ d) *ℤ corner ℤR U n T α β ⩽ e *ℤ e *ℤ (d *ℤ d)
      real = lin (pos c ∷ d ∷ e ∷ corner ℤR U n T α β ∷ tail ℤR U T n (α +ℤ β) ∷ [])
          (nonneg_mul (nonneg_pos c) (sub_nonneg (corner≤tail U n U>0 α β h.sign g.sign T (omega arith)))
          & nonneg_mul (nonneg_pos (D U T * D U n))
          (sub_nonneg (tail_le T₀ p q c tb U U>0 (α +ℤ β) (nonneg_add h.sign g.sign) near T n enough (omega arith))) & none)
          (search reify depth 20) tt

      out : ιᵍ (pos c *ℤ (d *ℤ d)) *ᵍ corner 𝔾R U n T a b ≡ ιᵍ (e *ℤ e) *ᵍ (ιᵍ (pos c) *ᵍ x)
      out =
          ap (λ t. t *ᵍ corner 𝔾R U n T a b) (g_ι_mul (pos c) (d *ℤ d) ∙ ap (λ t. ιᵍ (pos c) *ᵍ t) (g_ι_mul d d))
          ∙ ring! 𝔾R (ιᵍ (pos c) ∷ ιᵍ d ∷ corner 𝔾R U n T a b ∷ []) (search reifyᵍ depth 20) tt
          ∙ ap (λ t. ιᵍ (pos c) *ᵍ t) (corner_S 𝔾R U n U>0 a b T (omega arith))
          ∙ ring! 𝔾R (ιᵍ (pos c) ∷ ιᵍ e ∷ x ∷ []) (search reifyᵍ depth 20) tt
          ∙ ap (λ t. t *ᵍ (ιᵍ (pos c) *ᵍ x)) (sym (g_ι_mul e e))
