-- A test that shows the sign of a linear form of the exponential series: computed at 24 terms, with room for the terms beyond.
use mathlib.Core.Path.{◌≡◌, refl, sym, ◌∙◌, ap, ap₂, subst}
use mathlib.Core.List.{List, [], ◌∷◌}
use Prim.Native.Nat.{ℕ, zero, suc, ◌+◌, ◌*◌, ◌-◌, ◌^◌, ◌≤◌, ◌<◌}
use native.Mathlib.Nat.{le_refl, mul-pos, mul-le-mul_right}
use native.Mathlib.Omega.{arith}
use lib.Dec.{lit<}
use lib.IntN.{ℤ, pos, ◌+ℤ◌, ◌-ℤ◌, ◌*ℤ◌}
use Rattle.algebra.specs.Gauss.{◌^ᵍ◌, 𝔾, ιᵍ, negᵍ, ◌+ᵍ◌, ◌-ᵍ◌, ◌*ᵍ◌}
use Rattle.algebra.specs.Order.{◌⩽◌, ◌⋖◌}
use Rattle.algebra.specs.Size.{Parts, abs}
use Rattle.algebra.proofs.Ring.{pw}
use Rattle.algebra.proofs.Integer.{ℤR}
use Rattle.algebra.proofs.Gauss.{dot, g_ι_mul, g_ι_add}
use Rattle.algebra.proofs.Reify.{ring!, reify}
use Rattle.algebra.proofs.Order.{⩽_trans, nonneg_mul, nonneg_pos, sub_nonneg, pos_mono, lt_of_suc_le}
use Rattle.algebra.proofs.Linear.{lin, ◌&◌, none}
use Rattle.algebra.proofs.Inequality.{below_next}
use Rattle.algebra.proofs.Power.{pow_pos}
use Rattle.algebra.proofs.Parts.{le_abs, neg_abs_le, within_parts, sizes, within_sizes}
use Rattle.algebra.proofs.Range.{Les}
use Rattle.series.specs.Series.{D, Sᵍ, Dᵍ, Dᶻ}
use Rattle.series.proofs.Series.{D-pos, S, Sᶻ, fact}
use Rattle.series.proofs.Tail.{TailBound}
use Rattle.series.proofs.Laws.{Laws, laws}
use Rattle.table_numbers.proofs.RuleTest.{terms, terms_are}

-- ---- the terms from the 24th on are at most 1/b at arguments up to 3/x: the smaller these are, the nearer to a tie an entry may come
abbrev pub spare : ℕ → ℕ
spare x = 2 ^ 40 * x ^ 24

bound_3/x : (x : ℕ) → 2 ≤ x → TailBound 24 3 x (spare x)
unfolding fact
bound_3/x x h = record {
  a = 25 * x - 3;
  a_is = omega arith;
  a>0 = omega arith;
  q>0 = omega arith;
  bound = enough (x ^ 24) (25 * x - 3)
      (omega arith);
}
  where
    enough : (X a : ℕ) → a + 3 ≡ 25 * x → 2 ^ 40 * X * (x * 25 * 3 ^ 24) ≤ a * (X * fact 24)
    enough X a e = omega (arith, ap (λ t. t * X) e, mul-le-mul_right X h)

-- ---- real arguments
pub S-real : (U T : ℕ) (x : ℤ) → Sᵍ U T (ιᵍ x) ≡ ιᵍ (Sᶻ U T x)
unfolding S Sᵍ ◌^ᵍ◌
S-real U zero x = refl
S-real U (suc T) x = ap₂ (λ s p. ιᵍ (pos (U * suc T)) *ᵍ (s +ᵍ p)) (S-real U T x) (powers T)
    ∙ ap (λ t. ιᵍ (pos (U * suc T)) *ᵍ t) (sym (g_ι_add (Sᶻ U T x) (pw ℤR x T))) ∙ sym (g_ι_mul (pos (U * suc T)) (Sᶻ U T x +ℤ pw ℤR x T))
  where
    powers : (n : ℕ) → ιᵍ x ^ᵍ n ≡ ιᵍ (pw ℤR x n)
    powers zero = refl
    powers (suc n) = ap (λ t. t *ᵍ ιᵍ x) (powers n) ∙ sym (g_ι_mul (pw ℤR x n) x)

-- ---- an inner product by the sizes of one factor
dot_parts : (v x : 𝔾) {r : ℤ} → Parts x r → pos 0 ⩽ dot v x +ℤ sizes v *ℤ r
dot_parts v x {r} h = lin (v.re ∷ v.im ∷ abs v.re ∷ abs v.im ∷ x.re ∷ x.im ∷ r ∷ [])
    (nonneg_mul (sub_nonneg (neg_abs_le v.re)) (sub_nonneg h.re.lo)
    & nonneg_mul (sub_nonneg (le_abs v.re)) (sub_nonneg h.re.hi)
    & nonneg_mul (sub_nonneg (neg_abs_le v.im)) (sub_nonneg h.im.lo)
    & nonneg_mul (sub_nonneg (le_abs v.im)) (sub_nonneg h.im.hi) & none) (search reify depth 20) tt

dot_rest : (b d d' : ℤ) (v s t : 𝔾) → dot v (ιᵍ b *ᵍ (ιᵍ d *ᵍ s -ᵍ ιᵍ d' *ᵍ t)) ≡ b *ℤ (d *ℤ dot v s -ℤ d' *ℤ dot v t)
unfolding ιᵍ ◌*ᵍ◌ ◌+ᵍ◌ negᵍ
dot_rest b d d' v s t = ring! ℤR (b ∷ d ∷ d' ∷ v.re ∷ v.im ∷ s.re ∷ s.im ∷ t.re ∷ t.im ∷ []) (search reify depth 20 fits 4000) tt

-- ---- the form v · S + k · D at the argument w, positive at 24 terms with the bound on the terms beyond to spare
abbrev pub form : ℕ → 𝔾 → ℤ → 𝔾 → ℤ
form d v k s = dot v s +ℤ k *ℤ pos d

abbrev pub sign_facts : (U x : ℕ) (w v : 𝔾) (k : ℤ) → List (ℤ × ℤ)
sign_facts U x w v k =
    let d = D U 24 in
    (pos x *ℤ sizes w, pos 3 *ℤ pos U) ∷ (sizes v *ℤ pos d +ℤ pos 1, pos (spare x) *ℤ form d v k (terms U w 24).sum) ∷ []

-- over plain numbers: b the bound, d and d' the divisors, f and f' the inner products, σ the sizes of v
positive : (b d d' f f' σ k : ℤ) → pos 1 ⩽ b → pos 1 ⩽ d → pos 1 ⩽ d' →
    pos 0 ⩽ b *ℤ (d *ℤ f' -ℤ d' *ℤ f) +ℤ σ *ℤ (d *ℤ d') → σ *ℤ d +ℤ pos 1 ⩽ b *ℤ (f +ℤ k *ℤ d) → pos 0 ⋖ f' +ℤ k *ℤ d'
positive b d d' f f' σ k hb hd hd' h₁ h₂ = lt_of_suc_le (below_next {a = pos 1} (b *ℤ d) one
    (lin (b ∷ d ∷ d' ∷ f ∷ f' ∷ σ ∷ k ∷ []) (h₁ & nonneg_mul (sub_nonneg h₂) (⩽_trans (nonneg_pos 1) hd') & hd' & none)
    (search reify depth 20) tt))
  where
    one : pos 1 ⩽ b *ℤ d
    one = lin (b ∷ d ∷ []) (nonneg_mul (sub_nonneg hb) (sub_nonneg hd) & hb & hd & none) (search reify depth 20) tt

module _ (U : ℕ) (U>0 : 0 < U) (x : ℕ) (h : 2 ≤ x) (w v : 𝔾) (k : ℤ) where
  spare_pos : 0 < spare x
  spare_pos = mul-pos (lit< tt) (pow_pos x (omega arith) 24)

  near : Laws U 24 3 x (spare x)
  near = laws U 24 3 x (spare x) U>0 spare_pos (bound_3/x x h)

  -- what follows the first 24 terms
  beyond : pos x *ℤ sizes w ⩽ pos 3 *ℤ pos U → (T : ℕ) → 24 ≤ T →
      pos 0 ⩽ pos (spare x) *ℤ (Dᶻ U 24 *ℤ dot v (Sᵍ U T w) -ℤ Dᶻ U T *ℤ dot v (Sᵍ U 24 w)) +ℤ sizes v *ℤ (Dᶻ U 24 *ℤ Dᶻ U T)
  beyond short T e = subst (λ t. pos 0 ⩽ t +ℤ sizes v *ℤ (Dᶻ U 24 *ℤ Dᶻ U T))
      (dot_rest (pos (spare x)) (Dᶻ U 24) (Dᶻ U T) v (Sᵍ U T w) (Sᵍ U 24 w))
      (dot_parts v (ιᵍ (pos (spare x)) *ᵍ (Dᵍ U 24 *ᵍ Sᵍ U T w -ᵍ Dᵍ U T *ᵍ Sᵍ U 24 w))
      (within_parts (near.tail (within_sizes w) short 24 T (le_refl 24) e)))

  pub sign_holds : Les (sign_facts U x w v k) → (T : ℕ) → 24 ≤ T → pos 0 ⋖ form (D U T) v k (Sᵍ U T w)
  sign_holds (short, (at-24, _)) T e = positive (pos (spare x)) (Dᶻ U 24) (Dᶻ U T) (dot v (Sᵍ U 24 w)) (dot v (Sᵍ U T w)) (sizes v) k
      (pos_mono spare_pos) (pos_mono (D-pos U U>0 24)) (pos_mono (D-pos U U>0 T)) (beyond short T e)
      (subst (λ s. sizes v *ℤ Dᶻ U 24 +ℤ pos 1 ⩽ pos (spare x) *ℤ form (D U 24) v k s.sum) (terms_are U w 24) at-24)
