-- The error of EXP (01, What demand 3 compares): each part of the answer, less the start times the exact exponential of the exponent, is at
-- most 8·m/2^N + rounding-share·N units, m being the start's larger part in size. At every width, for every table that keeps its promise.
-- From the drift of the iteration, and what is left of the exponent at the end.
use mathlib.Core.Path.{◌≡◌, sym, ◌∙◌, ap, subst}
use mathlib.Core.List.{[], ◌∷◌}
use Prim.Native.Nat.{ℕ, suc, ◌+◌, ◌-◌, ◌^◌, ◌≤◌}
use native.Mathlib.Omega.{arith}
use lib.IntN.{ℤ, pos, ◌+ℤ◌, ◌-ℤ◌, ◌*ℤ◌}
use Rattle.algebra.specs.Gauss.{𝔾, ◌-ᵍ◌, ◌*ᵍ◌, ιᵍ, two, twoᵍ}
use Rattle.algebra.specs.Order.{◌⩽◌}
use Rattle.algebra.specs.Size.{Within, Size, Parts}
use Rattle.algebra.proofs.Gauss.{𝔾R}
use Rattle.algebra.proofs.Reify.{ring!, reify, reifyᵍ}
use Rattle.algebra.proofs.Order.{⩽_refl, nonneg_mul, nonneg_pos, nonneg_sq, sub_nonneg, pos_mono}
use Rattle.algebra.proofs.Linear.{lin, ◌&◌, ◌&≡◌, none}
use Rattle.algebra.proofs.Inequality.{nonneg, one_mul}
use Rattle.algebra.proofs.Power.{two≥1, two_mono, two_mul_le, two_part, two_whole}
use Rattle.algebra.proofs.Within.{within_add, within_sub, within_mul, within_scale, within_cancel, within_weaken, within_ratio}
use Rattle.algebra.proofs.Parts.{size_sq, size_sign, parts_weaken, parts_cancel, parts_within, within_parts, parts_length}
use Rattle.series.specs.Series.{D, Sᵍ, Dᵍ, Dᶻ}
use Rattle.series.proofs.Laws.{laws_at}
use Rattle.point.specs.Point.{gauss}
use Rattle.table_numbers.specs.Promise.{StepTable}
use Rattle.table_numbers.proofs.Promises.{StepPromise}
use Rattle.iteration.specs.declared.State.{State}
use Rattle.iteration.specs.Select.{Exp}
use Rattle.iteration.specs.Run.{state, run}
use Rattle.iteration.proofs.Factor.{product_most}
use Rattle.iteration.proofs.Drift.{Short, Near, near_start, drift}
use Rattle.exponential.specs.Answer.{rounding_share}
use Rattle.exponential.proofs.Convergence.{Rectangle, below_parts, Boxed, boxed_start, boxed_next, boxed_below, boxed}

-- ---- the end, as algebra: q = 2^N, one is 64·q·v units, S is the exponential of what is left, which is at most 91·v long
module _ (q v n P δ m : ℤ) (p s Q S S₀ : 𝔾) (q≥2 : pos 2 ⩽ q) (v≥1 : pos 1 ⩽ v) (n≤40 : n ⩽ pos 40) (P≥0 : pos 0 ⩽ P) (δ≥1 : pos 1 ⩽ δ)
    (given : Parts s m)
    (Q-size : Within (ιᵍ (pos 4 *ℤ (q *ℤ q)) *ᵍ Q) (product_most q *ℤ δ))
    (rounded : Within (ιᵍ δ *ᵍ p -ᵍ Q *ᵍ s) (rounding_share *ℤ n *ℤ δ))
    (tabled : Within (ιᵍ (pos 128 *ℤ q) *ᵍ (Q *ᵍ S -ᵍ ιᵍ δ *ᵍ S₀)) (n *ℤ (δ *ℤ (pos 4 *ℤ P))))
    (left : Within (ιᵍ (pos 2 *ℤ (q *ℤ (pos 64 *ℤ v)) -ℤ pos 91 *ℤ v) *ᵍ (S -ᵍ ιᵍ P)) (pos 2 *ℤ (pos 91 *ℤ v) *ℤ P)) where
  δ≥0 : pos 0 ⩽ δ
  δ≥0 = nonneg δ≥1

  q≥1 : pos 1 ⩽ q
  q≥1 = lin (q ∷ []) (q≥2 & none) (search reify depth 20) tt

  -- Q/δ is S₀/P but for 21/4 of 1/2^N: 5/4 from the tables and 4 from what is left
  abbrev k : ℤ
  k = pos 2 *ℤ (q *ℤ (pos 64 *ℤ v)) -ℤ pos 91 *ℤ v

  end : Within (ιᵍ q *ᵍ (Q *ᵍ (S -ᵍ ιᵍ P))) (pos 4 *ℤ (δ *ℤ P))
  end = within_ratio (Q *ᵍ (S -ᵍ ιᵍ P)) (pos 4 *ℤ (q *ℤ q) *ℤ k) q
      (one_mul {b = k} (one_mul {a = pos 4} (record { le = tt }) (one_mul q≥1 q≥1))
      (lin (q ∷ v ∷ []) (nonneg_mul (sub_nonneg q≥1) (nonneg v≥1) & v≥1 & none) (search reify depth 20) tt)) (nonneg q≥1)
      (lin (q ∷ v ∷ δ ∷ P ∷ []) (nonneg_mul a (nonneg_mul (sub_nonneg q≥2) (sub_nonneg q≥2)) & nonneg_mul a (sub_nonneg q≥2) & a & none)
      (search reify depth 20) tt)
      (subst (λ z. Within z (product_most q *ℤ δ *ℤ (pos 2 *ℤ (pos 91 *ℤ v) *ℤ P)))
      (ring! 𝔾R (ιᵍ q ∷ ιᵍ v ∷ Q ∷ S ∷ ιᵍ P ∷ []) (search reifyᵍ depth 20) tt) (within_mul Q-size left))
    where
      a : pos 0 ⩽ q *ℤ (v *ℤ (δ *ℤ P))
      a = nonneg_mul (nonneg q≥1) (nonneg_mul (nonneg v≥1) (nonneg_mul δ≥0 P≥0))

  pub relative : Within (ιᵍ (pos 4 *ℤ q) *ᵍ (Q *ᵍ ιᵍ P -ᵍ ιᵍ δ *ᵍ S₀)) (pos 21 *ℤ (δ *ℤ P))
  relative = within_cancel (pos 32) (record { le = tt }) (subst (λ z. Within z (pos 32 *ℤ (pos 21 *ℤ (δ *ℤ P))))
      (ring! 𝔾R (ιᵍ q ∷ ιᵍ δ ∷ ιᵍ P ∷ Q ∷ S ∷ S₀ ∷ []) (search reifyᵍ depth 20) tt)
      (within_weaken (within_sub tabled (within_scale (pos 128) (nonneg_pos 128) end))
      (lin (n ∷ δ ∷ P ∷ []) (nonneg_mul (nonneg_mul δ≥0 P≥0) (sub_nonneg n≤40) & none) (search reify depth 20) tt)))

  -- 2079/280 of m, so 520/70 (what is left of 8 is for the range reduction: 02, E5)
  pub total : Within (ιᵍ (pos 70) *ᵍ (ιᵍ q *ᵍ (p *ᵍ ιᵍ P -ᵍ s *ᵍ S₀))) ((pos 520 *ℤ m +ℤ pos 70 *ℤ (rounding_share *ℤ n *ℤ q)) *ℤ P)
  total = within_cancel (pos 4 *ℤ δ) (one_mul {a = pos 4} (record { le = tt }) δ≥1)
      (subst (λ z. Within z (pos 4 *ℤ δ *ℤ ((pos 520 *ℤ m +ℤ pos 70 *ℤ (rounding_share *ℤ n *ℤ q)) *ℤ P)))
      (ring! 𝔾R (ιᵍ q ∷ ιᵍ δ ∷ ιᵍ P ∷ p ∷ s ∷ Q ∷ S₀ ∷ []) (search reifyᵍ depth 20) tt)
      (within_weaken (within_add (within_scale (pos 280 *ℤ (q *ℤ P)) (nonneg_mul (nonneg_pos 280) (nonneg_mul (nonneg q≥1) P≥0)) rounded)
      (within_mul (parts_within given) relative))
      (lin (q ∷ n ∷ δ ∷ P ∷ m ∷ []) (nonneg_mul (nonneg_mul δ≥0 P≥0) (size_sign given.re) & none) (search reify depth 20) tt)))

module _ (F M : ℕ) (wide : 16 ≤ F) (room : M + 8 ≤ F) (t : StepTable) (promise : StepPromise F M t) (e : 𝔾) (rect : Rectangle F e)
    (s : 𝔾) where
  -- the state after the steps 1 to n
  abbrev x : ℕ → State
  x n = run F t Exp 0 n (state s e)

  -- what is left of the exponent, as a length
  left_length : (n : ℕ) {z : 𝔾} → n ≤ M → Boxed F (suc n) z → Within z (pos 91 *ℤ two (F - 6 - n))
  left_length n {z} g b = parts_length (two (F - 6 - n)) (nonneg_pos (2 ^ (F - 6 - n)))
      (subst (λ b. Parts z b) (sym (two_part 6 F n (omega arith))) (below_parts (boxed_below F M wide room t promise n z g b)))

  short : (n : ℕ) (z : 𝔾) → suc n ≤ M → Boxed F (suc (suc n)) z → Short F (pos 9 *ℤ two (F - 2)) (suc n) z
  short n z g b = within_weaken (left_length (suc n) g b) (lin (u ∷ two (F - 2) ∷ two (F - 2 - suc n) ∷ [])
      (sixteen & double & nonneg_pos (2 ^ (F - 6 - suc n)) & none)
      (search reify depth 20) tt)
    where
      u : ℤ
      u = two (F - 6 - suc n)

      sixteen : pos 16 *ℤ u ⩽ two (F - 2 - suc n)
      sixteen = two_mul_le 4 (F - 6 - suc n) (F - 2 - suc n) (omega arith)

      double : pos 2 *ℤ two (F - 2 - suc n) ⩽ two (F - 2)
      double = two_mul_le 1 (F - 2 - suc n) (F - 2) (omega arith)

  -- exp(e) is at most 203/53 long, as |e| ≤ 75/64
  origin : (T : ℕ) → 24 ≤ T → Within (Sᵍ (2 ^ F) T e) (pos 4 *ℤ Dᶻ (2 ^ F) T)
  origin T long = within_cancel (pos 2 *ℤ two F -ℤ ρ) (lin (two F ∷ u ∷ []) (unit &≡ two≥1 (F - 6) & none) (search reify depth 20) tt)
      (within_weaken ((laws_at F).size size (lin (two F ∷ u ∷ []) (unit &≡ u≥0 & none) (search reify depth 20) tt) T (omega arith))
      (lin (two F ∷ u ∷ Dᶻ (2 ^ F) T ∷ []) (ap (λ v. v *ℤ Dᶻ (2 ^ F) T) unit &≡ nonneg_mul u≥0 (nonneg_pos (D (2 ^ F) T)) & none)
      (search reify depth 20) tt))
    where
      u : ℤ
      u = two (F - 6)

      u≥0 : pos 0 ⩽ u
      u≥0 = nonneg_pos (2 ^ (F - 6))

      ρ : ℤ
      ρ = pos 75 *ℤ u

      unit : pos 64 *ℤ u ≡ two F
      unit = two_whole 6 F (omega arith)

      re : Size e.re (pos 55 *ℤ u)
      re = record {
        lo = lin (e.re ∷ u ∷ two F ∷ []) (rect.re_lo & unit &≡ u≥0 & none) (search reify depth 20) tt;
        hi = lin (e.re ∷ u ∷ two F ∷ [])
            (rect.re_hi & unit &≡ none) (search reify depth 20) tt;
      }

      im : Size e.im (pos 47 *ℤ u)
      im = record {
        lo = lin (e.im ∷ u ∷ two F ∷ []) (rect.im_lo & unit &≡ none) (search reify depth 20) tt;
        hi = lin (e.im ∷ u ∷ two F ∷ [])
            (rect.im_hi & unit &≡ none) (search reify depth 20) tt;
      }

      size : Within e ρ
      size = record {
        sign = nonneg_mul (nonneg_pos 75) u≥0;
        size = lin (e.re ∷ e.im ∷ u ∷ []) (size_sq re & size_sq im & nonneg_sq u & none) (search reify depth 20) tt;
      }

  -- the drift of n steps, with 1/2^L for the measure of the tables' share
  pub drifted : (L n T : ℕ) → n ≤ L → L ≤ M → L ≤ 40 → 24 ≤ T → Near F L T s (Sᵍ (2 ^ F) T e) (pos 4 *ℤ Dᶻ (2 ^ F) T) n (x n)
  drifted L n T h g k long = drift (omega arith) (omega arith) k long s (Sᵍ (2 ^ F) T e) (pos 4 *ℤ Dᶻ (2 ^ F) T) P≤B (origin T long) t
      (λ j lo hi. promise j lo (omega arith)) Exp
      (λ j y. Boxed F (suc j) (gauss y.sum)) (pos 9 *ℤ two (F - 2)) (⩽_refl (pos 9 *ℤ two (F - 2)))
      (λ j y h. boxed_next F M wide room t promise j y (omega arith)) (λ j y h. short j (gauss y.sum) (omega arith))
      0 n n (state s e) (omega arith) h (boxed_start F M wide room t promise e rect)
      (near_start s e (pos 4 *ℤ Dᶻ (2 ^ F) T))
    where
      P≤B : Dᶻ (2 ^ F) T ⩽ pos 4 *ℤ Dᶻ (2 ^ F) T
      P≤B = lin (Dᶻ (2 ^ F) T ∷ []) (nonneg_pos (D (2 ^ F) T) & none) (search reify depth 20) tt

  -- what is left after n steps has an exponential near one
  pub left_near_one : (n T : ℕ) → n ≤ M → 24 ≤ T →
      Within (ιᵍ (pos 2 *ℤ (two n *ℤ (pos 64 *ℤ two (F - 6 - n))) -ℤ pos 91 *ℤ two (F - 6 - n)) *ᵍ
      (Sᵍ (2 ^ F) T (gauss (x n).sum) -ᵍ Dᵍ (2 ^ F) T))
      (pos 2 *ℤ (pos 91 *ℤ two (F - 6 - n)) *ℤ Dᶻ (2 ^ F) T)
  left_near_one n T g long = subst (λ U. Within (ιᵍ (pos 2 *ℤ U -ℤ pos 91 *ℤ v) *ᵍ (Sᵍ (2 ^ F) T (gauss (x n).sum) -ᵍ Dᵍ (2 ^ F) T))
      (pos 2 *ℤ (pos 91 *ℤ v) *ℤ Dᶻ (2 ^ F) T)) (sym unit)
      ((laws_at F).near_one (left_length n g (boxed F M wide room t promise (state s e) rect n g))
      (lin (v ∷ two F ∷ []) (two_mul_le 6 (F - 6 - n) F (omega arith) & nonneg_pos (2 ^ (F - 6 - n)) & none)
      (search reify depth 20) tt) T (omega arith))
    where
      v : ℤ
      v = two (F - 6 - n)

      unit : two n *ℤ (pos 64 *ℤ v) ≡ two F
      unit = ap (λ b. two n *ℤ b) (two_part 6 F n (omega arith)) ∙ two_whole n F (omega arith)

  module _ (m : ℤ) (given : Parts s m) where
    pub exp_error_share : (T : ℕ) → 24 ≤ T → (n : ℕ) → 1 ≤ n → n ≤ M → n ≤ 40 →
        Parts (ιᵍ (pos 70) *ᵍ (twoᵍ n *ᵍ (gauss (x n).point *ᵍ Dᵍ (2 ^ F) T -ᵍ s *ᵍ Sᵍ (2 ^ F) T e)))
        ((pos 520 *ℤ m +ℤ pos 70 *ℤ (rounding_share *ℤ pos n *ℤ two n)) *ℤ Dᶻ (2 ^ F) T)
    exp_error_share T long n h g k = within_parts (total (two n) (two (F - 6 - n)) (pos n) (Dᶻ (2 ^ F) T) a.exact.δ m
        (gauss (x n).point) s a.exact.Q (Sᵍ (2 ^ F) T (gauss (x n).sum)) (Sᵍ (2 ^ F) T e) (two_mono 1 n h) (two≥1 (F - 6 - n))
        (pos_mono k) (nonneg_pos (D (2 ^ F) T)) a.exact.δ≥1 given a.exact.Q-size rounded a.tabled (left_near_one n T g long))
      where
        a : Near F n T s (Sᵍ (2 ^ F) T e) (pos 4 *ℤ Dᶻ (2 ^ F) T) n (x n)
        a = drifted n n T (omega arith) g k long

        -- what the point drifts in n steps is within the share of the error bound that the steps' rounding has
        rounded : Within (ιᵍ a.exact.δ *ᵍ gauss (x n).point -ᵍ a.exact.Q *ᵍ s) (rounding_share *ℤ pos n *ℤ a.exact.δ)
        rounded = within_weaken a.exact.rounded (lin (pos n ∷ a.exact.δ ∷ [])
            (nonneg_mul (nonneg_pos n) (nonneg a.exact.δ≥1) & none) (search reify depth 20) tt)

    -- THE ERROR
    pub exp_error : (T : ℕ) → 24 ≤ T → (n : ℕ) → 1 ≤ n → n ≤ M → n ≤ 40 →
        Parts (twoᵍ n *ᵍ (gauss (x n).point *ᵍ Dᵍ (2 ^ F) T -ᵍ s *ᵍ Sᵍ (2 ^ F) T e))
        ((pos 8 *ℤ m +ℤ rounding_share *ℤ pos n *ℤ two n) *ℤ Dᶻ (2 ^ F) T)
    exp_error T long n h g k = parts_cancel (pos 70) (record { le = tt }) (parts_weaken (exp_error_share T long n h g k)
        (lin (m ∷ pos n ∷ two n ∷ Dᶻ (2 ^ F) T ∷ []) (nonneg_mul (size_sign given.re) (nonneg_pos (D (2 ^ F) T)) & none)
        (search reify depth 20) tt))
