-- The error of the turned point, over any width F up to 48 and any tables that keep the promise: what the rounding, the tables and the
-- remainder after step N make together is at most 3M/2^N (Together: as algebra).
use mathlib.Core.Path.{◌≡◌, sym, ◌∙◌, ap, subst, subst₂}
use mathlib.Core.List.{[], ◌∷◌}
use Prim.Native.Nat.{ℕ, zero, suc, ◌+◌, ◌-◌, ◌^◌, ◌≤◌}
use native.Mathlib.Nat.{not-suc-le-zero}
use native.Mathlib.Omega.{arith}
use lib.IntN.{ℤ, pos, ◌*ℤ◌}
use Rattle.algebra.specs.Gauss.{𝔾, ιᵍ, negᵍ, ◌-ᵍ◌, ◌*ᵍ◌, N, two, twoᵍ}
use Rattle.algebra.specs.Order.{◌⩽◌}
use Rattle.algebra.specs.Size.{Within, Parts}
use Rattle.algebra.proofs.Integer.{ℤR}
use Rattle.algebra.proofs.Gauss.{𝔾R, g_mul_one}
use Rattle.algebra.proofs.Reify.{ring!, reify, reifyᵍ}
use Rattle.algebra.proofs.Order.{⩽_refl, nonneg_pos, pos_mono}
use Rattle.algebra.proofs.Linear.{lin, ◌&◌, ◌&≡◌, none}
use Rattle.algebra.proofs.Inequality.{nonneg}
use Rattle.algebra.proofs.Power.{two≥1, two_suc, two_mono, two_mul_le, two_whole, below_two}
use Rattle.algebra.proofs.Within.{within_ι, within_neg, within_weaken, within_scale, within_cancel}
use Rattle.algebra.proofs.Parts.{parts_within, parts_neg}
use Rattle.series.specs.Series.{D, Sᵍ, Dᵍ, Dᶻ}
use Rattle.series.proofs.Series.{exp_zero}
use Rattle.point.specs.Point.{gauss}
use Rattle.table_numbers.specs.Promise.{StepTable, ReciprocalTable, ReciprocalEntry}
use Rattle.table_numbers.proofs.Promises.{StepPromise, ReciprocalPromise}
use Rattle.iteration.specs.Select.{Log, half}
use Rattle.iteration.specs.Run.{state, run}
use Rattle.iteration.proofs.Drift.{Short, Exact, exact_length, Near, one_factor, drift}
use Rattle.logarithm.specs.Reduction.{bit_length, scaled, up, down, cell_x, cell_y, reciprocal_of, reduced}
use Rattle.logarithm.specs.Answer.{begun, ended}
use Rattle.logarithm.specs.Code.{Cone}
use Rattle.logarithm.proofs.Quadrant.{cone_pos, cone_parts}
use Rattle.logarithm.proofs.Scale.{up_down, scaled_error, scaled_ranges}
use Rattle.logarithm.proofs.Cell.{reciprocal_size, reduced_error}
use Rattle.logarithm.proofs.Convergence.{one_halves, half_large, converges, most, log_short, sum_next, begun_converging, begun_entry}
use Rattle.logarithm.proofs.Together.{together}

-- e^0 = 1
S-zero : (U T : ℕ) → 24 ≤ T → Dᵍ U T ≡ Sᵍ U T (ιᵍ (pos 0))
S-zero U zero h = absurd (not-suc-le-zero h)
S-zero U (suc T) h = sym (exp_zero U T)

-- ---- the reciprocal c/64, with the logarithm s, is a factor like those of the steps: after it the state is near (iteration, Drift) as
-- after step 2 of the iteration from the scaled point p and nought, and the steps 3 to n keep it so, with 1/2^L for the measure of the
-- tables' share
module _ {F L T : ℕ} (room : L + 8 ≤ F) (many : 3 ≤ L) (few : L ≤ 40) (long : 24 ≤ T) (p v c s : 𝔾) (entry : ReciprocalEntry F c s)
    (small : N c ⩽ pos 15200)
    (start : Parts (c *ᵍ p -ᵍ ιᵍ (pos 64) *ᵍ v) (pos 64)) where
  abbrev P : ℤ
  P = Dᶻ (2 ^ F) T

  abbrev E : 𝔾
  E = Sᵍ (2 ^ F) T (ιᵍ (pos 0))

  exact : Exact p 2 v
  unfolding ιᵍ ◌*ᵍ◌
  exact = record {
    δ = pos 64;
    Q = c;
    δ≥1 = record { le = tt };
    Q-size = record { sign = record { le = tt }; size = lin (c.re ∷ c.im ∷ []) (small & none) (search reify depth 20) tt };
    rounded = within_cancel (pos 70) (record { le = tt })
        (within_weaken (parts_within (subst (λ z. Parts z (pos 64)) turn (parts_neg start))) (record { le = tt }));
  }
    where
      turn : negᵍ (c *ᵍ p -ᵍ ιᵍ (pos 64) *ᵍ v) ≡ ιᵍ (pos 64) *ᵍ v -ᵍ c *ᵍ p
      turn = ring! 𝔾R (c ∷ p ∷ v ∷ []) (search reifyᵍ depth 20) tt

  origin : Within E P
  origin = subst (λ z. Within z P) (S-zero (2 ^ F) T long) (within_ι P (nonneg_pos (D (2 ^ F) T)))

  short : Short F (most F) 2 s
  short = log_short F (omega arith) entry

  after_reciprocal : Near F L T p E P 2 (state v (negᵍ s))
  unfolding exact
  after_reciprocal = record {
    exact = exact;
    tabled = within_weaken (subst₂ (λ Q z. Within (ιᵍ (pos 128 *ℤ two L) *ᵍ (Q *ᵍ Sᵍ (2 ^ F) T z -ᵍ ιᵍ (pos 64) *ᵍ E))
        (pos 1 *ℤ (pos 64 *ℤ P))) (g_mul_one c) minus
        (one_factor (omega arith) room few long p E P (⩽_refl P) origin {n = 0} {δ = pos 1} (ιᵍ (pos 1)) (ιᵍ (pos 0)) 64 c s (omega arith)
        (record { le = tt }) one
        (entry.rule T long) (subst (λ z. Short F (most F) 2 z) (sym minus) (within_neg short)) short
        (lin (two F ∷ two (F - 4) ∷ two (F - 2 - 2) ∷ []) (two_whole 4 F (omega arith) &≡ ap two same &≡ none)
        (search reify depth 20) tt) nothing))
        (lin (P ∷ []) (nonneg_pos (D (2 ^ F) T) & none) (search reify depth 20) tt);
  }
    where
      same : F - 2 - 2 ≡ F - 4
      same = omega arith

      minus : ιᵍ (pos 0) -ᵍ s ≡ negᵍ s
      minus = ring! 𝔾R (s ∷ []) (search reifyᵍ depth 20) tt

      one : Within (ιᵍ (pos 4) *ᵍ ιᵍ (pos 1)) (pos 11 *ℤ pos 1)
      one = within_weaken (within_scale (pos 4) (nonneg_pos 4) (within_ι (pos 1) (nonneg_pos 1))) (record { le = tt })

      nothing : Within (ιᵍ (pos 128 *ℤ two L) *ᵍ (ιᵍ (pos 1) *ᵍ E -ᵍ ιᵍ (pos 1) *ᵍ E)) (pos 0 *ℤ (pos 1 *ℤ P))
      nothing = subst₂ Within (ring! 𝔾R (twoᵍ L ∷ E ∷ []) (search reifyᵍ depth 20) tt) (ring! ℤR (P ∷ []) (search reify depth 20) tt)
          (within_ι (pos 0) (nonneg_pos 0))

  followed : (n : ℕ) → 3 ≤ n → n ≤ L → (t : StepTable) → StepPromise F L t →
      Near F L T p (Dᵍ (2 ^ F) T) (Dᶻ (2 ^ F) T) n (run F t Log 2 (n - 2) (state v (negᵍ s)))
  followed n least reach t promise = subst (λ e. Near F L T p e P n (run F t Log 2 (n - 2) (state v (negᵍ s))))
      (sym (S-zero (2 ^ F) T long))
      (drift (omega arith) room few long p E P (⩽_refl P) origin t promise Log (λ m x. Short F (most F) m (gauss x.sum)) (most F) far
      (sum_next F L room t promise)
      (λ m x h k. k) 2 (n - 2) n (state v (negᵍ s)) (omega arith) reach (within_neg short) after_reciprocal)
    where
      far : most F ⩽ pos 9 *ℤ two (F - 2)
      far = lin (two (F - 2) ∷ two (F - 4) ∷ []) (two_mul_le 2 (F - 4) (F - 2) (omega arith) & nonneg_pos (2 ^ (F - 4)) & none)
          (search reify depth 20) tt

-- ---- with the remainder and the scale
module _ (F : ℕ) (narrow : F ≤ 48) (M : ℕ) (steps : StepTable) (logs : ReciprocalTable) (entries : StepPromise F M steps)
    (reciprocals : ReciprocalPromise F logs) (T : ℕ) (enough : 24 ≤ T) (n : ℕ) (few : 3 ≤ n) (fits : n + 8 ≤ F) (reach : n ≤ M) (w : 𝔾)
    (cone : Cone w) where
  abbrev p : 𝔾
  p = scaled F w

  abbrev t : ℤ
  t = half F (suc n)

  pub drifted : (L : ℕ) → n ≤ L → L ≤ M → L + 8 ≤ F → Near F L T (scaled F w) (Dᵍ (2 ^ F) T) (Dᶻ (2 ^ F) T) n (ended F steps logs n w)
  drifted L h g room = followed room (omega arith) (omega arith) enough p (reduced F p) (reciprocal_of F p) (logs (cell_x F p) (cell_y F p))
      (begun_entry F (omega arith) logs w cone reciprocals) (reciprocal_size F (omega arith) p (scaled_ranges F (omega arith) w cone))
      (reduced_error F p) n few h steps
      (λ m lo hi. entries m lo (omega arith))

  U-is : two F ≡ pos 4 *ℤ t *ℤ two n
  U-is = one_halves F (suc n) (omega arith) ∙ ap (λ x. pos 2 *ℤ x *ℤ t) (two_suc n) ∙ ring! ℤR (two n ∷ t ∷ []) (search reify depth 20) tt

  pub turned_error : Within (twoᵍ n *ᵍ (w *ᵍ Dᵍ (2 ^ F) T -ᵍ ιᵍ (two (bit_length w)) *ᵍ Sᵍ (2 ^ F) T (gauss (ended F steps logs n w).sum)))
      (pos 3 *ℤ w.re *ℤ Dᶻ (2 ^ F) T)
  turned_error = together (two F) (two n) t (pos n) (pos (up F (bit_length w))) (pos (down F (bit_length w))) (two (bit_length w))
      a.exact.δ (Dᶻ (2 ^ F) T) w.re
      w p (gauss (ended F steps logs n w).point) a.exact.Q (Sᵍ (2 ^ F) T (gauss (ended F steps logs n w).sum))
      U-is (ap pos (up_down F (bit_length w))) (half_large F (suc n) 6 (omega arith)) (two_mono 3 n few)
      (nonneg_pos n) (pos_mono (omega arith)) (pos_mono (omega (arith, below_two n))) (two≥1 (bit_length w - F)) a.exact.δ≥1
      (nonneg_pos (D (2 ^ F) T)) (nonneg (cone_pos cone)) (cone_parts cone) (scaled_error F w)
      (converges F steps (begun F logs w) (begun_converging F (omega arith) logs w cone) n few fits)
      (exact_length a.exact) a.exact.rounded a.tabled
    where
      a : Near F n T p (Dᵍ (2 ^ F) T) (Dᶻ (2 ^ F) T) n (ended F steps logs n w)
      a = drifted n (omega arith) reach fits
