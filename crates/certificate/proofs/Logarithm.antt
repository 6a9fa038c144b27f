-- What is left over, the last point less one, is a certificate for LOG's answer: 2^(F+k)·i^q times the exponential of the answer, times one
-- and what is left, is the given point but for (10·N + 3)·M/2^F units, from the rounding, the tables and the scale alone: nothing of it is
-- M/2^N. At every width up to 48, for all tables that keep the promise.
use mathlib.Core.Path.{◌≡◌, sym, ◌∙◌, ap, ap₂, subst}
use mathlib.Core.List.{[], ◌∷◌}
use Prim.Native.Nat.{ℕ, ◌+◌, ◌-◌, ◌^◌, ◌≤◌}
use native.Mathlib.Omega.{arith}
use lib.Dec.{lit≤}
use lib.IntN.{ℤ, pos, nat_abs, ◌+ℤ◌, ◌*ℤ◌}
use Rattle.algebra.specs.Gauss.{𝔾, gi, ιᵍ, ◌+ᵍ◌, ◌-ᵍ◌, ◌*ᵍ◌, two, twoᵍ}
use Rattle.algebra.specs.Order.{◌⩽◌}
use Rattle.algebra.specs.Size.{Within, Parts, larger}
use Rattle.algebra.proofs.Gauss.{𝔾R, g_ι_mul}
use Rattle.algebra.proofs.Reify.{ring!, reify, reifyᵍ}
use Rattle.algebra.proofs.Order.{nonneg_mul, nonneg_pos, sub_nonneg}
use Rattle.algebra.proofs.Linear.{lin, ◌&◌, ◌&≡◌, none}
use Rattle.algebra.proofs.Inequality.{nonneg, one_mul}
use Rattle.algebra.proofs.Power.{two≥1, two_mono, two_whole}
use Rattle.algebra.proofs.Within.{within_add, within_sub, within_mul, within_scale, within_cancel, within_weaken, within_ratio}
use Rattle.algebra.proofs.Parts.{size_abs, parts_within, within_parts}
use Rattle.series.specs.Series.{D, Sᵍ, Dᵍ, Dᶻ}
use Rattle.point.specs.Point.{gauss, one}
use Rattle.point.proofs.InLimits.{Counts, steps_say}
use Rattle.table_numbers.specs.Promise.{StepTable, ReciprocalTable}
use Rattle.table_numbers.specs.Table.{step_table, reciprocal_table}
use Rattle.table_numbers.proofs.Promises.{StepPromise, ReciprocalPromise}
use Rattle.tables.proofs.Promises.{step_promise, reciprocal_promise}
use Rattle.iteration.proofs.Drift.{drift_a_step, Near}
use Rattle.logarithm.specs.Reduction.{quadrant, turned, bit_length, binary_exponent_of, scaled, up, down}
use Rattle.logarithm.specs.Answer.{i^, power, ended, figures, log_answer}
use Rattle.logarithm.specs.Code.{Cone, Accepted}
use Rattle.certificate.specs.Logarithm.{miss, allowed, CertifiedAt, Certified}
use Rattle.logarithm.proofs.Quadrant.{point_is, within_i, cone_pos, cone_parts}
use Rattle.logarithm.proofs.Scale.{length_law, power_is, up_down, scaled_error, scaled_ranges, scaled_parts}
use Rattle.logarithm.proofs.Error.{drifted, turned_error}
use Rattle.logarithm.proofs.Close.{cone, M-is, answer_keeps}

-- ---- as algebra: one is 256·H units, Z = 2^N, n = N; up and down scale by 2^−k, B is one times 2^k; x is M
module _ (H Z n up down B δ P x : ℤ) (w w' v Q g : 𝔾)
    (same : up *ℤ B ≡ down *ℤ (pos 256 *ℤ H)) (H≥0 : pos 0 ⩽ H) (Z≥8 : pos 8 ⩽ Z) (n≥0 : pos 0 ⩽ n) (up≥1 : pos 1 ⩽ up)
    (down≥0 : pos 0 ⩽ down) (B-most : B ⩽ pos 2 *ℤ x) (δ≥1 : pos 1 ⩽ δ) (P≥0 : pos 0 ⩽ P) (x≥0 : pos 0 ⩽ x)
    (w_size : Parts w x) (w'_size : Parts w' (pos 256 *ℤ H))
    (scale : Parts (ιᵍ up *ᵍ w -ᵍ ιᵍ down *ᵍ w') down)
    (rounded : Within (ιᵍ δ *ᵍ v -ᵍ Q *ᵍ w') (drift_a_step *ℤ n *ℤ δ))
    (tabled : Within (ιᵍ (pos 128 *ℤ H) *ᵍ (Q *ᵍ g -ᵍ ιᵍ δ *ᵍ ιᵍ P)) (n *ℤ (δ *ℤ P)))
    (close : Within (ιᵍ Z *ᵍ (w *ᵍ ιᵍ P -ᵍ ιᵍ B *ᵍ g)) (pos 3 *ℤ x *ℤ P)) where
  -- how long the exponential of the answer is, by its closeness: 1002/560 is 99/70 and 3/8
  g_size : Within (ιᵍ (pos 560) *ᵍ (ιᵍ B *ᵍ g)) (pos 1002 *ℤ (x *ℤ P))
  g_size = subst (λ z. Within z (pos 1002 *ℤ (x *ℤ P)))
      (ring! 𝔾R (w ∷ g ∷ ιᵍ B ∷ ιᵍ P ∷ []) (search reifyᵍ depth 20) tt)
      (within_weaken (within_sub (within_scale (pos 8 *ℤ P) (nonneg_mul (nonneg_pos 8) P≥0) (parts_within w_size))
      (within_scale (pos 70) (nonneg_pos 70) (within_ratio {s = pos 3 *ℤ x *ℤ P} (w *ᵍ ιᵍ P -ᵍ ιᵍ B *ᵍ g) Z (pos 8)
      (lin (Z ∷ []) (Z≥8 & none) (search reify depth 20) tt) (nonneg_pos 8)
      (lin (Z ∷ x ∷ P ∷ []) (nonneg_mul (nonneg_mul x≥0 P≥0) (sub_nonneg Z≥8) & none) (search reify depth 20) tt) close)))
      (lin (x ∷ P ∷ []) none (search reify depth 20) tt))

  product : ιᵍ down *ᵍ ιᵍ (pos 256 *ℤ H) ≡ ιᵍ up *ᵍ ιᵍ B
  product = sym (g_ι_mul down (pos 256 *ℤ H)) ∙ ap ιᵍ (sym same) ∙ g_ι_mul up B

  c : ℤ
  c = pos 560 *ℤ (up *ℤ δ)

  r : ℤ
  r = (pos 10 *ℤ n +ℤ pos 3) *ℤ x *ℤ P

  -- what the rounding, the tables and the scale make: 2004/560 and 3168/560 of n, and 1584/560
  shares : Within (ιᵍ up *ᵍ (ιᵍ (pos 560) *ᵍ (ιᵍ B *ᵍ g) *ᵍ (ιᵍ δ *ᵍ v -ᵍ Q *ᵍ w'))
      +ᵍ ιᵍ (pos 16 *ℤ down) *ᵍ (ιᵍ (pos 70) *ᵍ w' *ᵍ (ιᵍ (pos 128 *ℤ H) *ᵍ (Q *ᵍ g -ᵍ ιᵍ δ *ᵍ ιᵍ P)))
      -ᵍ ιᵍ (pos 2048 *ℤ H *ℤ (δ *ℤ P)) *ᵍ (ιᵍ (pos 70) *ᵍ (ιᵍ up *ᵍ w -ᵍ ιᵍ down *ᵍ w'))) (c *ℤ r)
  unfolding c r
  shares = within_weaken
      (within_sub (within_add (within_scale up (nonneg up≥1) (within_mul g_size rounded))
      (within_scale (pos 16 *ℤ down) (nonneg_mul (nonneg_pos 16) down≥0) (within_mul (parts_within w'_size) tabled)))
      (within_scale (pos 2048 *ℤ H *ℤ (δ *ℤ P)) (nonneg_mul (nonneg_mul (nonneg_pos 2048) H≥0) (nonneg_mul (nonneg δ≥1) P≥0))
      (parts_within scale)))
      (lin (H ∷ n ∷ up ∷ down ∷ B ∷ δ ∷ P ∷ x ∷ [])
      (ap (λ u. u *ℤ (δ *ℤ P)) same &≡ ap (λ u. u *ℤ (n *ℤ (δ *ℤ P))) same &≡ nonneg_mul a (sub_nonneg B-most)
      & nonneg_mul (nonneg_mul n≥0 a) (sub_nonneg B-most) & nonneg_mul a x≥0 & nonneg_mul (nonneg_mul n≥0 a) x≥0 & none)
      (search reify depth 20 fits 4000) tt)
    where
      a : pos 0 ⩽ up *ℤ (δ *ℤ P)
      a = nonneg_mul (nonneg up≥1) (nonneg_mul (nonneg δ≥1) P≥0)

  total : Within (ιᵍ B *ᵍ g *ᵍ v -ᵍ w *ᵍ ιᵍ P *ᵍ ιᵍ (pos 256 *ℤ H)) ((pos 10 *ℤ n +ℤ pos 3) *ℤ x *ℤ P)
  unfolding c r
  total = within_cancel c (one_mul {a = pos 560} (record { le = tt }) (one_mul up≥1 δ≥1))
      (subst (λ z. Within z (c *ℤ r))
      (ring! 𝔾R (ιᵍ H ∷ ιᵍ up ∷ ιᵍ down ∷ ιᵍ B ∷ ιᵍ δ ∷ ιᵍ P ∷ w ∷ w' ∷ v ∷ Q ∷ g ∷ []) (search reifyᵍ depth 20 fits 4000) tt
      ∙ ap (λ m. W +ᵍ ιᵍ (pos 560) *ᵍ (g *ᵍ Q *ᵍ w') *ᵍ (m -ᵍ ιᵍ up *ᵍ ιᵍ B)) product
      ∙ ring! 𝔾R (ιᵍ H ∷ ιᵍ up ∷ ιᵍ B ∷ ιᵍ δ ∷ ιᵍ P ∷ w ∷ w' ∷ v ∷ Q ∷ g ∷ []) (search reifyᵍ depth 20 fits 4000) tt) shares)
    where
      W : 𝔾
      W = ιᵍ (pos 560) *ᵍ (ιᵍ up *ᵍ ιᵍ δ *ᵍ (ιᵍ B *ᵍ g *ᵍ v -ᵍ w *ᵍ ιᵍ P *ᵍ ιᵍ (pos 256 *ℤ H)))

-- ---- of the turned point
module _ (F : ℕ) (narrow : F ≤ 48) (steps : StepTable) (logs : ReciprocalTable) (entries : StepPromise F (F - 8) steps)
    (reciprocals : ReciprocalPromise F logs) (T : ℕ) (enough : 24 ≤ T) (n : ℕ) (few : 3 ≤ n) (fits : n + 8 ≤ F) (w : 𝔾)
    (cone : Cone w) where
  turned_certified : let x = ended F steps logs n w in
      Within (ιᵍ (two (bit_length w)) *ᵍ Sᵍ (2 ^ F) T (gauss x.sum) *ᵍ gauss x.point -ᵍ w *ᵍ Dᵍ (2 ^ F) T *ᵍ twoᵍ F)
      ((pos 10 *ℤ pos n +ℤ pos 3) *ℤ w.re *ℤ Dᶻ (2 ^ F) T)
  turned_certified = subst (λ U. Within (ιᵍ (two b) *ᵍ g *ᵍ v -ᵍ w *ᵍ Dᵍ (2 ^ F) T *ᵍ ιᵍ U)
      ((pos 10 *ℤ pos n +ℤ pos 3) *ℤ w.re *ℤ Dᶻ (2 ^ F) T)) unit
      (total (two (F - 8)) (two n) (pos n) (pos (up F b)) (pos (down F b)) (two b) a.exact.δ (Dᶻ (2 ^ F) T) w.re
      w (scaled F w) v a.exact.Q g
      (ap pos (up_down F b) ∙ ap (λ U. pos (down F b) *ℤ U) (sym unit)) (nonneg_pos (2 ^ (F - 8))) (two_mono 3 n few) (nonneg_pos n)
      (two≥1 (F - b)) (nonneg_pos (down F b)) (length_law w (cone_pos cone)).half a.exact.δ≥1 (nonneg_pos (D (2 ^ F) T))
      (nonneg (cone_pos cone)) (cone_parts cone)
      (subst (λ U. Parts (scaled F w) U) (sym unit) (scaled_parts (scaled_ranges F (omega arith) w cone)))
      (scaled_error F w) a.exact.rounded a.tabled
      (turned_error F narrow (F - 8) steps logs entries reciprocals T enough n few fits (omega arith) w cone))
    where
      b : ℕ
      b = bit_length w

      g : 𝔾
      g = Sᵍ (2 ^ F) T (gauss (ended F steps logs n w).sum)

      v : 𝔾
      v = gauss (ended F steps logs n w).point

      unit : pos 256 *ℤ two (F - 8) ≡ two F
      unit = two_whole 8 F (omega arith)

      a : Near F (F - 8) T (scaled F w) (Dᵍ (2 ^ F) T) (Dᶻ (2 ^ F) T) n (ended F steps logs n w)
      a = drifted F narrow (F - 8) steps logs entries reciprocals T enough n few fits (omega arith) w cone
          (F - 8) (omega arith) (omega arith) (omega arith)

module _ (F : ℕ) (wide : 11 ≤ F) (narrow : F ≤ 48) (steps : StepTable) (logs : ReciprocalTable) (entries : StepPromise F (F - 8) steps)
    (reciprocals : ReciprocalPromise F logs) where
  -- for every input that meets no refusal
  pub certified_at : {n : ℤ} {p : 𝔾} → Accepted F n p → (T : ℕ) → 24 ≤ T → CertifiedAt F (nat_abs n) T p (figures F steps logs (nat_abs n) p)
  certified_at {n} {p} a T enough = record { re = size_abs off.re; im = size_abs off.im }
    where
      w : 𝔾
      w = turned p

      q : 𝔾
      q = i^ (quadrant p)

      count : Counts F 3 n
      count = steps_say F 3 n a.steps

      -- from the turned point back to the given one, with 2^(F+k) for the length of wx in bits, and from the last point to what is left
      turn_back : (g v : 𝔾) → q *ᵍ (ιᵍ (two (bit_length w)) *ᵍ g *ᵍ v -ᵍ w *ᵍ Dᵍ (2 ^ F) T *ᵍ twoᵍ F)
          ≡ ιᵍ (power F (binary_exponent_of F w)) *ᵍ q *ᵍ g *ᵍ (one F +ᵍ (v -ᵍ one F)) -ᵍ p *ᵍ Dᵍ (2 ^ F) T *ᵍ twoᵍ F
      turn_back g v = ring! 𝔾R (q ∷ w ∷ Dᵍ (2 ^ F) T ∷ twoᵍ F ∷ ιᵍ (two (bit_length w)) ∷ g ∷ v ∷ one F ∷ []) (search reifyᵍ depth 20) tt
          ∙ ap₂ (λ h z. ιᵍ h *ᵍ q *ᵍ g *ᵍ (one F +ᵍ (v -ᵍ one F)) -ᵍ z *ᵍ Dᵍ (2 ^ F) T *ᵍ twoᵍ F) (sym (power_is F w)) (point_is p)

      off : Parts (miss F T p (figures F steps logs (nat_abs n) p)) (allowed F (nat_abs n) T (larger p))
      off = within_parts (subst (λ z. Within z (allowed F (nat_abs n) T (larger p))) (turn_back _ _)
          (within_weaken (within_mul (within_i p)
          (turned_certified F narrow steps logs entries reciprocals T enough (nat_abs n) count.at_least (omega (arith, count.at_most)) w
          (cone F wide a)))
          (lin (w.re ∷ larger p ∷ pos (nat_abs n) ∷ Dᶻ (2 ^ F) T ∷ [])
          (ap (λ x. (pos 10 *ℤ pos (nat_abs n) +ℤ pos 3) *ℤ x *ℤ Dᶻ (2 ^ F) T) (M-is F wide a) &≡ none) (search reify depth 20) tt)))

-- THE CERTIFICATE, for all inputs of the call
pub log_certified : (n x y : ℤ) → Certified n x y (log_answer n x y)
unfolding log_answer
log_certified n x y = answer_keeps 48 step_table reciprocal_table n (gi x y) (Certified n x y) (λ r. tt)
    (certified_at 48 (lit≤ tt) (lit≤ tt) step_table reciprocal_table step_promise reciprocal_promise)
