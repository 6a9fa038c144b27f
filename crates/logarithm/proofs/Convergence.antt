-- What LOG's steps keep (01, LOG): each part of u, the point less one, is at most 7/64 before the steps, and "Before each step n from 4 on,
-- and after the last step with n = N + 1, each part of 2^n·u is at most 3/2 in size". The sum stays short.
use mathlib.Core.Path.{◌≡◌, sym, ◌∙◌, ap, subst}
use mathlib.Core.List.{[], ◌∷◌}
use Prim.Native.Nat.{ℕ, zero, suc, ◌+◌, ◌*◌, ◌-◌, ◌^◌, ◌≤◌}
use native.Mathlib.Omega.{arith}
use lib.IntN.{ℤ, pos, ◌+ℤ◌, ◌*ℤ◌}
use Rattle.algebra.specs.Gauss.{𝔾, ιᵍ, ◌+ᵍ◌, ◌-ᵍ◌, ◌*ᵍ◌, two, twoᵍ}
use Rattle.algebra.specs.Order.{◌⩽◌}
use Rattle.algebra.specs.Size.{Within, Parts}
use Rattle.algebra.proofs.Gauss.{𝔾R, g_ι_mul}
use Rattle.algebra.proofs.Reify.{ring!, reify, reifyᵍ}
use Rattle.algebra.proofs.Order.{⩽_refl, nonneg_mul, nonneg_pos, sub_nonneg}
use Rattle.algebra.proofs.Linear.{lin, ◌&◌, ◌&≡◌, none}
use Rattle.algebra.proofs.Power.{two≥1, two_suc, two_mono, two_whole, two_halve}
use Rattle.algebra.proofs.Within.{within_ι, within_weaken, within_cancel}
use Rattle.algebra.proofs.Parts.{parts_add, parts_scale, parts_cancel, parts_weaken, parts_digit, within_parts}
use Rattle.point.specs.Point.{gauss}
use Rattle.point.specs.Step.{step}
use Rattle.point.proofs.Digits.{digit_parts}
use Rattle.point.proofs.Rounding.{step_error}
use Rattle.table_numbers.specs.Promise.{StepTable, ReciprocalTable, ReciprocalEntry}
use Rattle.table_numbers.proofs.Promises.{StepPromise, ReciprocalPromise}
use Rattle.iteration.specs.declared.State.{State}
use Rattle.iteration.specs.Select.{Log, half, log_select}
use Rattle.iteration.specs.Run.{select, next, moved, run}
use Rattle.iteration.proofs.Digits.{log_digit, log_near, select_digit}
use Rattle.iteration.proofs.Runs.{run_keeps}
use Rattle.iteration.proofs.Drift.{Short, short_next}
use Rattle.logarithm.specs.Reduction.{scaled, cell_x, cell_y, column, row, reciprocal_of}
use Rattle.logarithm.specs.Answer.{begun}
use Rattle.logarithm.specs.Code.{Cone}
use Rattle.logarithm.proofs.Scale.{Scaled, scaled_ranges}
use Rattle.logarithm.proofs.Cell.{in_table, reduced_near}

-- ---- half of 1/2^n in units
pub one_halves : (F n : ℕ) → suc n ≤ F → two F ≡ pos 2 *ℤ two n *ℤ half F n
one_halves F n h = sym (two_whole (suc n) F h) ∙ ap (λ t. t *ℤ half F n) (two_suc n)

half_halve : (F n : ℕ) → suc (suc n) ≤ F → half F n ≡ pos 2 *ℤ half F (suc n)
half_halve F n h = two_halve F (suc n) h

-- at least 2^k
pub half_large : (F n k : ℕ) → n + suc k ≤ F → two k ⩽ half F n
half_large F n k h = two_mono k (F - suc n) (omega arith)

-- ---- one step: 2^n u' = 2^n (u + d/2^n) + d u and what the step is off. X is 2^n, and one is 2·2^n·t
shape : (X t v v' d one : 𝔾) → one ≡ ιᵍ (pos 2) *ᵍ X *ᵍ t →
    X *ᵍ (v -ᵍ one +ᵍ ιᵍ (pos 2) *ᵍ t *ᵍ d) +ᵍ d *ᵍ (v -ᵍ one) +ᵍ (X *ᵍ v' -ᵍ (X +ᵍ d) *ᵍ v) ≡ X *ᵍ (v' -ᵍ one)
shape X t v v' d one e = ring! 𝔾R (X ∷ t ∷ v ∷ v' ∷ d ∷ one ∷ []) (search reifyᵍ depth 20) tt
    ∙ ap (λ o. X *ᵍ (v' -ᵍ one) +ᵍ d *ᵍ (o -ᵍ one)) (sym e)
    ∙ ring! 𝔾R (X ∷ v' ∷ d ∷ one ∷ []) (search reifyᵍ depth 20) tt

-- from b, at most 3/2 of 1/2^n, u comes to at most 3/4 of it, where there is room for 2 b and the rounding
one_step : (F n : ℕ) → suc (suc n) ≤ F → (v : 𝔾) (b : ℤ) → b ⩽ pos 3 *ℤ half F n → b +ℤ b +ℤ two n ⩽ two n *ℤ half F (suc n) →
    Parts (v -ᵍ twoᵍ F) b →
    Parts (step n (log_select F n v) v -ᵍ twoᵍ F) (pos 3 *ℤ half F (suc n))
one_step F n fits v b l room h = parts_cancel (two n) (two≥1 n) (parts_weaken
    (subst (λ z. Parts z (two n *ℤ half F n +ℤ (b +ℤ b) +ℤ two n)) (shape (twoᵍ n) (ιᵍ (half F n)) v (step n d v) d (twoᵍ F) one_is)
    (parts_add (parts_add (parts_scale (two n) (nonneg_pos (2 ^ n)) (log_near F n v (parts_weaken h l)))
    (parts_digit (digit_parts (log_digit F n v)) h)) (step_error n d v)))
    (lin (b ∷ two n ∷ half F n ∷ half F (suc n) ∷ []) (room & ap (λ x. two n *ℤ x) (half_halve F n fits) &≡ none)
    (search reify depth 20) tt))
  where
    d : 𝔾
    d = log_select F n v

    one_is : twoᵍ F ≡ ιᵍ (pos 2) *ᵍ twoᵍ n *ᵍ ιᵍ (half F n)
    one_is = ap ιᵍ (one_halves F n (omega arith)) ∙ g_ι_mul (pos 2 *ℤ two n) (half F n)
        ∙ ap (λ z. z *ᵍ ιᵍ (half F n)) (g_ι_mul (pos 2) (two n))

-- ---- THE POINT after step n, from 2 on
pub record Converging (F n : ℕ) (x : State) : Type 0 where
  pub least : 2 ≤ n
  pub near : Parts (ιᵍ (pos 64) *ᵍ (gauss x.point -ᵍ twoᵍ F)) (pos 7 *ℤ two F)
  pub left : 3 ≤ n → Parts (gauss x.point -ᵍ twoᵍ F) (pos 3 *ℤ half F (suc n))

module _ (F : ℕ) (t : StepTable) where
  -- step 3: with s for 1/64, half of 1/8 is 4 s and u at most 7 s
  third : 11 ≤ F → (x : State) → Converging F 2 x → Parts (gauss (moved F t Log 3 x).point -ᵍ twoᵍ F) (pos 3 *ℤ half F 4)
  unfolding next select
  third w x c = one_step F 3 (omega arith) (gauss x.point) (pos 7 *ℤ s)
      (lin (s ∷ half F 3 ∷ half F 4 ∷ []) (half_halve F 3 (omega arith) &≡ t₄ &≡ nonneg_pos (2 ^ (F - 6)) & none)
      (search reify depth 20) tt)
      (lin (s ∷ half F 4 ∷ []) (t₄ &≡ half_large F 5 2 (omega arith) & none) (search reify depth 20) tt)
      (parts_cancel (pos 64) (record { le = tt }) (parts_weaken c.near (lin (two F ∷ s ∷ []) (one_halves F 5 (omega arith) &≡ none)
      (search reify depth 20) tt)))
    where
      s : ℤ
      s = half F 5

      t₄ : half F 4 ≡ pos 2 *ℤ s
      t₄ = half_halve F 4 (omega arith)

  -- step n from 4 on
  later : (n : ℕ) → 4 ≤ n → n + 8 ≤ F → (x : State) → Parts (gauss x.point -ᵍ twoᵍ F) (pos 3 *ℤ half F n) →
      Parts (gauss (moved F t Log n x).point -ᵍ twoᵍ F) (pos 3 *ℤ half F (suc n))
  unfolding next select
  later n lo hi x h = one_step F n (omega arith) (gauss x.point) (pos 3 *ℤ half F n) (⩽_refl (pos 3 *ℤ half F n))
      (lin (two n ∷ half F n ∷ half F (suc n) ∷ [])
      (half_halve F n (omega arith) &≡ nonneg_mul (sub_nonneg (two_mono 4 n lo)) (sub_nonneg large) & large & two_mono 4 n lo & none)
      (search reify depth 20) tt) h
    where
      large : two 2 ⩽ half F (suc n)
      large = half_large F (suc n) 2 (omega arith)

  left_next : (n : ℕ) (x : State) → suc n + 8 ≤ F → Converging F n x →
      Parts (gauss (moved F t Log (suc n) x).point -ᵍ twoᵍ F) (pos 3 *ℤ half F (suc (suc n)))
  left_next zero x h c = absurd (omega (arith, c.least))
  left_next (suc zero) x h c = absurd (omega (arith, c.least))
  left_next (suc (suc zero)) x h c = third (omega arith) x c
  left_next (suc (suc (suc n))) x h c = later (suc (suc (suc (suc n)))) (omega arith) (omega arith) x (c.left (omega arith))

  converging_next : (n : ℕ) (x : State) → suc n + 8 ≤ F → Converging F n x → Converging F (suc n) (moved F t Log (suc n) x)
  converging_next n x h c = record {
    least = omega (arith, c.least);
    near = parts_weaken (parts_scale (pos 64) (nonneg_pos 64) (left_next n x h c))
        (lin (two F ∷ two (suc (suc n)) ∷ half F (suc (suc n)) ∷ [])
        (one_halves F (suc (suc n)) (omega arith) &≡ nonneg_mul (nonneg_pos (2 ^ (F - suc (suc (suc n)))))
        (sub_nonneg (two_mono 4 (suc (suc n)) (omega (arith, c.least))))
        & nonneg_pos (2 ^ (F - suc (suc (suc n)))) & none) (search reify depth 20) tt);
    left = λ _. left_next n x h c;
  }

  -- after the steps 3 to n
  module _ (x : State) (start : Converging F 2 x) where
    pub converging_run : (n k : ℕ) → 2 + k ≡ n → n + 8 ≤ F → Converging F n (run F t Log 2 k x)
    converging_run n k e h = run_keeps F t Log (Converging F) (F - 8) (λ n x h. converging_next n x (omega arith)) 2 k n x e
        (omega arith) start

    pub converges : (n : ℕ) → 3 ≤ n → n + 8 ≤ F → Parts (gauss (run F t Log 2 (n - 2) x).point -ᵍ twoᵍ F) (pos 3 *ℤ half F (suc n))
    converges n lo hi = (converging_run n (n - 2) (omega arith) hi).left lo

    -- in 01's words: the parts of 2^(n + 1)·u, twice
    pub converges_times : (n : ℕ) → 3 ≤ n → n + 8 ≤ F →
        Parts (ιᵍ (pos 2 *ℤ two (suc n)) *ᵍ (gauss (run F t Log 2 (n - 2) x).point -ᵍ twoᵍ F)) (pos 3 *ℤ two F)
    converges_times n lo hi = parts_weaken (parts_scale (pos 2 *ℤ two (suc n)) (nonneg_pos (2 * 2 ^ suc n)) (converges n lo hi))
        (lin (two F ∷ two (suc n) ∷ half F (suc n) ∷ []) (one_halves F (suc n) (omega arith) &≡ none) (search reify depth 20) tt)

-- the point itself is at most two in each part
pub point_size : (F n : ℕ) (x : State) → Converging F n x → Parts (gauss x.point) (pos 2 *ℤ two F)
point_size F n x c = parts_cancel (pos 64) (record { le = tt }) (subst (λ z. Parts z (pos 64 *ℤ (pos 2 *ℤ two F)))
    (ring! 𝔾R (gauss x.point ∷ twoᵍ F ∷ []) (search reifyᵍ depth 20) tt)
    (parts_weaken (parts_add c.near (parts_scale (pos 64) (nonneg_pos 64) (within_parts (within_ι (two F) (nonneg_pos (2 ^ F))))))
    (lin (two F ∷ []) (nonneg_pos (2 ^ F) & none) (search reify depth 20) tt)))

-- ---- THE SUM: at most 9/8 long before the steps, so after each it and the entries to come are at most 27/16
abbrev pub most : ℕ → ℤ
most F = pos 27 *ℤ two (F - 4)

pub log_short : (F : ℕ) → 4 ≤ F → {c s : 𝔾} → ReciprocalEntry F c s → Short F (most F) 2 s
log_short F h entry = within_cancel (pos 8) (record { le = tt }) (within_weaken entry.size
    (lin (two F ∷ two (F - 4) ∷ two (F - 2 - 2) ∷ []) (two_whole 4 F h &≡ ap two same &≡ none) (search reify depth 20) tt))
  where
    same : F - 2 - 2 ≡ F - 4
    same = omega arith

module _ (F M : ℕ) (room : M + 8 ≤ F) (t : StepTable) (promise : StepPromise F M t) where
  pub sum_next : (n : ℕ) (x : State) → suc n ≤ M → Short F (most F) n (gauss x.sum) →
      Short F (most F) (suc n) (gauss (moved F t Log (suc n) x).sum)
  unfolding next
  sum_next n x h s = let d = select_digit F Log (suc n) x in
      short_next F n (most F) (omega arith) d (promise (suc n) (omega arith) h (select F Log (suc n) x) d) s

  -- after the steps 3 to n
  pub sum_size : (x : State) → Short F (most F) 2 (gauss x.sum) → (n k : ℕ) → 2 + k ≡ n → n ≤ M →
      Within (gauss (run F t Log 2 k x).sum) (most F)
  sum_size x start n k e h = within_weaken (run_keeps F t Log (λ n x. Short F (most F) n (gauss x.sum)) M sum_next 2 k n x e h start)
      (lin (two (F - 4) ∷ two (F - 2 - n) ∷ []) (nonneg_pos (2 ^ (F - 2 - n)) & none) (search reify depth 20) tt)

-- ---- BEFORE THE STEPS, from a turned point w: "it then lies within 7/64 of one in each part", and the size of the seat's logarithm
module _ (F : ℕ) (wide : 10 ≤ F) (logs : ReciprocalTable) (w : 𝔾) (cone : Cone w) where
  abbrev p : 𝔾
  p = scaled F w

  ranges : Scaled (two F) p
  ranges = scaled_ranges F (omega arith) w cone

  pub begun_converging : Converging F 2 (begun F logs w)
  begun_converging = record { least = omega arith; near = reduced_near F wide p ranges; left = λ l. absurd (omega arith) }

  pub begun_entry : ReciprocalPromise F logs →
      ReciprocalEntry F (reciprocal_of F (scaled F w)) (logs (cell_x F (scaled F w)) (cell_y F (scaled F w)))
  begun_entry promise = promise (column F p) (row F p) (in_table F wide p ranges)
