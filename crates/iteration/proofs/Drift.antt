-- The drift of the iteration, whatever the digits are, over any width F (one is 2^F units) and any table that keeps the promise: the point
-- follows the exact product of the factors (Exact), and that product times exp(sum) stays (Near). The exponential is the series to T terms,
-- S T / D T.
use mathlib.Core.Path.{◌≡◌, sym, subst, subst₂}
use mathlib.Core.List.{[], ◌∷◌}
use Prim.Native.Nat.{ℕ, zero, suc, ◌+◌, ◌*◌, ◌-◌, ◌^◌, ◌≤◌}
use native.Mathlib.Nat.{pow-succ'}
use native.Mathlib.Omega.{arith}
use lib.IntN.{ℤ, pos, ◌+ℤ◌, ◌-ℤ◌, ◌*ℤ◌}
use Rattle.algebra.specs.Gauss.{𝔾, ιᵍ, ◌+ᵍ◌, ◌-ᵍ◌, ◌*ᵍ◌, two, twoᵍ}
use Rattle.algebra.specs.Order.{◌⩽◌}
use Rattle.algebra.specs.Size.{Within, Parts}
use Rattle.algebra.proofs.Integer.{ℤR}
use Rattle.algebra.proofs.Gauss.{𝔾R}
use Rattle.algebra.proofs.Reify.{ring!, reify, reifyᵍ}
use Rattle.algebra.proofs.Order.{nonneg_mul, nonneg_pos, nonneg_sq, sub_nonneg, pos_mono}
use Rattle.algebra.proofs.Linear.{lin, ◌&◌, ◌&≡◌, none}
use Rattle.algebra.proofs.Inequality.{nonneg, one_mul}
use Rattle.algebra.proofs.Power.{two_pos, two≥1, two_suc, two_mono, two_mul_le, two_halve, two_whole}
use Rattle.algebra.proofs.Within.{within_add, within_sub, within_mul, within_scale, within_cancel, within_weaken, within_ratio, within_ι}
use Rattle.algebra.proofs.Parts.{size_sq, parts_within, within_parts}
use Rattle.series.specs.Series.{Sᵍ, Dᶻ}
use Rattle.series.proofs.Series.{D-pos}
use Rattle.series.proofs.Laws.{laws_at}
use Rattle.point.specs.Digit.{IsDigit}
use Rattle.point.specs.Point.{gauss}
use Rattle.point.specs.Step.{step}
use Rattle.point.proofs.Digits.{trit_size}
use Rattle.point.proofs.Rounding.{half_units, step_off}
use Rattle.table_numbers.specs.Promise.{Rule, StepTable, look, StepEntry}
use Rattle.table_numbers.proofs.EntrySize.{entry_short}
use Rattle.table_numbers.proofs.Promises.{StepPromise}
use Rattle.iteration.specs.declared.State.{State}
use Rattle.iteration.specs.Select.{Mode}
use Rattle.iteration.specs.Run.{state, select, next, moved, run}
use Rattle.iteration.proofs.Digits.{select_digit}
use Rattle.iteration.proofs.Runs.{run_keeps}
use Rattle.iteration.proofs.Factor.{factor_most, product_most, rounding, longer, tables}

one_more : (n : ℕ) → pos n +ℤ pos 1 ≡ pos (suc n)
one_more n = ring! ℤR (pos n ∷ []) (search reify depth 20) tt

-- ---- THE SUM after step n, where it and the entries to come are at most r units long
abbrev pub Short : (F : ℕ) (r : ℤ) (n : ℕ) → 𝔾 → Type 0
Short F r n s = Within s (r -ℤ pos 9 *ℤ two (F - 2 - n))

pub short_next : (F n : ℕ) (r : ℤ) {d s z : 𝔾} → suc n + 8 ≤ F → IsDigit d → StepEntry F (suc n) d z → Short F r n s →
    Short F r (suc n) (s -ᵍ z)
short_next F n r fits dig entry short = within_weaken (within_sub short (entry_short F n fits dig entry))
    (lin (r ∷ two (F - 2 - n) ∷ two (F - 2 - suc n) ∷ []) (two_halve (F - 2) n (omega arith) &≡ none) (search reify depth 20) tt)

-- what the rounding of a step adds to the point's error, in units of length
abbrev pub drift_a_step : ℤ
drift_a_step = pos 2

-- ---- the room that the rounding's share of a step leaves for the growth of the old error
three_n : (n : ℕ) → 3 * n ≤ 2 ^ suc n
three_n zero = omega arith
three_n (suc zero) = omega arith
three_n (suc (suc n)) = omega (arith, three_n (suc n), pow-succ' 2 (suc (suc n)), pow-succ' 2 (suc n), pow-succ' 2 n, two_pos n)

growth : (n m : ℤ) → pos 3 *ℤ n ⩽ m → pos 1 ⩽ m →
    pos 198 *ℤ half_units *ℤ (m *ℤ m) +ℤ pos 140 *ℤ drift_a_step *ℤ n *ℤ (pos 2 *ℤ m +ℤ pos 1) ⩽ pos 280 *ℤ drift_a_step *ℤ (m *ℤ m)
growth n m h g = lin (n ∷ m ∷ []) (nonneg_mul (sub_nonneg h) (nonneg g) & h & nonneg_mul (sub_nonneg g) (nonneg g) & nonneg_sq m & none)
    (search reify depth 20) tt

-- |1 + d/m| ≤ 1 + 1/m + 1/(2 m²)
digit_size : (m : ℤ) (d : 𝔾) → pos 0 ⩽ m → IsDigit d → Within (ιᵍ (pos 2 *ℤ m) *ᵍ (ιᵍ m +ᵍ d)) (factor_most m)
unfolding ◌+ᵍ◌ ◌*ᵍ◌ ιᵍ
digit_size m d m≥0 t = record {
  sign = lin (m ∷ []) (nonneg_sq m & m≥0 & none) (search reify depth 20) tt;
  size = lin (m ∷ d.re ∷ d.im ∷ []) (nonneg_mul (nonneg_mul m≥0 (nonneg_sq m)) (sub_nonneg (trit_size t.x).hi)
      & nonneg_mul (nonneg_sq m) (sub_nonneg (size_sq (trit_size t.x)))
      & nonneg_mul (nonneg_sq m) (sub_nonneg (size_sq (trit_size t.y))) & m≥0 & none) (search reify depth 20) tt;
}

-- ---- THE ROUNDING: from the point o on, after step n: o times a fraction Q/δ, the exact product of the factors, but for drift-a-step·n
-- units
pub record Exact (o : 𝔾) (n : ℕ) (p : 𝔾) : Type 0 where
  pub δ : ℤ
  pub Q : 𝔾
  pub δ≥1 : pos 1 ⩽ δ
  pub Q-size : Within (ιᵍ (pos 4 *ℤ (two n *ℤ two n)) *ᵍ Q) (product_most (two n) *ℤ δ)
  pub rounded : Within (ιᵍ δ *ᵍ p -ᵍ Q *ᵍ o) (drift_a_step *ℤ pos n *ℤ δ)

module _ {o : 𝔾} where
  -- |Q/δ| ≤ 11/4
  pub exact_length : {n : ℕ} {p : 𝔾} (a : Exact o n p) → Within (ιᵍ (pos 4) *ᵍ a.Q) (pos 11 *ℤ a.δ)
  exact_length {n} a = within_ratio a.Q (pos 4 *ℤ (q *ℤ q)) (pos 4) (one_mul {a = pos 4} (record { le = tt }) (one_mul q≥1 q≥1))
      (nonneg_pos 4)
      (lin (q ∷ a.δ ∷ []) (nonneg_mul (sub_nonneg q≥1) (sub_nonneg a.δ≥1) & a.δ≥1 & q≥1 & none) (search reify depth 20) tt) a.Q-size
    where
      q : ℤ
      q = two n

      q≥1 : pos 1 ⩽ two n
      q≥1 = two≥1 n

  pub exact_start : Exact o 0 o
  exact_start = record {
    δ = pos 1;
    Q = ιᵍ (pos 1);
    δ≥1 = record { le = tt };
    Q-size = within_scale (pos 4) (nonneg_pos 4) (within_ι (pos 1) (nonneg_pos 1));
    rounded = subst (λ z. Within z (pos 0)) (ring! 𝔾R (o ∷ []) (search reifyᵍ depth 20) tt) (within_ι (pos 0) (nonneg_pos 0));
  }

  pub exact_next : {n : ℕ} {p : 𝔾} (d : 𝔾) → IsDigit d → Exact o n p → Exact o (suc n) (step (suc n) d p)
  exact_next {n} {p} d dig a = record {
    δ = m *ℤ a.δ;
    Q = (ιᵍ m +ᵍ d) *ᵍ a.Q;
    δ≥1 = one_mul (two≥1 (suc n)) a.δ≥1;
    Q-size = subst (λ m. Within (ιᵍ (pos 4 *ℤ (m *ℤ m)) *ᵍ ((ιᵍ m +ᵍ d) *ᵍ a.Q)) (product_most m *ℤ (m *ℤ a.δ))) (sym (two_suc n))
        (longer (two n) a.δ (ιᵍ (pos 2 *ℤ two n) +ᵍ d) a.Q (two≥1 n) δ≥0 (digit_size (pos 2 *ℤ two n) d (nonneg_pos (2 * 2 ^ n)) dig)
        a.Q-size);
    rounded = subst (λ k. Within (ιᵍ (m *ℤ a.δ) *ᵍ step (suc n) d p -ᵍ (ιᵍ m +ᵍ d) *ᵍ a.Q *ᵍ o) (drift_a_step *ℤ k *ℤ (m *ℤ a.δ)))
        (one_more n)
        (rounding half_units drift_a_step (pos n) m a.δ (ιᵍ m +ᵍ d) a.Q o p (step (suc n) d p) (two≥1 (suc n)) δ≥0
        (growth (pos n) m (pos_mono (three_n n)) (two≥1 (suc n))) (digit_size m d (nonneg_pos (2 ^ suc n)) dig) (step_off (suc n) d p)
        a.rounded);
  }
    where
      m : ℤ
      m = two (suc n)

      δ≥0 : pos 0 ⩽ a.δ
      δ≥0 = nonneg a.δ≥1

  -- THE POINT's size: the exact product, as a length 11/4 of 99/70 of m, and the rounding
  pub exact_size : {n : ℕ} {p : 𝔾} {m : ℤ} → Exact o n p → Parts o m →
      Parts (ιᵍ (pos 280) *ᵍ p) (pos 1089 *ℤ m +ℤ pos 280 *ℤ drift_a_step *ℤ pos n)
  exact_size {n} {p} {m} a given = within_parts (within_cancel a.δ a.δ≥1
      (subst (λ z. Within z (a.δ *ℤ (pos 1089 *ℤ m +ℤ pos 280 *ℤ drift_a_step *ℤ pos n)))
      (ring! 𝔾R (ιᵍ a.δ ∷ a.Q ∷ o ∷ p ∷ []) (search reifyᵍ depth 20) tt)
      (within_weaken (within_add (within_mul (exact_length a) (parts_within given)) (within_scale (pos 280) (nonneg_pos 280) a.rounded))
      (lin (a.δ ∷ m ∷ pos n ∷ []) none (search reify depth 20) tt))))

-- the same of a run
pub exact_run : {o : 𝔾} (F : ℕ) (t : StepTable) (mode : Mode) (n k m : ℕ) (x : State) → n + k ≡ m → Exact o n (gauss x.point) →
    Exact o m (gauss (run F t mode n k x).point)
unfolding next
exact_run {o} F t mode n k m x e a = run_keeps F t mode (λ n x. Exact o n (gauss x.point)) m step_keeps n k m x e (omega arith) a
  where
    step_keeps : (i : ℕ) (y : State) → suc i ≤ m → Exact o i (gauss y.point) → Exact o (suc i) (gauss (moved F t mode (suc i) y).point)
    step_keeps i y h a = exact_next (select F mode (suc i) y) (select_digit F mode (suc i) y) a

-- ---- THE DRIFT, up to step M, from the point o and a sum whose exponential is E/P, at most B/P long: exp(sum)·Q/δ is E/P but for n·B/P of
-- 1/(128·2^M) after step n
pub record Near (F M T : ℕ) (o E : 𝔾) (B : ℤ) (n : ℕ) (x : State) : Type 0 where
  pub exact : Exact o n (gauss x.point)
  pub tabled : Within (ιᵍ (pos 128 *ℤ two M) *ᵍ (exact.Q *ᵍ Sᵍ (2 ^ F) T (gauss x.sum) -ᵍ ιᵍ exact.δ *ᵍ E))
      (pos n *ℤ (exact.δ *ℤ B))

-- the room that the tables have, a step
rate : (q n U W : ℤ) → pos 1 ⩽ q → n ⩽ pos 40 → pos 2048 ⩽ U → pos 256 *ℤ q ⩽ U → pos 1024 *ℤ q ⩽ W →
    pos 77 *ℤ U *ℤ (pos 128 *ℤ q) +ℤ pos 32 *ℤ W *ℤ (n +ℤ pos 128 *ℤ q) +ℤ pos 88 *ℤ (pos 128 *ℤ q) ⩽ pos 28 *ℤ U *ℤ W
rate q n U W hq hn U≥ h_u h_w = lin (q ∷ n ∷ U ∷ W ∷ [])
    (nonneg_mul U≥0 (sub_nonneg h_w) & nonneg_mul W≥0 (sub_nonneg h_u) & nonneg_mul W≥0 (sub_nonneg hn) & nonneg_mul W≥0 (sub_nonneg U≥) & h_w
    & W≥0 & none)
    (search reify depth 20) tt
  where
    U≥0 : pos 0 ⩽ U
    U≥0 = lin (U ∷ []) (U≥ & none) (search reify depth 20) tt

    W≥0 : pos 0 ⩽ W
    W≥0 = lin (q ∷ W ∷ []) (hq & h_w & none) (search reify depth 20) tt

module _ {F M T : ℕ} (wide : 11 ≤ F) (room : M + 8 ≤ F) (few : M ≤ 40) (long : 24 ≤ T) (o E : 𝔾) (B : ℤ) (P≤B : Dᶻ (2 ^ F) T ⩽ B)
    (origin : Within E B) where
  abbrev exp : 𝔾 → 𝔾
  exp z = Sᵍ (2 ^ F) T z

  abbrev P : ℤ
  P = Dᶻ (2 ^ F) T

  abbrev H : ℤ
  H = pos 128 *ℤ two M

  -- ONE FACTOR c/m and its logarithm z
  pub one_factor : {n : ℕ} {δ : ℤ} (Q s : 𝔾) (m : ℕ) (c z : 𝔾) {α β : ℤ} → n ≤ M → pos 1 ⩽ δ → Within (ιᵍ (pos 4) *ᵍ Q) (pos 11 *ℤ δ) →
      Rule F T m c z → Within (s -ᵍ z) α → Within z β → pos 4 *ℤ (α +ℤ β) ⩽ pos 9 *ℤ two F →
      Within (ιᵍ (pos 128 *ℤ two M) *ᵍ (Q *ᵍ exp s -ᵍ ιᵍ δ *ᵍ E)) (pos n *ℤ (δ *ℤ B)) →
      Within (ιᵍ (pos 128 *ℤ two M) *ᵍ (c *ᵍ Q *ᵍ exp (s -ᵍ z) -ᵍ ιᵍ (pos m *ℤ δ) *ᵍ E)) (pos (suc n) *ℤ (pos m *ℤ δ *ℤ B))
  one_factor {n} {δ} Q s m c z g δ≥1 Q-size rule hs hz near old = subst
      (λ k. Within (ιᵍ H *ᵍ (c *ᵍ Q *ᵍ exp (s -ᵍ z) -ᵍ ιᵍ (pos m *ℤ δ) *ᵍ E)) (k *ℤ (pos m *ℤ δ *ℤ B)))
      (one_more n)
      (tables (two F) (two 50) P B H (pos m) δ (pos n) Q (exp s) (exp (s -ᵍ z)) E c (exp z)
      (lin (two F ∷ []) (two_mono 4 F (omega arith) & none) (search reify depth 20) tt) (record { le = tt })
      (pos_mono (D-pos (2 ^ F) (two_pos F) T)) P≤B (nonneg_pos _) (nonneg_pos m) (nonneg δ≥1)
      (rate (two M) (pos n) (two F) (two 50) (two≥1 M) (pos_mono (omega arith)) (two_mono 11 F wide) (two_mul_le 8 M F (omega arith))
      (two_mul_le 10 M 50 (omega arith)))
      origin Q-size (subst (λ w. Within (twoᵍ 50 *ᵍ (exp (s -ᵍ z) *ᵍ exp z -ᵍ ιᵍ P *ᵍ exp w)) (P *ℤ P)) back
      ((laws_at F).product hs hz near T long)) rule old)
    where
      back : s -ᵍ z +ᵍ z ≡ s
      back = ring! 𝔾R (s ∷ z ∷ []) (search reifyᵍ depth 20) tt

  module _ (t : StepTable) (promise : StepPromise F M t) where
    -- ONE STEP: with the entry of the step, a short sum is within the series' 9/4
    pub near_next : {n : ℕ} {x : State} (r : ℤ) (d : 𝔾) → suc n ≤ M → IsDigit d → r ⩽ pos 9 *ℤ two (F - 2) →
        Short F r (suc n) (gauss (next t (suc n) d x).sum) →
        Near F M T o E B n x → Near F M T o E B (suc n) (next t (suc n) d x)
    unfolding next exact_next ◌*ᵍ◌
    near_next {n} {x} r d g dig far short a = record {
      exact = exact_next d dig a.exact;
      tabled = one_factor a.exact.Q (gauss x.sum) (2 ^ suc n) (twoᵍ (suc n) +ᵍ d) (look t (suc n) d) (omega arith) a.exact.δ≥1
          (exact_length a.exact)
          (kept.rule T long) short
          (entry_short F n (omega arith) dig kept)
          (lin (r ∷ two F ∷ two (F - 2) ∷ two (F - 2 - suc n) ∷ []) (far & two_whole 2 F (omega arith) &≡ none) (search reify depth 20) tt)
          a.tabled;
    }
      where
        kept : StepEntry F (suc n) d (look t (suc n) d)
        kept = promise (suc n) (omega arith) g d dig

    -- ALL STEPS, n + 1 to m of a mode that keeps K, where K says that the sum is short
    pub drift : (mode : Mode) (K : ℕ → State → Type 0) (r : ℤ) → r ⩽ pos 9 *ℤ two (F - 2) →
        ((n : ℕ) (x : State) → suc n ≤ M → K n x → K (suc n) (moved F t mode (suc n) x)) →
        ((n : ℕ) (x : State) → suc n ≤ M → K (suc n) x → Short F r (suc n) (gauss x.sum)) →
        (n k m : ℕ) (x : State) → n + k ≡ m → m ≤ M → K n x → Near F M T o E B n x → Near F M T o E B m (run F t mode n k x)
    drift mode K r far keep short n k m x e h start a = (run_keeps F t mode (λ n x. K n x × Near F M T o E B n x) M
        (λ n x g p. let kept = keep n x g p.0 in (
          kept,
          near_next r (select F mode (suc n) x) g (select_digit F mode (suc n) x) far
              (short n (moved F t mode (suc n) x) g kept) p.1,
        ))
        n k m x e h (start, a)).1

-- from nothing: E is the exponential of the first sum
pub near_start : {F M T : ℕ} (o s : 𝔾) (B : ℤ) → Near F M T o (Sᵍ (2 ^ F) T s) B 0 (state o s)
unfolding exact_start
near_start {F} {M} {T} o s B = record {
  exact = exact_start;
  tabled = subst₂ Within (ring! 𝔾R (twoᵍ M ∷ Sᵍ (2 ^ F) T s ∷ []) (search reifyᵍ depth 20) tt)
      (ring! ℤR (B ∷ []) (search reify depth 20) tt)
      (within_ι (pos 0) (nonneg_pos 0));
}
