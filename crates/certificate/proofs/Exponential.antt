-- What is left of the exponent is a certificate for EXP's answer: times its exponential, the answer is the start times the exponential of
-- the given exponent but for (12·N + 51)·M/2^F + 2·N + 3 units times 2^k, from the rounding, the tables and the reduction alone: nothing of
-- it is M/2^N. At every width up to 48, for every table and constants that keep their promises.
use mathlib.Core.Path.{subst}
use mathlib.Core.Bool.{cond}
use mathlib.Core.List.{[], ◌∷◌}
use Prim.Native.Nat.{ℕ, ◌-◌, ◌^◌, ◌≤◌}
use native.Mathlib.Omega.{arith}
use lib.IntN.{ℤ, pos, nat_abs, ◌+ℤ◌, ◌-ℤ◌, ◌*ℤ◌}
use Rattle.algebra.specs.Gauss.{𝔾, gi, ιᵍ, ◌-ᵍ◌, ◌*ᵍ◌, two, twoᵍ}
use Rattle.algebra.specs.Order.{◌⩽◌}
use Rattle.algebra.specs.Size.{Within, Parts, larger}
use Rattle.algebra.proofs.Gauss.{𝔾R}
use Rattle.algebra.proofs.Reify.{ring!, reify, reifyᵍ}
use Rattle.algebra.proofs.Order.{nonneg_mul, nonneg_pos, sub_nonneg}
use Rattle.algebra.proofs.Linear.{lin, ◌&◌, ◌&ℕ◌, none}
use Rattle.algebra.proofs.Inequality.{nonneg}
use Rattle.algebra.proofs.Power.{two≥1, two_whole, below_two}
use Rattle.algebra.proofs.Within.{within_add, within_mul, within_scale, within_cancel, within_weaken}
use Rattle.algebra.proofs.Parts.{size_sign, parts_abs, parts_cancel, parts_weaken, parts_within, within_parts}
use Rattle.algebra.proofs.Larger.{larger_parts}
use Rattle.series.specs.Series.{D, Sᵍ, Dᶻ}
use Rattle.point.specs.Point.{gauss}
use Rattle.point.proofs.InLimits.{steps_say}
use Rattle.table_numbers.specs.Promise.{StepTable, Constants}
use Rattle.table_numbers.specs.Numbers48.{constants48}
use Rattle.table_numbers.specs.Table.{step_table}
use Rattle.table_numbers.proofs.Promises.{StepPromise, ConstantsPromise}
use Rattle.table_numbers.proofs.Promise48.{constants_promise}
use Rattle.tables.proofs.Promises.{step_promise}
use Rattle.iteration.specs.declared.State.{State}
use Rattle.iteration.specs.Select.{Exp}
use Rattle.iteration.specs.Run.{state, run}
use Rattle.iteration.proofs.Drift.{Near}
use Rattle.exponential.specs.declared.reduction.Reduced.{Reduced}
use Rattle.exponential.specs.Reduction.{factor, eighths, doublings, left_over, reduced, unreduced}
use Rattle.exponential.specs.Answer.{rounding_share, ended, figures, exp_answer, up}
use Rattle.exponential.specs.Code.{Accepted}
use Rattle.certificate.specs.Exponential.{miss, allowed, CertifiedAt, CertifiedFor, Certified}
use Rattle.exponential.proofs.Convergence.{Rectangle}
use Rattle.exponential.proofs.Error.{drifted, left_near_one}
use Rattle.exponential.proofs.Reduced.{left_rectangle}
use Rattle.exponential.proofs.Far.{reduction_off, with_reduction}
use Rattle.exponential.proofs.Given.{rectangle_says, reach_says, by_rectangle}
use Rattle.exponential.proofs.Close.{answer_keeps}

-- ---- as algebra: one is 256·H units, q = 2^N, v is one over 64·q, S the exponential of what is left, which is at most 91·v long
module _ (H q v n P δ m : ℤ) (p s Q S S₀ : 𝔾) (H≥0 : pos 0 ⩽ H) (q≥1 : pos 1 ⩽ q) (v≥1 : pos 1 ⩽ v) (n<q : n +ℤ pos 1 ⩽ q)
    (P≥0 : pos 0 ⩽ P) (δ≥1 : pos 1 ⩽ δ)
    (given : Parts s m)
    (rounded : Within (ιᵍ δ *ᵍ p -ᵍ Q *ᵍ s) (rounding_share *ℤ n *ℤ δ))
    (tabled : Within (ιᵍ (pos 128 *ℤ H) *ᵍ (Q *ᵍ S -ᵍ ιᵍ δ *ᵍ S₀)) (n *ℤ (δ *ℤ (pos 4 *ℤ P))))
    (left : Within (ιᵍ (pos 2 *ℤ (q *ℤ (pos 64 *ℤ v)) -ℤ pos 91 *ℤ v) *ᵍ (S -ᵍ ιᵍ P)) (pos 2 *ℤ (pos 91 *ℤ v) *ℤ P)) where
  abbrev k : ℤ
  k = pos 2 *ℤ (q *ℤ (pos 64 *ℤ v)) -ℤ pos 91 *ℤ v

  -- the rounding times S is the rounding times P but for 3·P, as |S − P| ≤ 182/(128·q − 91)·P and n is below q
  rest : Within ((ιᵍ δ *ᵍ p -ᵍ Q *ᵍ s) *ᵍ (S -ᵍ ιᵍ P)) (pos 3 *ℤ (δ *ℤ P))
  rest = within_cancel k (lin (q ∷ v ∷ []) (nonneg_mul (sub_nonneg q≥1) (nonneg v≥1) & v≥1 & none) (search reify depth 20) tt)
      (subst (λ z. Within z (k *ℤ (pos 3 *ℤ (δ *ℤ P))))
      (ring! 𝔾R (ιᵍ q ∷ ιᵍ v ∷ ιᵍ δ ∷ ιᵍ P ∷ p ∷ s ∷ Q ∷ S ∷ []) (search reifyᵍ depth 20) tt)
      (within_weaken (within_mul rounded left)
      (lin (q ∷ v ∷ n ∷ δ ∷ P ∷ []) (nonneg_mul a (sub_nonneg n<q) & nonneg_mul a (sub_nonneg q≥1) & a & none)
      (search reify depth 20) tt)))
    where
      a : pos 0 ⩽ v *ℤ (δ *ℤ P)
      a = nonneg_mul (nonneg v≥1) (nonneg_mul (nonneg δ≥1) P≥0)

  -- with the tables, and 99/70 of m for the start's length: 2·4·99/70 of n·m
  total : Within (ιᵍ (pos 70) *ᵍ (ιᵍ (pos 256 *ℤ H) *ᵍ (p *ᵍ S -ᵍ s *ᵍ S₀)))
      ((pos 792 *ℤ n *ℤ m +ℤ pos 70 *ℤ ((rounding_share *ℤ n +ℤ pos 3) *ℤ (pos 256 *ℤ H))) *ℤ P)
  total = within_cancel δ δ≥1
      (subst (λ z. Within z (δ *ℤ ((pos 792 *ℤ n *ℤ m +ℤ pos 70 *ℤ ((rounding_share *ℤ n +ℤ pos 3) *ℤ (pos 256 *ℤ H))) *ℤ P)))
      (ring! 𝔾R (ιᵍ H ∷ ιᵍ δ ∷ ιᵍ P ∷ p ∷ s ∷ Q ∷ S ∷ S₀ ∷ []) (search reifyᵍ depth 20) tt)
      (within_weaken (within_add (within_scale (pos 17920 *ℤ H) (nonneg_mul (nonneg_pos 17920) H≥0)
      (within_add rest (within_scale P P≥0 rounded)))
      (within_mul (parts_within given) (within_scale (pos 2) (nonneg_pos 2) tabled)))
      (lin (H ∷ n ∷ δ ∷ P ∷ m ∷ []) none (search reify depth 20) tt)))

-- ---- inside the rectangle: 70 times what is off
module _ (F : ℕ) (wide : 16 ≤ F) (narrow : F ≤ 48) (t : StepTable) (promise : StepPromise F (F - 8) t) (e : 𝔾) (rect : Rectangle F e)
    (s : 𝔾) (m : ℤ) (given : Parts s m) where
  abbrev x : ℕ → State
  x n = run F t Exp 0 n (state s e)

  exp_certified_share : (T : ℕ) → 24 ≤ T → (n : ℕ) → n ≤ F - 8 →
      Parts (ιᵍ (pos 70) *ᵍ (twoᵍ F *ᵍ (gauss (x n).point *ᵍ Sᵍ (2 ^ F) T (gauss (x n).sum) -ᵍ s *ᵍ Sᵍ (2 ^ F) T e)))
      ((pos 792 *ℤ pos n *ℤ m +ℤ pos 70 *ℤ ((rounding_share *ℤ pos n +ℤ pos 3) *ℤ two F)) *ℤ Dᶻ (2 ^ F) T)
  exp_certified_share T long n h = within_parts (subst
      (λ U. Within (ιᵍ (pos 70) *ᵍ (ιᵍ U *ᵍ (gauss (x n).point *ᵍ Sᵍ (2 ^ F) T (gauss (x n).sum) -ᵍ s *ᵍ Sᵍ (2 ^ F) T e)))
      ((pos 792 *ℤ pos n *ℤ m +ℤ pos 70 *ℤ ((rounding_share *ℤ pos n +ℤ pos 3) *ℤ U)) *ℤ Dᶻ (2 ^ F) T)) (two_whole 8 F (omega arith))
      (total (two (F - 8)) (two n) (two (F - 6 - n)) (pos n) (Dᶻ (2 ^ F) T) a.exact.δ m (gauss (x n).point) s a.exact.Q
      (Sᵍ (2 ^ F) T (gauss (x n).sum)) (Sᵍ (2 ^ F) T e) (nonneg_pos (2 ^ (F - 8))) (two≥1 n) (two≥1 (F - 6 - n))
      (lin (pos n ∷ two n ∷ []) (below_two n &ℕ none) (search reify depth 20) tt) (nonneg_pos (D (2 ^ F) T)) a.exact.δ≥1 given
      a.exact.rounded a.tabled
      (left_near_one F (F - 8) wide (omega arith) t promise e rect s n T h long)))
    where
      a : Near F (F - 8) T s (Sᵍ (2 ^ F) T e) (pos 4 *ℤ Dᶻ (2 ^ F) T) n (x n)
      a = drifted F (F - 8) wide (omega arith) t promise e rect s (F - 8) n T h (omega arith) (omega arith) long

-- ---- inside the rectangle and outside
module _ (F : ℕ) (wide : 16 ≤ F) (narrow : F ≤ 48) (t : StepTable) (table : StepPromise F (F - 8) t)
    (c : Constants) (promise : ConstantsPromise F c) where
  module _ (n T : ℕ) (e s : 𝔾) (most : n ≤ F - 8) where
    abbrev CertifiedBy : Reduced → Type 0
    CertifiedBy r = let x = ended F t n r in
        CertifiedAt F n T r.binary_exponent e s (gauss r.start) (gauss x.point) (gauss x.sum)

    certified_parts : (r : Reduced) →
        Parts (twoᵍ F *ᵍ miss F T r.binary_exponent e s (gauss (ended F t n r).point) (gauss (ended F t n r).sum))
        (allowed F n T r.binary_exponent (larger (gauss r.start))) → CertifiedBy r
    certified_parts r h = let p = parts_abs (two F) _ h in record { re = p.0; im = p.1 }

    certified_inside : Rectangle F e → 24 ≤ T → CertifiedBy (unreduced e s)
    certified_inside rect long = certified_parts (unreduced e s) (parts_cancel (pos 70) (record { le = tt })
        (subst (λ z. Parts z (pos 70 *ℤ allowed F n T (pos 0) m))
        (ring! 𝔾R (twoᵍ F ∷ a ∷ S ∷ s ∷ Sᵍ (2 ^ F) T e ∷ []) (search reifyᵍ depth 20) tt)
        (parts_weaken (exp_certified_share F wide narrow t table e rect s m (larger_parts s) T long n most)
        (lin (m ∷ pos n ∷ two F ∷ Dᶻ (2 ^ F) T ∷ [])
        (nonneg_mul m≥0 (nonneg_pos (D (2 ^ F) T)) & nonneg_mul (nonneg_pos n) (nonneg_mul m≥0 (nonneg_pos (D (2 ^ F) T))) & none)
        (search reify depth 20) tt))))
      where
        m : ℤ
        m = larger s

        m≥0 : pos 0 ⩽ m
        m≥0 = size_sign (larger_parts s).re

        a : 𝔾
        a = gauss (ended F t n (unreduced e s)).point

        S : 𝔾
        S = Sᵍ (2 ^ F) T (gauss (ended F t n (unreduced e s)).sum)

    certified_outside : Parts e (pos 8 *ℤ two F) → 80 ≤ T → CertifiedBy (reduced c e s)
    certified_outside far long = certified_parts (reduced c e s)
        (with_reduction F (F - 8) wide narrow (omega arith) t table c promise e far s m (larger_parts s₁) T long (two F)
        (gauss (ended F t n (reduced c e s)).point) (Sᵍ (2 ^ F) T (gauss (ended F t n (reduced c e s)).sum))
        (exp_certified_share F wide narrow t table (left_over c e) (left_rectangle F (omega arith) c promise e) s₁ m (larger_parts s₁)
        T (omega arith) n most)
        (reduction_off F (F - 8) wide narrow (omega arith) t table c promise e far s m (larger_parts s₁) T long)
        (lin (m ∷ pos n ∷ two F ∷ two (up k) ∷ Dᶻ (2 ^ F) T ∷ []) (shares≥0 & nonneg_mul (nonneg_pos n) shares≥0 & none)
        (search reify depth 20 fits 4000) tt))
      where
        k : ℤ
        k = doublings c e

        s₁ : 𝔾
        s₁ = s *ᵍ factor (eighths c e)

        m : ℤ
        m = larger s₁

        shares≥0 : pos 0 ⩽ m *ℤ (two (up k) *ℤ Dᶻ (2 ^ F) T)
        shares≥0 = nonneg_mul (size_sign (larger_parts s₁).re) (nonneg_mul (nonneg_pos (2 ^ up k)) (nonneg_pos (D (2 ^ F) T)))

  -- for every input that meets no refusal
  pub certified_for : {n : ℤ} {e s : 𝔾} → Accepted F n e s → CertifiedFor F c (nat_abs n) e s (figures F t c (nat_abs n) e s)
  certified_for {n} {e} {s} a T = by_rectangle (λ b r. cond b 24 80 ≤ T → CertifiedBy (nat_abs n) T e s most r) F c e s
      (λ h long. certified_inside (nat_abs n) T e s most (rectangle_says F e (omega arith) h) long)
      (λ _ long. certified_outside (nat_abs n) T e s most (reach_says F e a.reach) long)
    where
      most : nat_abs n ≤ F - 8
      most = (steps_say F 1 n a.steps).at_most

-- THE CERTIFICATE, for all inputs of the call
pub exp_certified : (n ex ey sx sy : ℤ) → Certified n ex ey sx sy (exp_answer n ex ey sx sy)
unfolding exp_answer
exp_certified n ex ey sx sy = answer_keeps 48 step_table constants48 n (gi ex ey) (gi sx sy) (Certified n ex ey sx sy) (λ r. tt)
    (certified_for 48 (omega arith) (omega arith) step_table step_promise constants48 constants_promise)
