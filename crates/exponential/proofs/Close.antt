-- What is proved of the answer: when each is given, convergence, that it is close and that what is left over is small, at the width 48 with
-- no hypothesis left.
use mathlib.Core.Path.{◌≡◌, refl, sym, ap, subst}
use mathlib.Core.Bool.{Bool, true, false, cond}
use mathlib.Core.List.{[], ◌∷◌}
use Prim.Native.Nat.{ℕ, ◌+◌, ◌-◌, ◌^◌, ◌≤◌}
use native.Mathlib.Omega.{arith}
use lib.IntN.{ℤ, pos, nat_abs, ◌*ℤ◌}
use Rattle.algebra.specs.Gauss.{𝔾, gi, ◌-ᵍ◌, ◌*ᵍ◌, two, twoᵍ}
use Rattle.algebra.specs.Order.{◌⩽◌}
use Rattle.algebra.specs.Size.{abs, Parts, larger}
use Rattle.algebra.proofs.Gauss.{𝔾R}
use Rattle.algebra.proofs.Reify.{ring!, reify, reifyᵍ}
use Rattle.algebra.proofs.Order.{nonneg_pos, nonneg_mul, sub_nonneg}
use Rattle.algebra.proofs.Linear.{lin, ◌&◌, none}
use Rattle.algebra.proofs.Inequality.{le_cancel}
use Rattle.algebra.proofs.Power.{two≥1}
use Rattle.algebra.proofs.Parts.{parts_abs, parts_weaken}
use Rattle.algebra.proofs.Larger.{larger_parts}
use Rattle.series.specs.Series.{D, Sᵍ, Dᵍ, Dᶻ}
use Rattle.point.specs.Point.{gauss}
use Rattle.point.specs.Limits.{in_steps, in_parts}
use Rattle.point.proofs.InLimits.{Counts, steps_say}
use Rattle.answer.specs.declared.Refusal.{Refusal}
use Rattle.answer.specs.declared.Refusal.TheVariants.{Steps, Exponent, Part}
use Rattle.answer.specs.Answer.{Answer}
use Rattle.std.specs.Prelude.{Ok, Err}
use Rattle.answer.specs.Refusal.{unless}
use Rattle.answer.specs.Remainder.{PartsBelow, RemainderBelow}
use Rattle.answer.proofs.Remainder.{part_below}
use Rattle.table_numbers.specs.Promise.{StepTable, Constants}
use Rattle.table_numbers.specs.Numbers48.{constants48}
use Rattle.table_numbers.specs.Table.{step_table}
use Rattle.table_numbers.proofs.Promises.{StepPromise, ConstantsPromise}
use Rattle.table_numbers.proofs.Promise48.{constants_promise}
use Rattle.tables.proofs.Promises.{step_promise}
use Rattle.iteration.specs.Select.{Exp}
use Rattle.iteration.specs.Run.{state, run}
use Rattle.exponential.specs.declared.reduction.Reduced.{Reduced}
use Rattle.exponential.specs.Reduction.{in_rectangle, in_reach, reduced, unreduced, reduction}
use Rattle.exponential.specs.Answer.{unless_refused, ended, figures_from, figures, answer, error_bound_of, exp_answer, up, miss, allowed, CloseAt, CloseFor, Close}
use Rattle.exponential.specs.Code.{Accepted}
use Rattle.exponential.proofs.Convergence.{Rectangle, Below, converges}
use Rattle.exponential.proofs.Error.{exp_error}
use Rattle.exponential.proofs.Given.{rectangle_says, reach_says, by_rectangle, given_rectangle}
use Rattle.exponential.proofs.Far.{far_error}
use Rattle.exponential.proofs.Bound.{bound_enough}

-- ---- when each answer is given
module _ (F : ℕ) (n : ℤ) (e s : 𝔾) where
  pub refused_steps : in_steps F 1 n ≡ false → (a : Answer) → unless_refused F n e s a ≡ Err Steps
  refused_steps x a = rw x

  pub refused_exponent : in_steps F 1 n ≡ true → in_reach F e ≡ false → (a : Answer) → unless_refused F n e s a ≡ Err Exponent
  refused_exponent x y a = rw (x, y)

  pub refused_part : in_steps F 1 n ≡ true → in_reach F e ≡ true → in_parts F s ≡ false → (a : Answer) → unless_refused F n e s a ≡ Err Part
  refused_part x y z a = rw (x, y, z)

  pub not_refused : Accepted F n e s → (a : Answer) → unless_refused F n e s a ≡ a
  not_refused p a = rw (p.steps, p.reach, p.start)

  -- what holds of every refusal, and of an answer where none is met, holds of the answer unless it is refused
  pub tests_keep : (P : Answer → Type 0) (a : Answer) → ((r : Refusal) → ((b : Answer) → unless_refused F n e s b ≡ Err r) → P (Err r)) →
      (Accepted F n e s → P a) → P (unless_refused F n e s a)
  tests_keep P a refused given = by (in_steps F 1 n) (in_reach F e) (in_parts F s) refl refl refl
    where
      by : (x y z : Bool) → in_steps F 1 n ≡ x → in_reach F e ≡ y → in_parts F s ≡ z →
          P (unless x Steps (unless y Exponent (unless z Part a)))
      by false y z p q r = refused Steps (refused_steps p)
      by true false z p q r = refused Exponent (refused_exponent p q)
      by true true false p q r = refused Part (refused_part p q r)
      by true true true p q r = given (record { steps = p; reach = q; start = r })

module _ (F : ℕ) (t : StepTable) (c : Constants) (n : ℤ) (e s : 𝔾) where
  pub answered : Accepted F n e s → answer F t c n e s ≡ Ok (figures F t c (nat_abs n) e s)
  unfolding answer
  answered p = not_refused F n e s p (Ok (figures F t c (nat_abs n) e s))

  -- what holds of every refusal, and of the figures where none is met, holds of the answer
  pub answer_keeps : (P : Answer → Type 0) → ((r : Refusal) → P (Err r)) →
      (Accepted F n e s → P (Ok (figures F t c (nat_abs n) e s))) → P (answer F t c n e s)
  unfolding answer
  answer_keeps P refused given = tests_keep F n e s P (Ok (figures F t c (nat_abs n) e s)) (λ r _. refused r) given

  -- "Inside the old rectangle each answer remains the same", whatever the constants are: the steps of the exponent itself, on the start
  -- itself, with its error bound, and k is 0; what is left over is of the exponent itself
  pub same_inside : in_rectangle F e ≡ true → figures F t c (nat_abs n) e s
      ≡ record {
        value = (run F t Exp 0 (nat_abs n) (state s e)).point;
        binary_exponent = pos 0;
        quadrant = pos 0;
        error_bound = error_bound_of (nat_abs n) s;
        remainder = (run F t Exp 0 (nat_abs n) (state s e)).sum;
      }
  unfolding reduction
  same_inside h = ap (λ b. figures_from F t (nat_abs n) (cond b (unreduced e s) (reduced c e s))) h

module _ (F : ℕ) (wide : 16 ≤ F) (narrow : F ≤ 48) (t : StepTable) (table : StepPromise F (F - 8) t)
    (c : Constants) (promise : ConstantsPromise F c) where
  room : F - 8 + 8 ≤ F
  room = omega arith

  -- "after n steps, each exponent part is below 1/2^n in size"
  pub exponent_below : (e s : 𝔾) (n : ℕ) → n ≤ F - 8 → Below (gauss (ended F t n (reduction F c e s)).sum) (two (F - n))
  exponent_below e s n h = let r = reduction F c e s in
      converges F (F - 8) wide room t table (state (gauss r.start) (gauss r.exponent)) (given_rectangle F (omega arith) c promise e s) n h

  -- 02, E7: "every remainder part is below 1/2^N in size"
  pub left_below : {n : ℤ} {e s : 𝔾} → Accepted F n e s → PartsBelow F (nat_abs n) (figures F t c (nat_abs n) e s).remainder
  left_below {n} {e} {s} a = let b = exponent_below e s (nat_abs n) most in
      record { x = part_below F (nat_abs n) fits b.re; y = part_below F (nat_abs n) fits b.im }
    where
      most : nat_abs n ≤ F - 8
      most = (steps_say F 1 n a.steps).at_most

      fits : nat_abs n ≤ F
      fits = omega (arith, most)

  -- ---- the error is within the bound
  module _ (n T : ℕ) (e s : 𝔾) (least : 1 ≤ n) (most : n ≤ F - 8) where
    abbrev CloseBy : Reduced → Type 0
    CloseBy r = CloseAt F n T r.binary_exponent e s (gauss r.start) (gauss (ended F t n r).point)

    close_parts : (k : ℤ) (s₁ a : 𝔾) → Parts (twoᵍ n *ᵍ miss F T k e s a) (allowed F n T k (larger s₁)) → CloseAt F n T k e s s₁ a
    close_parts k s₁ a h = let p = parts_abs (two n) (miss F T k e s a) h in record { re = p.0; im = p.1 }

    pub close_inside : Rectangle F e → 24 ≤ T → CloseBy (unreduced e s)
    close_inside rect long = close_parts (pos 0) s a (subst (λ z. Parts (twoᵍ n *ᵍ z) (allowed F n T (pos 0) (larger s))) point
        (parts_weaken (exp_error F (F - 8) wide room t table e rect s (larger s) (larger_parts s) T long n least most (omega arith))
        (lin (larger s ∷ pos n ∷ two n ∷ Dᶻ (2 ^ F) T ∷ []) none (search reify depth 20) tt)))
      where
        a : 𝔾
        a = gauss (ended F t n (unreduced e s)).point

        point : a *ᵍ Dᵍ (2 ^ F) T -ᵍ s *ᵍ Sᵍ (2 ^ F) T e ≡ miss F T (pos 0) e s a
        point = ring! 𝔾R (a ∷ Dᵍ (2 ^ F) T ∷ s ∷ Sᵍ (2 ^ F) T e ∷ []) (search reifyᵍ depth 20) tt

    pub close_outside : Parts e (pos 8 *ℤ two F) → 80 ≤ T → CloseBy (reduced c e s)
    close_outside far long = close_parts r.binary_exponent (gauss r.start) (gauss (ended F t n r).point)
        (far_error F (F - 8) wide narrow room t table c promise e far s (larger (gauss r.start)) (larger_parts (gauss r.start))
        T long n least most (omega arith))
      where
        r : Reduced
        r = reduced c e s

  pub close_for : {n : ℤ} {e s : 𝔾} → Accepted F n e s → CloseFor F c (nat_abs n) e s (figures F t c (nat_abs n) e s)
  close_for {n} {e} {s} a T long = by_rectangle (λ _ r. CloseBy (nat_abs n) T e s count.at_least count.at_most r) F c e s
      (λ h. close_inside (nat_abs n) T e s count.at_least count.at_most (rectangle_says F e (omega arith) h) (omega (arith, rw h at long)))
      (λ h. close_outside (nat_abs n) T e s count.at_least count.at_most (reach_says F e a.reach) (omega (arith, rw h at long)))
    where
      count : Counts F 1 n
      count = steps_say F 1 n a.steps

-- so the error bound bounds the error, in units times 2^k
module _ (F n T : ℕ) (k : ℤ) (e s s₁ a : 𝔾) (close : CloseAt F n T k e s s₁ a) where
  bounded : (x : ℤ) → abs x *ℤ two n ⩽ allowed F n T k (larger s₁) → abs x ⩽ error_bound_of n s₁ *ℤ two (up k) *ℤ Dᶻ (2 ^ F) T
  bounded x h = le_cancel (two n) (two≥1 n)
      (lin (two n ∷ pos n ∷ abs x ∷ larger s₁ ∷ error_bound_of n s₁ ∷ two (up k) ∷ Dᶻ (2 ^ F) T ∷ [])
      (h & nonneg_mul (sub_nonneg (bound_enough n s₁)) (nonneg_mul (nonneg_pos (2 ^ up k)) (nonneg_pos (D (2 ^ F) T))) & none)
      (search reify depth 20 fits 4000) tt)

  pub error_re : abs (miss F T k e s a).re ⩽ error_bound_of n s₁ *ℤ two (up k) *ℤ Dᶻ (2 ^ F) T
  error_re = bounded (miss F T k e s a).re close.re

  pub error_im : abs (miss F T k e s a).im ⩽ error_bound_of n s₁ *ℤ two (up k) *ℤ Dᶻ (2 ^ F) T
  error_im = bounded (miss F T k e s a).im close.im

-- THE ANSWER IS CLOSE, for all inputs of the call
pub exp_close : (n ex ey sx sy : ℤ) → Close n ex ey sx sy (exp_answer n ex ey sx sy)
unfolding exp_answer
exp_close n ex ey sx sy = answer_keeps 48 step_table constants48 n (gi ex ey) (gi sx sy) (Close n ex ey sx sy) (λ r. tt)
    (close_for 48 (omega arith) (omega arith) step_table step_promise constants48 constants_promise)

-- WHAT IS LEFT OVER IS SMALL, likewise
pub exp_remainder : (n ex ey sx sy : ℤ) → RemainderBelow 48 n (exp_answer n ex ey sx sy)
unfolding exp_answer
exp_remainder n ex ey sx sy = answer_keeps 48 step_table constants48 n (gi ex ey) (gi sx sy) (RemainderBelow 48 n) (λ r. tt)
    (left_below 48 (omega arith) (omega arith) step_table step_promise constants48 constants_promise)

-- so what equals it meets the three clauses of the call
pub settled : (n ex ey sx sy : ℤ) {r : Answer} → answer 48 step_table constants48 n (gi ex ey) (gi sx sy) ≡ r →
    (r ≡ exp_answer n ex ey sx sy) × (Close n ex ey sx sy r × RemainderBelow 48 n r)
unfolding exp_answer
settled n ex ey sx sy p = (
  sym p,
  (subst (λ a. Close n ex ey sx sy a) p (exp_close n ex ey sx sy), subst (RemainderBelow 48 n) p (exp_remainder n ex ey sx sy)),
)
