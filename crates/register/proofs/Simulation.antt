-- THE SIMULATION (02, E9): before step n the register is 2^n times the exponent, so that it has "the same digits, answers and remainders as
-- the first" engine, at every width, with any table and any constants.
use mathlib.Core.Path.{◌≡◌, refl, sym, ◌∙◌, ap, ap₂}
use mathlib.Core.List.{[], ◌∷◌}
use Prim.Native.Nat.{ℕ, zero, suc, ◌+◌, ◌-◌, ◌^◌, ◌≤◌}
use native.Mathlib.Omega.{arith}
use lib.IntN.{ℤ, pos, neg_ℤ, nat_abs, ◌*ℤ◌}
use lib.Signed.{shr_z}
use Rattle.algebra.specs.Gauss.{𝔾, gi, ιᵍ, ◌-ᵍ◌, ◌*ᵍ◌, two, twoᵍ}
use Rattle.algebra.specs.Rounding.{floorᵍ}
use Rattle.algebra.proofs.Integer.{ℤR}
use Rattle.algebra.proofs.Gauss.{𝔾R, gi_path, g_ι_mul}
use Rattle.algebra.proofs.Reify.{ring!, reify, reifyᵍ}
use Rattle.algebra.proofs.Order.{⩽_refl}
use Rattle.algebra.proofs.Linear.{lin, ◌&◌, none}
use Rattle.algebra.proofs.Power.{two≥1, two_pos, two_suc, two_whole}
use Rattle.algebra.proofs.Floor.{floor_unique}
use Rattle.algebra.proofs.Parts.{scaled_re, scaled_im}
use Rattle.point.specs.Point.{gauss}
use Rattle.point.specs.Step.{step}
use Rattle.point.specs.Digit.{IsDigit}
use Rattle.point.proofs.InLimits.{steps_say}
use Rattle.answer.specs.Answer.{Answer}
use Rattle.std.specs.Prelude.{Ok}
use Rattle.table_numbers.specs.Promise.{StepTable, Constants, look}
use Rattle.table_numbers.specs.Numbers48.{constants48}
use Rattle.table_numbers.specs.Table.{step_table}
use Rattle.iteration.specs.declared.State.{State}
use Rattle.iteration.specs.Select.{Exp, cut, low_x, high_x, low_y, high_y, exp_select}
use Rattle.iteration.specs.Run.{state, select, next, moved, run, digits}
use Rattle.iteration.proofs.Digits.{cut_trit, cut_scaled}
use Rattle.exponential.specs.declared.reduction.Reduced.{Reduced}
use Rattle.exponential.specs.Reduction.{reduction}
use Rattle.exponential.specs.Answer.{unless_refused, begun, figures_at, ended, figures_from, figures, answer, exp_answer}
use Rattle.exponential.specs.Code.{Accepted}
use Rattle.exponential.proofs.Close.{not_refused, tests_keep}
use Rattle.register.specs.Register.{register_select, register_next, register_moved, register_run, register_digits, loaded, read_back}
use Rattle.register.specs.Answer.{register_ended, register_figures, register_answer_by, register_answer}

-- ---- the digit
pub register_digit : (F : ℕ) (r : 𝔾) → IsDigit (register_select F r)
unfolding register_select
register_digit F r = record { x = cut_trit _ _ r.re; y = cut_trit _ _ r.im }

-- the same as EXP's: 000's thresholds of 2^n times the exponent are 01's of the exponent
module _ (F n : ℕ) (h : suc n + 4 ≤ F) (e : 𝔾) where
  abbrev S : ℤ
  S = two (suc n)

  up : (j : ℕ) → j ≤ 4 → S *ℤ two (F - j - suc n) ≡ two (F - j)
  up j l = two_whole (suc n) (F - j) (omega arith)

  pub same_digit : register_select F (twoᵍ (suc n) *ᵍ e) ≡ exp_select F (suc n) e
  unfolding register_select exp_select
  same_digit = gi_path
      ((λ i. cut (lo_x i) (hi_x i) (scaled_re S e i)) ∙ cut_scaled S (two≥1 (suc n)) (low_x F (suc n)) (high_x F (suc n)) e.re)
      ((λ i. cut (lo_y i) (hi_y i) (scaled_im S e i)) ∙ cut_scaled S (two≥1 (suc n)) (low_y F (suc n)) (high_y F (suc n)) e.im)
    where
      lo_x : neg_ℤ (two (F - 1)) ≡ S *ℤ low_x F (suc n)
      lo_x = ap neg_ℤ (sym (up 1 (omega arith))) ∙ ring! ℤR (S ∷ two (F - 1 - suc n) ∷ []) (search reify depth 20) tt

      hi_x : pos 3 *ℤ two (F - 3) ≡ S *ℤ high_x F (suc n)
      hi_x = ap (λ u. pos 3 *ℤ u) (sym (up 3 (omega arith))) ∙ ring! ℤR (S ∷ two (F - 3 - suc n) ∷ []) (search reify depth 20) tt

      lo_y : neg_ℤ (pos 3 *ℤ two (F - 2)) ≡ S *ℤ low_y F (suc n)
      lo_y = ap (λ u. neg_ℤ (pos 3 *ℤ u)) (sym (up 2 (omega arith)))
          ∙ ring! ℤR (S ∷ two (F - 2 - suc n) ∷ []) (search reify depth 20) tt

      hi_y : pos 13 *ℤ two (F - 4) ≡ S *ℤ high_y F (suc n)
      hi_y = ap (λ u. pos 13 *ℤ u) (sym (up 4 (omega arith))) ∙ ring! ℤR (S ∷ two (F - 4 - suc n) ∷ []) (search reify depth 20) tt

-- ---- the same step
-- what the register engine has after n steps where the first has x: before step n + 1 the register holds 2^(n+1) times the exponent
abbrev pub held : ℕ → State → State
held n x = state (gauss x.point) (twoᵍ (suc n) *ᵍ gauss x.sum)

twice : (n : ℕ) (e z : 𝔾) → ιᵍ (pos 2) *ᵍ (twoᵍ n *ᵍ e) -ᵍ twoᵍ (suc n) *ᵍ z ≡ twoᵍ (suc n) *ᵍ (e -ᵍ z)
twice n e z = ap (λ u. ιᵍ (pos 2) *ᵍ (twoᵍ n *ᵍ e) -ᵍ u *ᵍ z) double
    ∙ ring! 𝔾R (twoᵍ n ∷ e ∷ z ∷ []) (search reifyᵍ depth 20) tt
    ∙ ap (λ u. u *ᵍ (e -ᵍ z)) (sym double)
  where
    double : twoᵍ (suc n) ≡ ιᵍ (pos 2) *ᵍ twoᵍ n
    double = ap ιᵍ (two_suc n) ∙ g_ι_mul (pos 2) (two n)

module _ (F : ℕ) (t : StepTable) where
  same_step : (n : ℕ) (x : State) → suc n + 4 ≤ F → register_moved F t (suc n) (held n x) ≡ held (suc n) (moved F t Exp (suc n) x)
  unfolding register_next next select
  same_step n x h = ap (λ d. register_next t (suc n) d (held n x)) (same_digit F n h (gauss x.sum))
      ∙ ap (λ r. state (step (suc n) d (gauss x.point)) r) (twice (suc n) (gauss x.sum) (look t (suc n) d))
    where
      d : 𝔾
      d = exp_select F (suc n) (gauss x.sum)

  -- ---- the same digits, and the same states
  pub same_digits : (n k : ℕ) (x : State) → n + k + 4 ≤ F → register_digits F t n k (held n x) ≡ digits F t Exp n k x
  unfolding register_digits digits select
  same_digits n zero x h = refl
  same_digits n (suc k) x h = ap₂ (λ d ds. d ∷ ds) (same_digit F n (omega arith) (gauss x.sum))
      (ap (register_digits F t (suc n) k) (same_step n x (omega arith)) ∙ same_digits (suc n) k (moved F t Exp (suc n) x) (omega arith))

  pub same_run : (n k m : ℕ) (x : State) → n + k ≡ m → m + 4 ≤ F → register_run F t n k (held n x) ≡ held m (run F t Exp n k x)
  unfolding register_run run
  same_run n zero m x e h = ap (λ i. held i x) nothing
    where
      nothing : n ≡ m
      nothing = omega (arith, e)
  same_run n (suc k) m x e h = ap (register_run F t (suc n) k) (same_step n x (omega (arith, e)))
      ∙ same_run (suc n) k m (moved F t Exp (suc n) x) (omega (arith, e)) h

  pub same_ended : (n : ℕ) (r : Reduced) → n + 4 ≤ F → register_ended F t n r ≡ held n (ended F t n r)
  same_ended n r h = same_run 0 n n (begun r) (omega arith) h

  -- "the same digits .. as the first"
  pub same_digits_ended : (n : ℕ) (r : Reduced) → n + 4 ≤ F → register_digits F t 0 n (loaded (begun r)) ≡ digits F t Exp 0 n (begun r)
  same_digits_ended n r h = same_digits 0 n (begun r) (omega arith)

-- ---- the same remainder
floored : (n : ℕ) (e : 𝔾) → floorᵍ (twoᵍ n *ᵍ e) (2 ^ n) ≡ e
unfolding floorᵍ
floored n e = gi_path (ap (λ z. shr_z z (2 ^ n)) (scaled_re (two n) e) ∙ exact e.re)
    (ap (λ z. shr_z z (2 ^ n)) (scaled_im (two n) e) ∙ exact e.im)
  where
    exact : (x : ℤ) → shr_z (two n *ℤ x) (2 ^ n) ≡ x
    exact x = floor_unique (2 ^ n) (two_pos n) (two n *ℤ x) x (⩽_refl (two n *ℤ x))
        (lin (two n ∷ x ∷ []) (two≥1 n & none) (search reify depth 20) tt)

held_back : (n : ℕ) (x : State) → read_back n (held n x) ≡ x
held_back n x = ap (state (gauss x.point)) (floored (suc n) (gauss x.sum))

pub same_figures : (F : ℕ) (t : StepTable) (n : ℕ) (r : Reduced) → n + 4 ≤ F → register_figures F t n r ≡ figures_from F t n r
same_figures F t n r h = ap (figures_at n r) (ap (read_back n) (same_ended F t n r h) ∙ held_back n (ended F t n r))

-- ---- THE LAW: "the same .. answers and remainders as the first for each accepted input and refuses the same inputs with the same numbers"
pub same_answer_by : (F : ℕ) (t : StepTable) (c : Constants) (n : ℤ) (e s : 𝔾) → register_answer_by F t c n e s ≡ answer F t c n e s
unfolding register_answer_by answer
same_answer_by F t c n e s = tests_keep F n e s (λ a. a ≡ unless_refused F n e s first) (Ok (register_figures F t (nat_abs n) r))
    (λ x refused. sym (refused first))
    (λ p. ap Ok (same_figures F t (nat_abs n) r (few p)) ∙ sym (not_refused F n e s p first))
  where
    r : Reduced
    r = reduction F c e s

    first : Answer
    first = Ok (figures F t c (nat_abs n) e s)

    few : Accepted F n e s → nat_abs n + 4 ≤ F
    few p = let k = steps_say F 1 n p.steps in omega (arith, k.at_least, k.at_most)

pub same_answer : (n ex ey sx sy : ℤ) → register_answer n ex ey sx sy ≡ exp_answer n ex ey sx sy
unfolding register_answer exp_answer
same_answer n ex ey sx sy = same_answer_by 48 step_table constants48 n (gi ex ey) (gi sx sy)
