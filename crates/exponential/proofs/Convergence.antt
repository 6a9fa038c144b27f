-- Convergence of EXP (01): after n steps each part of the exponent is below 1/2^n in size. Before step n each part lies in a box, and the
-- windows of the table take the box of step n into that of step n + 1. From step 5 on the box is the same in its own measure.
use mathlib.Core.Path.{◌≡◌, sym, ◌∙◌, ap, subst}
use mathlib.Core.List.{List, [], ◌∷◌}
use Prim.Native.Nat.{ℕ, zero, suc, ◌+◌, ◌-◌, ◌^◌, ◌≤◌}
use native.Mathlib.Omega.{arith}
use lib.IntN.{ℤ, pos, negsuc, ◌*ℤ◌}
use Rattle.algebra.specs.Gauss.{𝔾, ◌+ᵍ◌, ◌-ᵍ◌, negᵍ, two}
use Rattle.algebra.specs.Order.{◌⩽◌, ◌⋖◌}
use Rattle.algebra.specs.Size.{abs, Parts}
use Rattle.algebra.proofs.Integer.{ℤR}
use Rattle.algebra.proofs.Reify.{ring!, reify}
use Rattle.algebra.proofs.Order.{nonneg_pos}
use Rattle.algebra.proofs.Linear.{lin, ◌&◌, ◌&≡◌, none}
use Rattle.algebra.proofs.Power.{two≥1, two_mono, two_halve, two_part}
use Rattle.algebra.proofs.Parts.{below_size}
use Rattle.point.specs.Point.{gauss}
use Rattle.table_numbers.specs.Window.{Span, about, Lies, real, imag}
use Rattle.table_numbers.specs.Promise.{StepTable, look, StepEntry}
use Rattle.table_numbers.proofs.Promises.{StepPromise}
use Rattle.iteration.specs.declared.State.{State}
use Rattle.iteration.specs.Select.{Exp, low_x, high_x, low_y, high_y, exp_select}
use Rattle.iteration.specs.Run.{select, next, moved, run}
use Rattle.iteration.proofs.Digits.{cut_says, exp_digit}
use Rattle.iteration.proofs.Runs.{run_keeps}
use Rattle.exponential.proofs.Box.{Fits, Inside, part, ends}

-- ---- the boxes and the cuts, in 1/2048 of h = 2^(F−n)
abbrev box_x : ℕ → Span
box_x zero = about 0 0
box_x (suc zero) = about 3392 3520
box_x (suc (suc zero)) = about 3948 3722
box_x (suc (suc (suc zero))) = about 4048 3792
box_x (suc (suc (suc (suc zero)))) = about 4054 3728
box_x (suc (suc (suc (suc (suc n))))) = about 4032 3840

abbrev box_y : ℕ → Span
box_y zero = about 0 0
box_y (suc zero) = about 3008 3008
box_y (suc (suc zero)) = about 3384 3384
box_y (suc (suc (suc zero))) = about 3536 3536
box_y (suc (suc (suc (suc zero)))) = about 3448 3448
box_y (suc (suc (suc (suc (suc n))))) = about 3584 3584

-- what two units are at most: h is 4096 or more up to step 4, and 256 or more after
abbrev slack : ℕ → ℤ
slack zero = pos 0
slack (suc zero) = pos 1
slack (suc (suc zero)) = pos 1
slack (suc (suc (suc zero))) = pos 1
slack (suc (suc (suc (suc zero)))) = pos 1
slack (suc (suc (suc (suc (suc n))))) = pos 16

abbrev cut_x : Span
cut_x = about 1024 768

abbrev cut_y : Span
cut_y = about 1536 1664

-- ---- one computed test for each step: its boxes fit, and end before 2·h
record Good (n : ℕ) : Type 0 where
  fits_x : Fits (box_x n) cut_x (real n) (slack n) (box_x (suc n))
  fits_y : Fits (box_y n) cut_y (imag n) (slack n) (box_y (suc n))
  inside_x : Inside (box_x n)
  inside_y : Inside (box_y n)

abbrev Ok : Type 0
Ok = Unit {0} × Unit {0}

three : Ok × Ok × Ok
three = ((tt, tt), (tt, tt), (tt, tt))

good : (n : ℕ) → Good (suc n)
good zero = record { fits_x = three; fits_y = three; inside_x = (tt, tt); inside_y = (tt, tt) }
good (suc zero) = record { fits_x = three; fits_y = three; inside_x = (tt, tt); inside_y = (tt, tt) }
good (suc (suc zero)) = record { fits_x = three; fits_y = three; inside_x = (tt, tt); inside_y = (tt, tt) }
good (suc (suc (suc zero))) = record { fits_x = three; fits_y = three; inside_x = (tt, tt); inside_y = (tt, tt) }
good (suc (suc (suc (suc n)))) = record { fits_x = three; fits_y = three; inside_x = (tt, tt); inside_y = (tt, tt) }

-- ---- the thresholds are multiples of h
low_x_is : (F n : ℕ) → 1 + n ≤ F → pos 2048 *ℤ low_x F n ≡ cut_x.lo *ℤ two (F - n)
low_x_is F n g = ring! ℤR (two (F - 1 - n) ∷ []) (search reify depth 20) tt ∙ ap (λ t. negsuc 1023 *ℤ t) (two_part 1 F n g)

high_x_is : (F n : ℕ) → 3 + n ≤ F → pos 2048 *ℤ high_x F n ≡ cut_x.hi *ℤ two (F - n)
high_x_is F n g = ring! ℤR (two (F - 3 - n) ∷ []) (search reify depth 20) tt ∙ ap (λ t. pos 768 *ℤ t) (two_part 3 F n g)

low_y_is : (F n : ℕ) → 2 + n ≤ F → pos 2048 *ℤ low_y F n ≡ cut_y.lo *ℤ two (F - n)
low_y_is F n g = ring! ℤR (two (F - 2 - n) ∷ []) (search reify depth 20) tt ∙ ap (λ t. negsuc 1535 *ℤ t) (two_part 2 F n g)

high_y_is : (F n : ℕ) → 4 + n ≤ F → pos 2048 *ℤ high_y F n ≡ cut_y.hi *ℤ two (F - n)
high_y_is F n g = ring! ℤR (two (F - 4 - n) ∷ []) (search reify depth 20) tt ∙ ap (λ t. pos 1664 *ℤ t) (two_part 4 F n g)

-- two units are at most the slack
early : (F n : ℕ) → 16 ≤ F → n ≤ 4 → pos 4096 ⩽ pos 1 *ℤ two (F - n)
early F n g h = lin (two (F - n) ∷ []) (two_mono 12 (F - n) (omega arith) & none) (search reify depth 20) tt

late : (F n : ℕ) → n + 8 ≤ F → pos 4096 ⩽ pos 16 *ℤ two (F - n)
late F n h = lin (two (F - n) ∷ []) (two_mono 8 (F - n) (omega arith) & none) (search reify depth 20) tt

slack_is : (F n : ℕ) → 16 ≤ F → suc n + 8 ≤ F → pos 4096 ⩽ slack (suc n) *ℤ two (F - suc n)
slack_is F zero g h = early F 1 g (omega arith)
slack_is F (suc zero) g h = early F 2 g (omega arith)
slack_is F (suc (suc zero)) g h = early F 3 g (omega arith)
slack_is F (suc (suc (suc zero))) g h = early F 4 g (omega arith)
slack_is F (suc (suc (suc (suc n)))) g h = late F (suc (suc (suc (suc (suc n))))) h

-- THE RECTANGLE of the exponents: ex from −53/64 to 55/64, ey at most 47/64 in size
pub record Rectangle (F : ℕ) (e : 𝔾) : Type 0 where
  pub re_lo : negsuc 52 *ℤ two F ⩽ pos 64 *ℤ e.re
  pub re_hi : pos 64 *ℤ e.re ⩽ pos 55 *ℤ two F
  pub im_lo : negsuc 46 *ℤ two F ⩽ pos 64 *ℤ e.im
  pub im_hi : pos 64 *ℤ e.im ⩽ pos 47 *ℤ two F

-- each part of e is below m in size
pub record Below (e : 𝔾) (m : ℤ) : Type 0 where
  pub re : abs e.re ⋖ m
  pub im : abs e.im ⋖ m

pub below_parts : {e : 𝔾} {m : ℤ} → Below e m → Parts e m
below_parts h = record { re = below_size h.re; im = below_size h.im }

-- each part lies in the box of step n
pub record Boxed (F n : ℕ) (e : 𝔾) : Type 0 where
  pub x : Lies (pos 0) (box_x n) (two (F - n)) e.re
  pub y : Lies (pos 0) (box_y n) (two (F - n)) e.im

module _ (F M : ℕ) (wide : 16 ≤ F) (room : M + 8 ≤ F) (t : StepTable) (promise : StepPromise F M t) where
  -- step n + 1
  boxed_step : (n : ℕ) (e : 𝔾) → suc n ≤ M → Boxed F (suc n) e → Boxed F (suc (suc n)) (e -ᵍ look t (suc n) (exp_select F (suc n) e))
  unfolding exp_select ◌+ᵍ◌ negᵍ
  boxed_step n e g b = record {
    x = part h h' k half sign units (box_x m) cut_x (real m) (box_x (suc m)) (low_x F m) (high_x F m) e.re (look t m d).re
        d.re (good n).fits_x
        (low_x_is F m (omega arith)) (high_x_is F m (omega arith)) (cut_says (low_x F m) (high_x F m) e.re) b.x kept.re;
    y = part h h' k half sign units (box_y m) cut_y (imag m) (box_y (suc m)) (low_y F m) (high_y F m) e.im (look t m d).im
        d.im (good n).fits_y
        (low_y_is F m (omega arith)) (high_y_is F m (omega arith)) (cut_says (low_y F m) (high_y F m) e.im) b.y kept.im;
  }
    where
      m : ℕ
      m = suc n

      d : 𝔾
      d = exp_select F m e

      kept : StepEntry F m d (look t m d)
      kept = promise m (omega arith) g d (exp_digit F m e)

      h : ℤ
      h = two (F - m)

      h' : ℤ
      h' = two (F - suc m)

      k : ℤ
      k = slack m

      half : h ≡ pos 2 *ℤ h'
      half = two_halve F m (omega arith)

      sign : pos 0 ⩽ h
      sign = nonneg_pos (2 ^ (F - m))

      units : pos 4096 ⩽ k *ℤ h
      units = slack_is F n wide (omega arith)

  pub boxed_start : (e : 𝔾) → Rectangle F e → Boxed F 1 e
  boxed_start e r = record {
    x = record {
      low = lin ρ (twice &≡ r.re_lo & none) (search reify depth 20) tt;
      high = lin ρ (twice &≡ r.re_hi & none) (search reify depth 20) tt;
    };
    y = record {
      low = lin ρ (twice &≡ r.im_lo & none) (search reify depth 20) tt;
      high = lin ρ (twice &≡ r.im_hi & none) (search reify depth 20) tt;
    };
  }
    where
      twice : two F ≡ pos 2 *ℤ two (F - 1)
      twice = ap two whole ∙ two_halve F 0 (omega arith)
        where
          whole : F ≡ F - 0
          whole = omega arith

      ρ : List ℤ
      ρ = two F ∷ two (F - 1) ∷ e.re ∷ e.im ∷ []

  -- a step of the iteration keeps it
  pub boxed_next : (n : ℕ) (x : State) → suc n ≤ M → Boxed F (suc n) (gauss x.sum) →
      Boxed F (suc (suc n)) (gauss (moved F t Exp (suc n) x).sum)
  unfolding next select
  boxed_next n x = boxed_step n (gauss x.sum)

  pub boxed_below : (n : ℕ) (e : 𝔾) → n ≤ M → Boxed F (suc n) e → Below e (two (F - n))
  boxed_below n e g b = subst (λ m. Below e m) (sym (two_halve F n (omega arith))) (record {
    re = ends (box_x (suc n)) (two (F - suc n)) e.re (two≥1 (F - suc n)) (good n).inside_x b.x;
    im = ends (box_y (suc n)) (two (F - suc n)) e.im (two≥1 (F - suc n)) (good n).inside_y b.y;
  })

  -- the exponent lies in its box after each step
  pub boxed : (x : State) → Rectangle F (gauss x.sum) → (n : ℕ) → n ≤ M → Boxed F (suc n) (gauss (run F t Exp 0 n x).sum)
  boxed x r n g = run_keeps F t Exp (λ n x. Boxed F (suc n) (gauss x.sum)) M boxed_next 0 n n x (omega arith) g
      (boxed_start (gauss x.sum) r)

  -- THE THEOREM
  pub converges : (x : State) → Rectangle F (gauss x.sum) → (n : ℕ) → n ≤ M → Below (gauss (run F t Exp 0 n x).sum) (two (F - n))
  converges x r n g = boxed_below n (gauss (run F t Exp 0 n x).sum) g (boxed x r n g)
