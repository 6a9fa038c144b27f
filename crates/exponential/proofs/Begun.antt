-- What is known of EXP before its first step: what was begun was accepted and fits the steps, and with what they make of it it is the answer.
use mathlib.Core.Path.{◌≡◌, refl, sym, ◌∙◌, ap, subst}
use Prim.Native.Nat.{ℕ, ◌-◌}
use native.Mathlib.Omega.{arith}
use lib.Dec.{lit≤}
use lib.IntN.{ℤ, nat_abs}
use mir.Syntax.{w64}
use mir.Val.{SFits}
use Rattle.algebra.specs.Gauss.{𝔾, gi}
use Rattle.point.specs.Point.{gauss}
use Rattle.answer.specs.Answer.{Answer}
use Rattle.answer.specs.declared.Figures.{Figures}
use Rattle.answer.specs.declared.Refusal.{Refusal}
use Rattle.std.specs.Prelude.{Ok, Err}
use Rattle.table_numbers.specs.Promise.{Constants}
use Rattle.table_numbers.specs.Numbers48.{constants48}
use Rattle.table_numbers.specs.Table.{step_table}
use Rattle.iteration.specs.declared.State.{State}
use Rattle.iteration.specs.Select.{Exp}
use Rattle.iteration.specs.Run.{run, Fits}
use Rattle.exponential.specs.declared.reduction.Reduced.{Reduced}
use Rattle.exponential.specs.Reduction.{reduction}
use Rattle.exponential.specs.Answer.{unless_refused, begun, figures_at, figures, answer, beginning, exp_beginning}
use Rattle.exponential.specs.Code.{Accepted}
use Rattle.exponential.proofs.Fits.{ReducedFits, fits_48, bound_fits, bound_is}
use Rattle.exponential.proofs.Close.{not_refused, tests_keep}

module _ (F : ℕ) (c : Constants) (n : ℤ) (e s : 𝔾) where
  abbrev r : Reduced
  r = reduction F c e s

  -- what an answer before the first step says
  abbrev Says : Answer → Type 0
  Says (Ok f) = Accepted F n e s × (f ≡ figures_at (nat_abs n) r (begun r))
  Says (Err x) = (a : Answer) → unless_refused F n e s a ≡ Err x

  says : Says (beginning F c n e s)
  unfolding beginning
  says = tests_keep F n e s Says (Ok (figures_at (nat_abs n) r (begun r))) (λ x refused. refused) (λ p. (p, refl))

  pub begun_says : {f : Figures} → beginning F c n e s ≡ Ok f → Accepted F n e s × (f ≡ figures_at (nat_abs n) r (begun r))
  begun_says b = subst Says b says

  pub refused_says : {x : Refusal} → beginning F c n e s ≡ Err x → (a : Answer) → unless_refused F n e s a ≡ Err x
  refused_says b = subst Says b says

-- ---- at the width 48
-- what was begun fits the code that goes on from it
pub record BegunFits (n : ℤ) (f : Figures) : Type 0 where
  pub exponent : SFits w64 f.binary_exponent
  pub quadrant : SFits w64 f.quadrant
  pub bound : SFits w64 f.error_bound
  pub steps : Fits 48 step_table Exp 0 (nat_abs n) (record { point = f.value; sum = f.remainder })

-- the figures that were begun, with what the steps made of them
abbrev pub ending : Figures → State → Figures
ending f x = record {
  value = x.point;
  binary_exponent = f.binary_exponent;
  quadrant = f.quadrant;
  error_bound = f.error_bound;
  remainder = x.sum;
}

module _ (n ex ey sx sy : ℤ) where
  abbrev g : Reduced
  g = reduction 48 constants48 (gi ex ey) (gi sx sy)

  pub begun_accepted : {f : Figures} → exp_beginning n ex ey sx sy ≡ Ok f → Accepted 48 n (gi ex ey) (gi sx sy)
  unfolding exp_beginning
  begun_accepted b = (begun_says 48 constants48 n (gi ex ey) (gi sx sy) b).0

  pub begun_fits : {f : Figures} → exp_beginning n ex ey sx sy ≡ Ok f → BegunFits n f
  unfolding exp_beginning
  begun_fits b = let h = begun_says 48 constants48 n (gi ex ey) (gi sx sy) b in subst (BegunFits n) (sym h.1) (fits h.0)
    where
      fits : Accepted 48 n (gi ex ey) (gi sx sy) → BegunFits n (figures_at (nat_abs n) g (begun g))
      fits p = let f : ReducedFits 48 step_table (nat_abs n) g = fits_48 p refl in
          let b = bound_fits 48 (nat_abs n) (omega arith) f.few f.start in
          record {
            exponent = f.doublings;
            quadrant = record { sfits = lit≤ tt };
            bound = subst (SFits w64) (bound_is (nat_abs n) (gauss g.start) b) b.bound;
            steps = f.steps;
          }

  -- the answer, once the steps were run
  pub begun_ends : {f : Figures} {x : State} → exp_beginning n ex ey sx sy ≡ Ok f →
      x ≡ run 48 step_table Exp 0 (nat_abs n - 0) (record { point = f.value; sum = f.remainder }) →
      answer 48 step_table constants48 n (gi ex ey) (gi sx sy)
      ≡ Ok (ending f x)
  unfolding exp_beginning answer
  begun_ends {f} {x} b ran = let h = begun_says 48 constants48 n (gi ex ey) (gi sx sy) b in
      not_refused 48 n (gi ex ey) (gi sx sy) h.0 (Ok (figures 48 step_table constants48 (nat_abs n) (gi ex ey) (gi sx sy)))
      ∙ (ap (λ (f : Figures). Ok (ending f (run 48 step_table Exp 0 (nat_abs n) (record { point = f.value; sum = f.remainder })))) (sym h.1)
      ∙ ap (λ (x : State). Ok (ending f x)) (sym (rw none at ran)))
    where
      none : nat_abs n - 0 ≡ nat_abs n
      none = omega arith

  pub begun_refused : {x : Refusal} → exp_beginning n ex ey sx sy ≡ Err x → answer 48 step_table constants48 n (gi ex ey) (gi sx sy) ≡ Err x
  unfolding exp_beginning answer
  begun_refused b = refused_says 48 constants48 n (gi ex ey) (gi sx sy) b
      (Ok (figures 48 step_table constants48 (nat_abs n) (gi ex ey) (gi sx sy)))
