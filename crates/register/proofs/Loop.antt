-- One turn of the code's loop: what it asks and makes, from every state on the way being small. Over a width F up to 48 and any table.
use mathlib.Core.Path.{◌≡◌, sym, ◌∙◌, ap, ap₂, subst}
use mathlib.Core.List.{List}
use Prim.Native.Nat.{ℕ, suc, ◌-◌, ◌≤◌, ◌<◌}
use native.Mathlib.Omega.{arith}
use Rattle.algebra.specs.Gauss.{two}
use Rattle.algebra.specs.Size.{Parts}
use Rattle.point.specs.declared.Digit.{Digit}
use Rattle.point.specs.Digit.{IsDigit}
use Rattle.point.specs.Point.{gauss, gaussᵈ, digit}
use Rattle.point.specs.Step.{step}
use Rattle.table_numbers.specs.declared.Entry.{Entry}
use Rattle.table_numbers.specs.Listed.{by_digit}
use Rattle.table_numbers.specs.Promise.{StepTable, look}
use Rattle.table_numbers.specs.Rows.{number, none as no-entry}
use Rattle.iteration.specs.declared.State.{State}
use Rattle.iteration.specs.Run.{state, Small}
use Rattle.register.specs.Register.{register_select, register_next, register_moved, register_run}
use Rattle.register.specs.Code.{doubled_less, StepPre, step_of, Fits}
use Rattle.register.proofs.Simulation.{register_digit}

-- ---- the steps that are left after step k
module _ {F : ℕ} {t : StepTable} {k n : ℕ} {x : State} (f : Fits F t k n x) where
  pub here : Small x
  unfolding register_run
  here = f.small 0 (omega arith)

  module _ (h : k < n) where
    left_is : n - k ≡ suc (n - suc k)
    left_is = omega arith

    pub onward : Fits F t (suc k) n (register_moved F t (suc k) x)
    unfolding register_run
    onward = record { least = h; most = f.most; small = λ j l. f.small (suc j) (omega (arith, left_is)) }

    pub run_more : register_run F t k (n - k) x ≡ register_run F t (suc k) (n - suc k) (register_moved F t (suc k) x)
    unfolding register_run
    run_more = ap (λ m. register_run F t k m x) left_is

-- ---- a step of the code, by the digit of the register and the entry of that digit
module _ (F : ℕ) (t : StepTable) (k : ℕ) (s : State) (d : Digit) (row : List Entry)
    (chosen : d ≡ digit (register_select F (gauss s.sum)))
    (found : number (by_digit row no-entry d.dy) ≡ look t (suc k) (gaussᵈ d)) where
  entry_is : number (by_digit row no-entry d.dy) ≡ look t (suc k) (register_select F (gauss s.sum))
  entry_is = found ∙ ap (λ x. look t (suc k) (gaussᵈ x)) chosen

  pub step_is : step_of s d row (suc k) ≡ register_moved F t (suc k) s
  unfolding register_next
  step_is = ap₂ (λ x z. state (step (suc k) (gaussᵈ x) (gauss s.point)) (doubled_less (gauss s.sum) z (suc k))) chosen entry_is

  pub step_ok : {n : ℕ} → F ≤ 48 → Fits F t k n s → k < n → StepPre s d row (suc k)
  unfolding register_next
  step_ok narrow f h = record {
    small = here f;
    digit = subst (λ x. IsDigit (gaussᵈ x)) (sym chosen) (register_digit F (gauss s.sum));
    count = omega (arith, f.most);
    after = subst (λ z. Parts (doubled_less (gauss s.sum) z (suc k)) (two 61)) (sym entry_is) (here (onward f h)).sum;
  }
