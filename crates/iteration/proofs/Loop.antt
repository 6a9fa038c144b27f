-- One turn of the code's loop: what it asks and makes, from every state on the way being small. Over a width F up to 48 and any table.
use mathlib.Core.Path.{◌≡◌, sym, ◌∙◌, ap, ap₂, subst}
use mathlib.Core.List.{List}
use Prim.Native.Nat.{ℕ, suc, ◌-◌, ◌≤◌, ◌<◌}
use native.Mathlib.Omega.{arith}
use Rattle.algebra.specs.Gauss.{◌-ᵍ◌, two}
use Rattle.algebra.specs.Size.{Parts}
use Rattle.point.specs.declared.Digit.{Digit}
use Rattle.point.specs.Digit.{IsDigit}
use Rattle.point.specs.Point.{gauss, gaussᵈ, digit}
use Rattle.point.specs.Step.{step}
use Rattle.table_numbers.specs.declared.Entry.{Entry}
use Rattle.table_numbers.specs.Listed.{by_digit}
use Rattle.table_numbers.specs.Promise.{StepTable, look}
use Rattle.table_numbers.specs.Rows.{number, none as no-entry}
use Rattle.iteration.specs.declared.State.{State}
use Rattle.iteration.specs.Select.{Mode}
use Rattle.iteration.specs.Run.{state, select, next, moved, run, Small, Fits}
use Rattle.iteration.specs.Code.{StepPre, step_of}
use Rattle.iteration.proofs.Digits.{select_digit}

-- ---- the steps that are left after step k
module _ {F : ℕ} {t : StepTable} {mode : Mode} {k n : ℕ} {x : State} (f : Fits F t mode k n x) where
  pub here : Small x
  unfolding run
  here = f.small 0 (omega arith)

  module _ (h : k < n) where
    left_is : n - k ≡ suc (n - suc k)
    left_is = omega arith

    pub onward : Fits F t mode (suc k) n (moved F t mode (suc k) x)
    unfolding run
    onward = record { least = h; most = f.most; small = λ j l. f.small (suc j) (omega (arith, left_is)) }

    pub run_more : run F t mode k (n - k) x ≡ run F t mode (suc k) (n - suc k) (moved F t mode (suc k) x)
    unfolding run
    run_more = ap (λ m. run F t mode k m x) left_is

-- ---- step i of the code, after k steps, by the digit of its mode and the entry of that digit
module _ (F : ℕ) (t : StepTable) (mode : Mode) (k i : ℕ) (s : State) (d : Digit) (row : List Entry) (next_is : i ≡ suc k)
    (chosen : d ≡ digit (select F mode i s)) (found : number (by_digit row no-entry d.dy) ≡ look t i (gaussᵈ d)) where
  digit_is : d ≡ digit (select F mode (suc k) s)
  digit_is = chosen ∙ ap (λ i. digit (select F mode i s)) next_is

  entry_is : number (by_digit row no-entry d.dy) ≡ look t (suc k) (select F mode (suc k) s)
  entry_is = found ∙ ap₂ (λ i x. look t i (gaussᵈ x)) next_is digit_is

  pub step_is : step_of s d row i ≡ moved F t mode (suc k) s
  unfolding next
  step_is = ap (step_of s d row) next_is
      ∙ ap₂ (λ x z. state (step (suc k) (gaussᵈ x) (gauss s.point)) (gauss s.sum -ᵍ z)) digit_is entry_is

  pub step_ok : {n : ℕ} → F ≤ 48 → Fits F t mode k n s → k < n → StepPre s d row i
  unfolding next
  step_ok narrow f h = record {
    small = here f;
    digit = subst (λ x. IsDigit (gaussᵈ x)) (sym digit_is) (select_digit F mode (suc k) s);
    count = omega (arith, next_is, f.most);
    left = subst (λ z. Parts (gauss s.sum -ᵍ z) (two 61)) (sym entry_is) (here (onward f h)).sum;
  }
