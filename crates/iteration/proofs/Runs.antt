-- The laws of a run.
use mathlib.Core.Path.{◌≡◌, refl, ap, subst}
use mathlib.Core.List.{◌∷◌}
use Prim.Native.Nat.{ℕ, zero, suc, ◌+◌, ◌≤◌}
use native.Mathlib.Nat.{not-suc-le-zero, le_of_suc-le-suc}
use native.Mathlib.Omega.{arith}
use lib.ListN.{take}
use Rattle.table_numbers.specs.Promise.{StepTable}
use Rattle.iteration.specs.declared.State.{State}
use Rattle.iteration.specs.Select.{Mode}
use Rattle.iteration.specs.Run.{select, moved, run, digits}

module _ (F : ℕ) (t : StepTable) (mode : Mode) where
  -- fewer steps take the opening digits
  pub digits_open : (n k m : ℕ) (x : State) → k ≤ m → take k (digits F t mode n m x) ≡ digits F t mode n k x
  unfolding digits
  digits_open n zero m x h = refl
  digits_open n (suc k) zero x h = absurd (not-suc-le-zero h)
  digits_open n (suc k) (suc m) x h = ap (λ ds. select F mode (suc n) x ∷ ds)
      (digits_open (suc n) k m (moved F t mode (suc n) x) (le_of_suc-le-suc h))

  -- what each step up to M keeps, the run keeps: from after step n to after step m
  pub run_keeps : (I : ℕ → State → Type 0) (M : ℕ) →
      ((n : ℕ) (x : State) → suc n ≤ M → I n x → I (suc n) (moved F t mode (suc n) x)) →
      (n k m : ℕ) (x : State) → n + k ≡ m → m ≤ M → I n x → I m (run F t mode n k x)
  unfolding run
  run_keeps I M keep n zero m x e h i = subst (λ j. I j x) nothing i
    where
      nothing : n ≡ m
      nothing = omega (arith, e)
  run_keeps I M keep n (suc k) m x e h i = run_keeps I M keep (suc n) k m (moved F t mode (suc n) x) (omega (arith, e)) h
      (keep n x (omega (arith, e)) i)
