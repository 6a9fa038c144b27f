-- Only the contracts of private functions cite this: what the parts of a step ask and make.
use Rattle.std.specs.Prelude.{List, ℕ, ◌<◌, ℤ, pos}
use Rattle.algebra.specs.Gauss.{𝔾, ◌-ᵍ◌, two}
use Rattle.algebra.specs.Order.{◌⩽◌}
use Rattle.algebra.specs.Size.{Size, Parts}
use Rattle.point.specs.declared.Digit.{Digit}
use Rattle.point.specs.Digit.{IsDigit}
use Rattle.point.specs.Point.{gauss, gaussᵈ}
use Rattle.point.specs.Step.{step}
use Rattle.table_numbers.specs.declared.Entry.{Entry}
use Rattle.table_numbers.specs.Listed.{by_digit}
use Rattle.table_numbers.specs.Rows.{number, none as no-entry}
use Rattle.iteration.specs.declared.State.{State}
use Rattle.iteration.specs.Run.{state, Small}

-- a threshold, and the part of one that it lies around
pub record BackPre (t one : ℤ) : Type 0 where
  pub least : pos 1 ⩽ t
  pub most : Size t (two 48)
  pub centre : Size one (two 48)

-- the sum with and without the entry
pub record LessPre (e z : 𝔾) : Type 0 where
  pub sum : Parts e (two 61)
  pub left : Parts (e -ᵍ z) (two 61)

pub record StepPre (s : State) (d : Digit) (row : List Entry) (n : ℕ) : Type 0 where
  pub small : Small s
  pub digit : IsDigit (gaussᵈ d)
  pub count : n < 63
  pub left : Parts (gauss s.sum -ᵍ number (by_digit row no-entry d.dy)) (two 61)

abbrev pub step_of : State → Digit → List Entry → ℕ → State
step_of s d row n = state (step n (gaussᵈ d) (gauss s.point)) (gauss s.sum -ᵍ number (by_digit row no-entry d.dy))
