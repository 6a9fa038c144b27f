-- Only the contracts of private functions cite this: what the parts of the engine ask and make.
use Rattle.std.specs.Prelude.{List, ℕ, suc, ◌+◌, ◌-◌, ◌≤◌, ◌<◌, pos}
use Rattle.algebra.specs.Gauss.{𝔾, ιᵍ, ◌-ᵍ◌, ◌*ᵍ◌, two, twoᵍ}
use Rattle.algebra.specs.Size.{Parts}
use Rattle.point.specs.declared.Digit.{Digit}
use Rattle.point.specs.Digit.{IsDigit}
use Rattle.point.specs.Point.{gauss, gaussᵈ}
use Rattle.point.specs.Step.{step}
use Rattle.answer.specs.declared.Figures.{Figures}
use Rattle.table_numbers.specs.declared.Entry.{Entry}
use Rattle.table_numbers.specs.Listed.{by_digit}
use Rattle.table_numbers.specs.Promise.{StepTable}
use Rattle.table_numbers.specs.Rows.{number, none as no-entry}
use Rattle.iteration.specs.declared.State.{State}
use Rattle.iteration.specs.Run.{state, Small}
use Rattle.register.specs.Register.{register_run, loaded, read_back}

-- twice the register r, less 2^(n+1) times the entry z
abbrev pub doubled_less : 𝔾 → 𝔾 → ℕ → 𝔾
doubled_less r z n = ιᵍ (pos 2) *ᵍ r -ᵍ twoᵍ (suc n) *ᵍ z

pub record LessPre (r z : 𝔾) (n : ℕ) : Type 0 where
  pub count : n < 62
  pub before : Parts r (two 61)
  pub after : Parts (doubled_less r z n) (two 61)

pub record StepPre (s : State) (d : Digit) (row : List Entry) (n : ℕ) : Type 0 where
  pub small : Small s
  pub digit : IsDigit (gaussᵈ d)
  pub count : n < 62
  pub after : Parts (doubled_less (gauss s.sum) (number (by_digit row no-entry d.dy)) n) (two 61)

abbrev pub step_of : State → Digit → List Entry → ℕ → State
step_of s d row n = state (step n (gaussᵈ d) (gauss s.point)) (doubled_less (gauss s.sum) (number (by_digit row no-entry d.dy)) n)

-- every state on the way from after step `from` to after step n is small
pub record Fits (F : ℕ) (t : StepTable) (from n : ℕ) (x : State) : Type 0 where
  pub least : from ≤ n
  pub most : n + 8 ≤ F
  pub small : (j : ℕ) → j ≤ n - from → Small (register_run F t from j x)

-- ---- n steps from the figures before the first
abbrev pub before : Figures → State
before f = record { point = f.value; sum = f.remainder }

pub record TakePre (F : ℕ) (t : StepTable) (n : ℕ) (f : Figures) : Type 0 where
  pub exponent : Parts (gauss f.remainder) (two 61)
  pub fits : Fits F t 0 n (loaded (before f))

abbrev pub taken : ℕ → StepTable → ℕ → Figures → Figures
taken F t n f = let x = read_back n (register_run F t 0 n (loaded (before f))) in record {
  value = x.point;
  binary_exponent = f.binary_exponent;
  quadrant = pos 0;
  error_bound = f.error_bound;
  remainder = x.sum;
}
