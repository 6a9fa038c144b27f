-- EXP's answer by the register, for every input (02, E9). Refusals, reduction, k and error bound are EXP's own: "It covers exponents inside
-- the old rectangle; outside, the reduction comes before both".
use Rattle.std.specs.Prelude.{ℕ, ℤ, nat_abs, Ok}
use Rattle.algebra.specs.Gauss.{𝔾, gi}
use Rattle.answer.specs.declared.Figures.{Figures}
use Rattle.answer.specs.Answer.{Answer}
use Rattle.table_numbers.specs.Promise.{StepTable, Constants}
use Rattle.table_numbers.specs.Numbers48.{constants48}
use Rattle.table_numbers.specs.Table.{step_table}
use Rattle.iteration.specs.declared.State.{State}
use Rattle.exponential.specs.declared.reduction.Reduced.{Reduced}
use Rattle.exponential.specs.Reduction.{reduction}
use Rattle.exponential.specs.Answer.{unless_refused, begun, figures_at}
use Rattle.register.specs.Register.{register_run, loaded, read_back}

module _ (F : ℕ) (t : StepTable) where
  -- the state after n steps
  abbrev pub register_ended : ℕ → Reduced → State
  register_ended n r = register_run F t 0 n (loaded (begun r))

  abbrev pub register_figures : ℕ → Reduced → Figures
  register_figures n r = figures_at n r (read_back n (register_ended n r))

  unfoldable pub register_answer_by : Constants → ℤ → 𝔾 → 𝔾 → Answer
  register_answer_by c n e s = unless_refused F n e s (Ok (register_figures (nat_abs n) (reduction F c e s)))

-- of exp (n, (ex, ey), (sx, sy))
unfoldable pub register_answer : ℤ → ℤ → ℤ → ℤ → ℤ → Answer
register_answer n ex ey sx sy = register_answer_by 48 step_table constants48 n (gi ex ey) (gi sx sy)
