-- `iteration::run` meets its contract. The invariant after the steps taken: every state from here on is small, and the steps that are left
-- lead where all lead.
use mathlib.Core.Path.{◌≡◌}
use Prim.Native.Nat.{ℕ, ◌-◌}
use Rattle.table_numbers.specs.Table.{step_table}
use Rattle.iteration.specs.declared.State.{State}
use Rattle.iteration.specs.Select.{Mode}
use Rattle.iteration.specs.Run.{run, Fits}
use Rattle.iteration.proofs.run.Given as goal

-- after step k
abbrev pub Left : Mode → ℕ → State → State → ℕ → Type 0
Left mode n end s k = Fits 48 step_table mode k n s × (run 48 step_table mode k (n - k) s ≡ end)

abbrev pub invariant-loop-taken : goal.invariant-loop-taken
invariant-loop-taken g l = let mode = g.M.Select.mode in Left mode l.n (run 48 step_table mode l.from (l.n - l.from) l.initial.s) l.s l.taken
