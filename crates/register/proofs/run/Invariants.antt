-- `register::run` meets its contract. The invariant before step k: every state from here on is small, and the steps from k on lead where
-- all lead.
use mathlib.Core.Path.{◌≡◌}
use Prim.Native.Nat.{ℕ, ◌-◌}
use Rattle.table_numbers.specs.Table.{step_table}
use Rattle.iteration.specs.declared.State.{State}
use Rattle.register.specs.Register.{register_run}
use Rattle.register.specs.Code.{Fits}
use Rattle.register.proofs.run.Given as goal

-- after step j
abbrev pub Left : ℕ → State → State → ℕ → Type 0
Left n end s j = Fits 48 step_table j n s × (register_run 48 step_table j (n - j) s ≡ end)

abbrev pub invariant-loop-k : goal.invariant-loop-k
invariant-loop-k l = Left l.n (register_run 48 step_table 0 l.n l.initial.s) l.s (l.k - 1)
