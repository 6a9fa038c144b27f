-- `register::run` meets its contract.
use mathlib.Core.Path.{◌≡◌, sym, ◌∙◌, ap, subst, subst₂}
use mathlib.Core.List.{List}
use Prim.Native.Nat.{ℕ, suc, ◌+◌, ◌-◌, ◌≤◌}
use native.Mathlib.Omega.{arith}
use mir.Syntax.{w64}
use mir.Val.{SFits, to_z, of_z}
use borrow.Author.Rules.{rules}
use Rattle.word.proofs.Fits.{back}
use Rattle.point.specs.declared.Digit.{Digit}
use Rattle.point.specs.Point.{gauss, gaussᵈ, digit}
use Rattle.table_numbers.specs.declared.Entry.{Entry}
use Rattle.table_numbers.specs.Listed.{by_digit}
use Rattle.table_numbers.specs.Promise.{look}
use Rattle.table_numbers.specs.Table.{step_table}
use Rattle.table_numbers.specs.Rows.{number, none, step_row}
use Rattle.table_numbers.proofs.RowLaws.{row_entry}
use Rattle.iteration.specs.declared.State.{State}
use Rattle.register.specs.Register.{register_select, register_run}
use Rattle.register.specs.Code.{StepPre, step_of}
use Rattle.register.proofs.Loop.{onward, run_more, step_is, step_ok}
use Rattle.register.proofs.run.Goals as goal
use Rattle.register.proofs.run.Invariants.{Left}

-- ---- step k, by the digit of the register and the row for it: what it asks, and what is left after it
module _ {k n : ℕ} {end s : State} {d : Digit} {row : List Entry} (first : 1 ≤ k) (last : k ≤ n) (left : Left n end s (k - 1))
    (chosen : d ≡ digit (register_select 48 (gauss s.sum))) (dx : SFits w64 d.dx) (given : row ≡ step_row k (to_z w64 (of_z w64 d.dx))) where
  -- k is one more than the steps taken
  counted : suc (k - 1) ≡ k
  counted = omega (arith, first)

  below : suc (k - 1) ≤ n
  below = omega (arith, first, last)

  found : number (by_digit row none d.dy) ≡ look step_table (suc (k - 1)) (gaussᵈ d)
  found = ap (λ r. number (by_digit r none d.dy)) (given ∙ (λ i. step_row (sym counted i) (back dx i)))
      ∙ ap number (row_entry (suc (k - 1)) d.dx d.dy)

  asked : StepPre s d row k
  asked = subst (StepPre s d row) counted (step_ok 48 step_table (k - 1) s d row chosen found (omega arith) left.0 below)

  after : {x : State} → x ≡ step_of s d row k → Left n end x k
  after {x} made = subst₂ (Left n end)
      (sym (made ∙ (ap (step_of s d row) (sym counted) ∙ step_is 48 step_table (k - 1) s d row chosen found))) counted
      (onward left.0 below, sym (run_more left.0 below) ∙ left.1)

-- where no step is left
ended : {n j : ℕ} {end s : State} → n - j ≡ 0 → Left n end s j → s ≡ end
unfolding register_run
ended {j} {s} none l = ap (λ m. register_run 48 step_table j m s) (sym none) ∙ l.1

pub step-s-requires : goal.step-s-requires
step-s-requires c =
    let dx : SFits w64 c.select-d.result.dx = search rules in
    asked c.loop-k.auto.k c.loop-k-test.true c.loop-k.invariant c.select-d.ensures dx c.array_row-row.ensures.value

pub loop-k-preserved : goal.loop-k-preserved
loop-k-preserved c =
    let dx : SFits w64 c.select-d.result.dx = search rules in
    let here : c.loop-k.k ≡ c.loop-k.k + 1 - 1 = omega arith in
    subst (Left c.args.n (register_run 48 step_table 0 c.args.n c.args.start) c.step-s.result) here
    (after c.loop-k.auto.k c.loop-k-test.true c.loop-k.invariant c.select-d.ensures dx c.array_row-row.ensures.value c.step-s.ensures)

pub returns : goal.returns
returns c = ended (omega arith) c.loop-k.invariant

pub returns-2 : goal.returns-2
returns-2 c =
    let dx : SFits w64 c.select-d.result.dx = search rules in
    let none : c.args.n - c.loop-k.k ≡ 0 = omega arith in
    ended none (after c.loop-k.auto.k c.loop-k-test.true c.loop-k.invariant c.select-d.ensures dx c.array_row-row.ensures.value c.step-s.ensures)
