-- `iteration::run` meets its contract.
use mathlib.Core.Path.{◌≡◌, sym, ◌∙◌, ap, subst, subst₂}
use Prim.Native.Nat.{ℕ, suc, ◌+◌, ◌-◌}
use mathlib.Core.List.{List}
use native.Mathlib.Omega.{arith}
use mir.Syntax.{w64}
use mir.Val.{to_z, of_z}
use Rattle.point.specs.declared.Digit.{Digit}
use Rattle.point.specs.Digit.{IsDigit}
use Rattle.point.specs.Point.{gaussᵈ, digit}
use Rattle.table_numbers.specs.declared.Entry.{Entry}
use Rattle.table_numbers.specs.Listed.{by_digit}
use Rattle.table_numbers.specs.Promise.{look}
use Rattle.table_numbers.specs.Table.{step_table}
use Rattle.table_numbers.specs.Rows.{number, none, step_row}
use Rattle.table_numbers.proofs.DigitPlaces.{trit_word}
use Rattle.table_numbers.proofs.RowLaws.{row_entry}
use Rattle.iteration.specs.declared.State.{State}
use Rattle.iteration.specs.Select.{Mode}
use Rattle.iteration.specs.Run.{select, run}
use Rattle.iteration.proofs.Digits.{select_digit}
use Rattle.iteration.proofs.Loop.{onward, run_more, step_is, step_ok}
use Rattle.iteration.proofs.run.Goals as goal
use Rattle.iteration.proofs.run.Invariants.{Left}

-- the entry of the row for a digit
found : (mode : Mode) (k : ℕ) (s : State) {d : Digit} {row : List Entry} → d ≡ digit (select 48 mode k s) →
    row ≡ step_row k (to_z w64 (of_z w64 d.dx)) → number (by_digit row none d.dy) ≡ look step_table k (gaussᵈ d)
found mode k s {d} chosen row =
    let trits : IsDigit (gaussᵈ d) = subst (λ x. IsDigit (gaussᵈ x)) (sym chosen) (select_digit 48 mode k s) in
    ap (λ r. number (by_digit r none d.dy)) (row ∙ ap (step_row k) (trit_word trits.x)) ∙ ap number (row_entry k d.dx d.dy)

one_more : (k : ℕ) → k + 1 ≡ suc k
one_more k = omega arith

pub step-s-requires : goal.step-s-requires
step-s-requires g c =
    let l = c.loop-taken in
    let k = l.taken in
    let mode = g.M.Select.mode in
    step_ok 48 step_table mode k (k + 1) l.s c.digit-d.result c.row-row.result (one_more k) c.digit-d.ensures
    (found mode (k + 1) l.s c.digit-d.ensures c.row-row.ensures.value) (omega arith) l.invariant.0 c.loop-taken-test.true

pub loop-taken-preserved : goal.loop-taken-preserved
loop-taken-preserved g c =
    let l = c.loop-taken in
    let k = l.taken in
    let mode = g.M.Select.mode in
    let f = l.invariant.0 in
    let more = c.loop-taken-test.true in
    let made = c.step-s.ensures
    ∙ step_is 48 step_table mode k (k + 1) l.s c.digit-d.result c.row-row.result (one_more k) c.digit-d.ensures
    (found mode (k + 1) l.s c.digit-d.ensures c.row-row.ensures.value) in
    subst₂ (Left mode c.args.n (run 48 step_table mode c.args.from (c.args.n - c.args.from) c.args.start)) (sym made) (sym (one_more k))
    (onward f more, sym (run_more f more) ∙ l.invariant.1)

pub returns : goal.returns
unfolding run
returns g c =
    let l = c.loop-taken in
    let none : 0 ≡ c.args.n - l.taken = omega (arith, c.loop-taken-test.false) in
    ap (λ m. run 48 step_table g.M.Select.mode l.taken m l.s) none ∙ l.invariant.1
