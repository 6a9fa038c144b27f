-- `controller::bkm_step_entry` meets its contract: the entry that the row has is the table's.
use mathlib.Core.Path.{◌≡◌, refl, ◌∙◌, ap}
use Prim.Native.Nat.{ℕ, zero, suc}
use Rattle.algebra.specs.Gauss.{𝔾}
use Rattle.word.proofs.Fits.{back, sfits_mag}
use Rattle.table_numbers.specs.Table.{step_table}
use Rattle.table_numbers.specs.Rows.{entry}
use Rattle.table_numbers.proofs.RowLaws.{row_entry}
use Rattle.controller.specs.Record.{part_of}
use Rattle.controller.proofs.bkm_step_entry.Goals as goal
use Rattle.controller.proofs.bkm_step_entry.Goals.{After-pick-e}

picked : (c : After-pick-e) → c.pick-e.result ≡ entry (step_table c.args.n c.args.dx c.args.dy)
picked c =
    rw (c.array_row.ensures.value, back c.ranges.dx, back c.ranges.dy) at c.pick-e.ensures ∙ row_entry c.args.n c.args.dx c.args.dy

-- by the part that is asked for
real : (part : ℕ) (z : 𝔾) → part ≡ 0 → z.re ≡ part_of part z
real part z e = rw e

imaginary : (part : ℕ) (z : 𝔾) → (part ≡ 0 → ⊥) → z.im ≡ part_of part z
imaginary zero z n = absurd (n refl)
imaginary (suc k) z n = refl

pub returns-then-part-eq0 : goal.returns-then-part-eq0
returns-then-part-eq0 c =
    back (sfits_mag c.pick-e.result.re c.struct_told-1.given.0.1) ∙ (ap (λ e. e.re) (picked (goal.at.returns-then-part-eq0 c).After-pick-e)
    ∙ real c.args.part (step_table c.args.n c.args.dx c.args.dy) c.if-part-eq0.true)

pub returns-else-part-eq0 : goal.returns-else-part-eq0
returns-else-part-eq0 c =
    back (sfits_mag c.pick-e.result.im c.struct_told-else-part-eq0-1.given.1.0.1)
    ∙ (ap (λ e. e.im) (picked (goal.at.returns-else-part-eq0 c).After-pick-e)
    ∙ imaginary c.args.part (step_table c.args.n c.args.dx c.args.dy) c.if-part-eq0.false)
