-- `edges::cell_reciprocal` meets its contract.
use Rattle.word.proofs.Fits.{back}
use Rattle.word.proofs.Shift.{sfits_shift}
use Rattle.logarithm.specs.Reduction.{column, row}
use Rattle.edges.proofs.cell_reciprocal.Goals as goal

pub returns : goal.returns
unfolding column row
returns c =
    let f = c.before.ranges in
    simp (back, f.x, f.y, sfits_shift 2 f.x, sfits_shift 2 f.y) at c.reciprocal.ensures
