-- `logarithm::reduction::reduced` meets its contract.
use lib.Dec.{lit≤}
use borrow.Author.Rules.{rules}
use Rattle.algebra.specs.Gauss.{◌*ᵍ◌}
use Rattle.algebra.specs.Rounding.{floorᵍ}
use Rattle.word.proofs.Fits.{back}
use Rattle.logarithm.proofs.Fits.{reduce_fits}
use Rattle.logarithm.proofs.reduction.reduced.Goals as goal

pub overflow_sub-re : goal.overflow_sub-re
overflow_sub-re c = let f = reduce_fits (lit≤ tt) c.requires in search rules

pub overflow_mul-im : goal.overflow_mul-im
overflow_mul-im c = let f = reduce_fits (lit≤ tt) c.requires in search rules

pub overflow_mul-im-2 : goal.overflow_mul-im-2
overflow_mul-im-2 c = let f = reduce_fits (lit≤ tt) c.requires in search rules

pub overflow_add-im : goal.overflow_add-im
overflow_add-im c = let f = reduce_fits (lit≤ tt) c.requires in search rules

pub returns : goal.returns
unfolding ◌*ᵍ◌ floorᵍ
returns c = let f = reduce_fits (lit≤ tt) c.requires in
    simp (back, f.x, f.y, f.a, f.b, f.ax, f.b_y, f.a_y, f.bx, f.re, f.im, f.over_re, f.over_im)
