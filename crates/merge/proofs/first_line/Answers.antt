-- `merge::first_line` meets its contract.
use mathlib.Core.Path.{sym}
use Rattle.merge.proofs.Found.{first_is, first_length}
use Rattle.merge.proofs.first_line.Goals as goal

pub slice_bounds-result-end : goal.slice_bounds-result-end
slice_bounds-result-end c = sym (first_length c.args.s.now c.find_byte.ensures)

pub returns : goal.returns
returns c = first_is c.args.s.now c.find_byte.ensures
