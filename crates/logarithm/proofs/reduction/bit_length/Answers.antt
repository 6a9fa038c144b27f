-- `logarithm::reduction::bit_length` meets its contract.
use lib.IntN.{nat_abs}
use Rattle.word.proofs.Fits.{back}
use Rattle.logarithm.proofs.Scale.{bits_log}
use Rattle.logarithm.proofs.Fits.{nat_abs_pos}
use Rattle.logarithm.proofs.reduction.bit_length.Goals as goal

pub returns : goal.returns
returns c = let log = simp (back, c.ranges.x) at c.ilog2.ensures in
    bits_log c.ilog2.result (nat_abs c.args.x) (nat_abs_pos c.args.x c.requires) log.power_le log.next_power_gt
