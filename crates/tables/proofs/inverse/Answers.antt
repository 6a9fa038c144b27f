-- `tables::inverse` meets its contract.
use Prim.Native.Nat.{◌^◌}
use Rattle.word.proofs.Fits.{back}
use Rattle.word.proofs.Shift.{sfits_shift}
use Rattle.tables.proofs.inverse.Goals as goal

pub returns : goal.returns
returns c = let f = c.requires in
    simp (back, c.ranges.x, c.ranges.y, f.xx, f.yy, f.s, f.word, f.by_x, f.by_y, f.above, f.below, sfits_shift (2 ^ 16) f.above, sfits_shift (2 ^ 16) f.below)
