-- `doubles::write_part` meets its contract: the conversion and the division are exact.
use Rattle.std.proofs.Common.{lit≤}
use Rattle.word.proofs.Fits.{back}
use Rattle.doubles.proofs.Value.{written_is}
use Rattle.doubles.proofs.Found.{two_48}
use Rattle.doubles.proofs.write_part.Goals as goal

pub returns : goal.returns
returns c = rw (back c.before.ranges.units) (written_is 48 c.before.args.units (lit≤ tt) c.before.requires two_48)
