-- `point::rounded` meets its contract.
use Rattle.word.proofs.Fits.{back}
use Rattle.point.proofs.Fits.{quotient_fits, quotient_is}
use Rattle.point.proofs.rounded.Goals as goal

pub returns : goal.returns
returns c = quotient_is (quotient_fits c.args.n c.requires.size c.requires.n_bound)

pub overflow_add-result : goal.overflow_add-result
overflow_add-result c = let f = quotient_fits c.args.n c.requires.size c.requires.n_bound in simp (back, f.half, f.given) f.raised
