-- `exponential::larger_part` meets its contract.
use Rattle.std.proofs.Common.{arith}
use Rattle.std.proofs.lemmas.Int.{ints}
use Rattle.algebra.specs.Size.{abs, larger}
use Rattle.word.proofs.Fits.{back, sfits_size}
use Rattle.exponential.proofs.larger_part.Goals as goal

pub returns : goal.returns
unfolding abs larger
returns c =
    let x = back (sfits_size c.requires.re tt) in
    let y = back (sfits_size c.requires.im tt) in
    grind (arith, ints, x, y)
