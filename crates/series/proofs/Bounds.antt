-- The numbers of the tails that the engines use.
use mathlib.Core.Path.{refl}
use Prim.Native.Nat.{◌^◌}
use lib.Dec.{lit<, lit≤}
use Rattle.series.proofs.Series.{fact}
use Rattle.series.proofs.Tail.{TailBound}

-- R = 9/4 and 2 at 24 terms; R = 16 at 80 (request E5)
pub bound_9/4 : TailBound 24 9 4 (2 ^ 50)
unfolding fact
bound_9/4 = record { a = 91; a_is = refl; a>0 = lit< tt; q>0 = lit< tt; bound = lit≤ tt }

pub bound_2 : TailBound 24 2 1 (2 ^ 54)
unfolding fact
bound_2 = record { a = 23; a_is = refl; a>0 = lit< tt; q>0 = lit< tt; bound = lit≤ tt }

pub bound_16 : TailBound 80 16 1 (2 ^ 74)
unfolding fact
bound_16 = record { a = 65; a_is = refl; a>0 = lit< tt; q>0 = lit< tt; bound = lit≤ tt }
