-- `merge::decide` meets its contract: what is left to merge is refused as the whole is.
use mathlib.Core.Path.{◌≡◌}
use Prim.Native.Nat.{◌+◌}
use lib.ListN.{length}
use Rattle.merge.specs.Merge.{merge}
use Rattle.merge.proofs.Turn.{Left, rest}
use Rattle.merge.proofs.decide.Given as goal

abbrev pub invariant-lines : goal.invariant-lines
invariant-lines l = (k : Left l.p l.q l.f l.g) × ((rest k).refusal ≡ (merge l.a l.b).refusal)

abbrev pub decreases-lines : goal.decreases-lines
decreases-lines l = length l.p + length l.q
