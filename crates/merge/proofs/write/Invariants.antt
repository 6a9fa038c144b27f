-- `merge::write` meets its contract: what is still to come, behind what is written, makes the whole.
use Prim.Native.Nat.{◌+◌}
use lib.ListN.{length}
use Rattle.merge.specs.Merge.{merge}
use Rattle.merge.specs.Call.{text}
use Rattle.merge.proofs.Turn.{Left, rest}
use Rattle.merge.proofs.Written.{Writing}
use Rattle.merge.proofs.write.Given as goal

abbrev pub invariant-lines : goal.invariant-lines
invariant-lines l =
    (k : Left l.p l.q l.f l.g) × Writing (text (merge l.a l.b).copied) l.fn.out l.out (rest k) l.w

abbrev pub decreases-lines : goal.decreases-lines
decreases-lines l = length l.p + length l.q
