-- `merge_stop::stopped_at` meets its contract: what is left to merge stops as the whole does, and no more lines are counted than there are bytes.
use mathlib.Core.Path.{◌≡◌}
use Prim.Native.Nat.{◌+◌, ◌≤◌}
use lib.ListN.{length}
use Rattle.merge_stop.specs.Stop.{stop}
use Rattle.merge.proofs.Turn.{Left}
use Rattle.merge_stop.proofs.Named.{stop_rest}
use Rattle.merge_stop.proofs.stopped_at.Given as goal

abbrev pub invariant-lines : goal.invariant-lines
invariant-lines l =
    (k : Left l.p l.q l.f l.g) × ((stop_rest l.h l.i k.j k.k l.p l.q ≡ stop l.a l.b) × ((l.h + length l.p ≤ length l.a + 1) × (l.i + length l.q ≤ length l.b + 1)))

abbrev pub decreases-lines : goal.decreases-lines
decreases-lines l = length l.p + length l.q
