-- `stream::feed` meets its contract: a line a turn, and the last one is left begun.
use mathlib.Core.Path.{◌≡◌}
use Prim.Native.Nat.{◌-◌}
use lib.ListN.{length}
use Rattle.scan.specs.Find.{find_byte}
use Rattle.stream.specs.Sheet.{machine, place_of}
use Rattle.stream.proofs.Progress.{Reached}
use Rattle.stream.proofs.feed.Given as goal

abbrev pub invariant-loop-end : goal.invariant-loop-end
invariant-loop-end l =
    (l.end ≡ find_byte 10 l.piece l.i) × Reached machine (place_of l.initial.here) l.piece l.initial.out l.out (place_of l.here) l.i l.written

abbrev pub decreases-loop-end : goal.decreases-loop-end
decreases-loop-end l = length l.piece - l.i
