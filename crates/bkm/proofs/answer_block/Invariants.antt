-- Each feed goes on from what the one before left: the rest leads from the place to where the whole block leads.
use Rattle.std.proofs.Common.{length, ◌≡◌}
use Rattle.stream.specs.Machine.{cut, place_after}
use Rattle.stream.specs.Sheet.{machine, place_of}
use Rattle.bkm.proofs.answer_block.Given as goal

abbrev pub invariant-loop-rest : goal.invariant-loop-rest
invariant-loop-rest g l =
    cut (place_after machine (place_of l.here) l.rest) ≡ cut (place_after machine (place_of l.fn.place) l.block)

abbrev pub decreases-loop-rest : goal.decreases-loop-rest
decreases-loop-rest g l = length l.rest
