-- `scan::read_numbers` meets its contract: a field a turn, and what is read stands in front of what is still to read.
use Rattle.std.proofs.Common.{◌≡◌}
use Rattle.scan.specs.Fields.{fields_at}
use Rattle.scan.proofs.Numbers.{outcome}
use Rattle.scan.proofs.read_numbers.Given as goal

abbrev pub invariant-loop-slot : goal.invariant-loop-slot
invariant-loop-slot l = outcome l.into l.slot-index (fields_at l.s l.next) ≡ outcome l.initial.into 0 (fields_at l.s l.at)
