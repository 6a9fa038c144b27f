-- `scan::read_digits` meets its contract: from each place on, the field ends and is worth what it is from `from` on.
use Rattle.std.proofs.Common.{◌≡◌, ◌+◌, ◌^◌, ◌<◌}
use lib.Seq.{slice}
use Rattle.scan.specs.Decimal.{value}
use Rattle.scan.specs.Find.{find_byte}
use Rattle.scan.proofs.read_digits.Given as goal

abbrev pub invariant-loop-i : goal.invariant-loop-i
invariant-loop-i l =
    let i = l.from + l.i in
    (l.value < 10 ^ l.i) × (find_byte 9 l.s i ≡ find_byte 9 l.s l.from) ×
    (value l.value (slice i (find_byte 9 l.s l.from) l.s) ≡ value 0 (slice l.from (find_byte 9 l.s l.from) l.s))
