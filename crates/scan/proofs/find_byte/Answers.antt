-- `scan::find_byte` meets its contract: the library's search in the rest of the slice.
use Rattle.std.proofs.Common.{rules, ◌-◌, drop, take, length, sym, arith}
use Rattle.memchr.specs.Find.{IsFirstByte, is_byte}
use Rattle.scan.proofs.Find.{ended, found_none, place_found, place_none}
use Rattle.scan.proofs.find_byte.Goals as goal
use Rattle.scan.proofs.find_byte.Goals.{After-memchr}

pub returns-then-s-from : goal.returns-then-s-from
returns-then-s-from c = sym (found_none c.args.byte c.args.s.now c.args.from (omega (arith, c.if-s-from.true)))

-- in the rest of the slice
searched : (c : After-memchr) → IsFirstByte (is_byte c.args.byte) (take (length c.args.s.now - c.args.from) (drop c.args.from c.args.s.now)) c.memchr.result
searched c = search rules

pub overflow_add-result : goal.overflow_add-result
overflow_add-result c =
    let first = rw c.in-Some.is at (searched (goal.at.overflow_add-result c).After-memchr) in
    let found = place_found c.args.byte c.args.s.now c.args.from c.if-s-from.false first in
    omega (arith, (ended {m = c.args.byte} {s = c.args.s.now} {from = c.args.from} c.if-s-from.false found).high)

pub returns-in-Some : goal.returns-in-Some
returns-in-Some c =
    let first = rw c.in-Some.is at (searched (goal.at.returns-in-Some c).After-memchr) in
    place_found c.args.byte c.args.s.now c.args.from c.if-s-from.false first

pub returns-in-None : goal.returns-in-None
returns-in-None c =
    let first = rw c.in-None.is at (searched (goal.at.returns-in-None c).After-memchr) in
    place_none c.args.byte c.args.s.now c.args.from c.if-s-from.false first
