-- `scan::read_numbers` meets its contract: a field a turn, and what is read stands in front of what is still to read.
use Rattle.std.proofs.Common.{sym, refl, ◌∙◌, arith}
use Rattle.std.proofs.lemmas.List.{set-get_or}
use Rattle.word.proofs.Fits.{back}
use Rattle.scan.specs.Decimal.{read_number}
use Rattle.scan.specs.Fields.{fields_at}
use Rattle.scan.proofs.Find.{ended}
use Rattle.scan.proofs.Tab.{at_none, at_some}
use Rattle.scan.proofs.Read.{number_is}
use Rattle.scan.proofs.Numbers.{comes, field_missing, not_number, number_stored, all_read}
use Rattle.scan.proofs.read_numbers.Goals as goal

pub returns-then-s-next : goal.returns-then-s-next
returns-then-s-next c =
    let e = field_missing c.args.s.now c.loop-slot.into c.loop-slot.slot-index c.loop-slot.next (omega arith) c.if-s-next.true in
    let p = comes c.args.into.now (fields_at c.args.s.now c.args.at) c.loop-slot.invariant e in
    record { value = p.0; into = rw set-get_or p.1 }

pub returns-in_default : goal.returns-in_default
returns-in_default c =
    let none = at_none read_number c.args.s.now c.loop-slot.next (sym c.in_default.is ∙ c.read_field.ensures) in
    let e = not_number c.args.s.now c.loop-slot.into c.loop-slot.slot-index c.loop-slot.next (omega arith) c.if-s-next.false _
    (ended c.if-s-next.false refl) none in
    let p = comes c.args.into.now (fields_at c.args.s.now c.args.at) c.loop-slot.invariant e in
    record { value = p.0; into = rw set-get_or p.1 }

-- the turn's number, and where its field ends
pub overflow_add-next : goal.overflow_add-next
overflow_add-next c =
    let number = at_some read_number c.args.s.now c.loop-slot.next (sym c.in-Some.is ∙ c.read_field.ensures) in
    let field = ended {m = 9} {s = c.args.s.now} {from = c.loop-slot.next} c.if-s-next.false number.1 in
    omega (arith, field.high)

pub loop-slot-preserved : goal.loop-slot-preserved
loop-slot-preserved c =
    let s = c.args.s.now in
    let next = c.loop-slot.next in
    let z = c.in-Some.number.value in
    let number = at_some read_number s next (sym c.in-Some.is ∙ c.read_field.ensures) in
    let field = ended {m = 9} {s = s} {from = next} c.if-s-next.false refl in
    let stored = number_stored s c.loop-slot.into c.loop-slot.slot-index next (omega arith) c.if-s-next.false _ field z number.0 in
    rw (back (number_is _ z number.0).fits, number.1) (sym stored ∙ c.loop-slot.invariant)

pub returns : goal.returns
returns c =
    let e = all_read c.args.s.now c.loop-slot.into c.loop-slot.slot-index c.loop-slot.next (omega arith) in
    let p = comes c.args.into.now (fields_at c.args.s.now c.args.at) c.loop-slot.invariant e in
    record { value = p.0; into = p.1 }
