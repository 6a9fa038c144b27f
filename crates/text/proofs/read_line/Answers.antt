-- `text::read_line` meets its contract: the serial, and what its kind asks for.
use Rattle.std.specs.Prelude.{Option, Some}
use mathlib.Core.Path.{◌≡◌, ap, sym, ◌∙◌}
use mathlib.Core.Bool.{cond, true, false}
use mathlib.Core.List.{List}
use Prim.Native.Nat.{ℕ, ◌+◌}
use native.Mathlib.Omega.{arith}
use lib.IntN.{ℤ, pos}
use Rattle.word.specs.Compare.{between}
use Rattle.word.proofs.Fits.{back}
use Rattle.scan.specs.Fields.{fields_at}
use Rattle.scan.specs.Decimal.{read_number}
use Rattle.scan.specs.Find.{find_byte}
use lib.Seq.{slice}
use Rattle.scan.proofs.Find.{ended}
use Rattle.scan.proofs.Read.{number_is}
use Rattle.text.specs.declared.Line.TheVariants.{Malformed}
use Rattle.text.specs.Line.{read_line, serial_line, kind_line}
use Rattle.text.proofs.Parse.{serial_field}
use Rattle.text.proofs.read_line.Goals as goal

-- what is left to read behind the first field
front : (line : List ℕ) {e : ℕ} {n : Option ℤ} → e ≡ find_byte 9 line 0 → n ≡ read_number (slice 0 e line) →
    read_line line ≡ serial_line n (fields_at line (e + 1))
front line {e} h r = serial_field (ended (omega arith) h) ∙ ap (λ k. serial_line k (fields_at line (e + 1))) (sym r)

-- once its number is known
ranged : (line : List ℕ) {e : ℕ} {n : Option ℤ} {serial : ℤ} → e ≡ find_byte 9 line 0 → n ≡ read_number (slice 0 e line) → n ≡ Some serial →
    read_line line ≡ cond (between (pos 1) (pos 9999999) serial) (kind_line serial (fields_at line (e + 1))) Malformed
ranged line {e} h r i = front line h r ∙ ap (λ k. serial_line k (fields_at line (e + 1))) i

pub returns-in_default : goal.returns-in_default
returns-in_default c = rw (front c.args.s.now c.find_byte-e.ensures c.read_number.ensures, c.in_default.is)

pub returns-then-not-is_between : goal.returns-then-not-is_between
returns-then-not-is_between c =
    let fits = back (number_is _ c.in-Some.serial (sym c.read_number.ensures ∙ c.in-Some.is)).fits in
    let outside : between (pos 1) (pos 9999999) c.in-Some.serial ≡ false = ap (between (pos 1) (pos 9999999)) (sym fits) ∙ (sym c.is_between.ensures ∙ c.if-not-is_between.true) in
    rw (ranged c.args.s.now c.find_byte-e.ensures c.read_number.ensures c.in-Some.is, outside)

pub overflow_add-e : goal.overflow_add-e
overflow_add-e c = omega (arith, (ended {from = 0} (omega arith) c.find_byte-e.ensures).high)

pub returns : goal.returns
returns c =
    let fits = back (number_is _ c.in-Some.serial (sym c.read_number.ensures ∙ c.in-Some.is)).fits in
    let inside : between (pos 1) (pos 9999999) c.in-Some.serial ≡ true = ap (between (pos 1) (pos 9999999)) (sym fits) ∙ (sym c.is_between.ensures ∙ c.if-not-is_between.false) in
    rw (ranged c.args.s.now c.find_byte-e.ensures c.read_number.ensures c.in-Some.is, inside) (rw fits at c.kind_line.ensures)
