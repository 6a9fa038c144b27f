-- `text::kind_line` meets its contract: the kind, and the numbers that it asks for.
use mathlib.Core.Path.{◌≡◌, sym, ◌∙◌}
use mathlib.Core.List.{List}
use Prim.Native.Nat.{ℕ, ◌+◌, ◌≤◌}
use native.Mathlib.Omega.{arith}
use lib.IntN.{ℤ, pos}
use lib.ListN.{length, get_or}
use lib.Seq.{slice}
use mir.Syntax.{w64}
use mir.Val.{SFits}
use Rattle.word.proofs.Fits.{back}
use Rattle.scan.specs.Fields.{fields_at}
use Rattle.scan.specs.Find.{find_byte}
use Rattle.scan.proofs.Find.{ended}
use Rattle.scan.proofs.Numbers.{numbers_fit}
use Rattle.text.specs.Line.{kind_line}
use Rattle.text.proofs.Parse.{kind_missing, kind_field, by_kind}
use Rattle.text.proofs.kind_line.Goals as goal

-- once the kind's field is found
found : (serial : ℤ) (line : List ℕ) {at f : ℕ} → at ≤ length line → f ≡ find_byte 9 line at →
    kind_line serial (fields_at line at) ≡ by_kind serial (slice at f line) (fields_at line (f + 1))
found serial line h e = kind_field serial h (ended h e)

pub returns-then-s-at : goal.returns-then-s-at
returns-then-s-at c = rw (kind_missing c.args.serial c.args.s.now c.args.at c.if-s-at.true)

pub overflow_add-f : goal.overflow_add-f
overflow_add-f c = omega (arith, (ended c.if-s-at.false c.find_byte-f.ensures).high)

pub returns-in_default : goal.returns-in_default
returns-in_default c =
    rw (found c.args.serial c.args.s.now c.if-s-at.false c.find_byte-f.ensures, sym c.same_bytes.ensures ∙ c.if-same_bytes.true, sym c.fields.ensures ∙ c.in_default.is)

pub returns-then-same_bytes : goal.returns-then-same_bytes
returns-then-same_bytes c =
    let there = sym c.fields.ensures ∙ c.in-Some.is in
    let fit : (i : ℕ) → SFits w64 (get_or c.in-Some.v i (pos 0)) = λ i. numbers_fit 5 _ c.in-Some.v there i in
    rw (
      found c.args.serial c.args.s.now c.if-s-at.false c.find_byte-f.ensures,
      sym c.same_bytes.ensures ∙ c.if-same_bytes.true,
      there,
      back c.ranges.serial,
      back (fit 0),
      back (fit 1),
      back (fit 2),
      back (fit 3),
      back (fit 4),
    )

pub overflow_add-f-then-same_bytes-2 : goal.overflow_add-f-then-same_bytes-2
overflow_add-f-then-same_bytes-2 c = omega (arith, (ended c.if-s-at.false c.find_byte-f.ensures).high)

pub returns-in_default-fields : goal.returns-in_default-fields
returns-in_default-fields c =
    rw (
      found c.args.serial c.args.s.now c.if-s-at.false c.find_byte-f.ensures,
      sym c.same_bytes.ensures ∙ c.if-same_bytes.false,
      sym c.same_bytes-2.ensures ∙ c.if-same_bytes-2.true,
      sym c.fields-then-same_bytes-2.ensures ∙ c.in_default-fields.is,
    )

pub returns-then-same_bytes-2 : goal.returns-then-same_bytes-2
returns-then-same_bytes-2 c =
    let there = sym c.fields-then-same_bytes-2.ensures ∙ c.in-Some-fields.is in
    let fit : (i : ℕ) → SFits w64 (get_or c.in-Some-fields.v i (pos 0)) = λ i. numbers_fit 3 _ c.in-Some-fields.v there i in
    rw (
      found c.args.serial c.args.s.now c.if-s-at.false c.find_byte-f.ensures,
      sym c.same_bytes.ensures ∙ c.if-same_bytes.false,
      sym c.same_bytes-2.ensures ∙ c.if-same_bytes-2.true,
      there,
      back c.ranges.serial,
      back (fit 0),
      back (fit 1),
      back (fit 2),
    )

pub returns : goal.returns
returns c =
    rw (found c.args.serial c.args.s.now c.if-s-at.false c.find_byte-f.ensures, sym c.same_bytes.ensures ∙ c.if-same_bytes.false, sym c.same_bytes-2.ensures ∙ c.if-same_bytes-2.false)
