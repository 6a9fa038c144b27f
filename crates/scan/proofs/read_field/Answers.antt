-- `scan::read_field` meets its contract: an optional minus, and a size by the digits.
use Rattle.std.proofs.Common.{◌≡◌, ◌+◌, ◌<◌, length, sym, ap, ◌∙◌, arith, Some}
use Rattle.word.proofs.Fits.{back, zero_sub, sfits_neg}
use Rattle.scan.specs.Decimal.{plus, minus, read_number, read_natural}
use Rattle.scan.proofs.Read.{natural_small, number_is}
use Rattle.scan.proofs.Tab.{none_at, some_at, at_none, at_some, field_none, minus_tab, field_minus, minus_value, field_plus, plus_ok, plus_err}
use Rattle.scan.proofs.read_field.Goals as goal

pub returns-then-from-s : goal.returns-then-from-s
returns-then-from-s c = none_at read_number c.args.s.now c.args.from (field_none c.args.s.now c.args.from (omega (arith, c.if-from-s.true)))

-- ---- the field behind a minus
pub returns-in_err-m : goal.returns-in_err-m
returns-in_err-m c =
    let s = c.args.s.now in
    let from = c.args.from in
    let e = at_none read_natural s (from + 1) c.in_err-m.ensures in
    c.from_residual.ensures ∙ none_at read_number s from (field_minus s from (omega arith) c.if-s-from-eq45.true ∙ ap minus e)

pub returns-then-m-eq0 : goal.returns-then-m-eq0
returns-then-m-eq0 c =
    let s = c.args.s.now in
    let from = c.args.from in
    let e = at_some read_natural s (from + 1) c.in_ok-m.ensures in
    let zero : c.in_ok-m.field-0.value ≡ 0 = omega arith in
    none_at read_number s from (field_minus s from (omega arith) c.if-s-from-eq45.true ∙ (ap minus e.0 ∙ rw zero))

-- a size is at most 2^63, so with a minus it fits
pub returns-in_err-value : goal.returns-in_err-value
returns-in_err-value c =
    let e = at_some read_natural c.args.s.now (c.args.from + 1) c.in_ok-m.ensures in
    absurd (c.in_err-value.ensures (rw zero_sub (sfits_neg c.in_ok-m.field-0.value (natural_small _ c.in_ok-m.field-0.value e.0))))

pub returns-then-s-from-eq45 : goal.returns-then-s-from-eq45
returns-then-s-from-eq45 c =
    let s = c.args.s.now in
    let from = c.args.from in
    let v = c.in_ok-m.field-0.value in
    let minused = c.in_ok-value.ensures in
    let e = at_some read_natural s (from + 1) c.in_ok-m.ensures in
    let h : from < length s = omega arith in
    let number = field_minus s from h c.if-s-from-eq45.true ∙ (ap minus e.0 ∙ (minus_value v (λ z. omega arith) ∙ ap Some (sym minused.1))) in
    rw (back (number_is _ c.in_ok-value.value number).fits)
    (some_at read_number s from number (e.1 ∙ sym (minus_tab s from h c.if-s-from-eq45.true)))

-- ---- without one
pub returns-in_err-m-2 : goal.returns-in_err-m-2
returns-in_err-m-2 c =
    let s = c.args.s.now in
    let from = c.args.from in
    let e = at_none read_natural s from c.in_err-m-2.ensures in
    c.from_residual-in_err-m-2.ensures ∙ none_at read_number s from (field_plus s from (omega arith) c.if-s-from-eq45.false ∙ ap plus e)

pub returns-in_err-value-2 : goal.returns-in_err-value-2
returns-in_err-value-2 c =
    let s = c.args.s.now in
    let from = c.args.from in
    let e = at_some read_natural s from c.in_ok-m-2.ensures in
    let over = plus_err _ c.in_ok-m-2.field-0.value c.try_from.ensures c.in_err-value-2.ensures.value in
    c.from_residual-in_err-value-2.ensures
    ∙ none_at read_number s from (field_plus s from (omega arith) c.if-s-from-eq45.false ∙ (ap plus e.0 ∙ over))

pub returns : goal.returns
returns c =
    let s = c.args.s.now in
    let from = c.args.from in
    let e = at_some read_natural s from c.in_ok-m-2.ensures in
    let plused = plus_ok _ c.in_ok-m-2.field-0.value c.try_from.ensures c.in_ok-value-2.ensures.value in
    let number = field_plus s from (omega arith) c.if-s-from-eq45.false ∙ (ap plus e.0 ∙ plused) in
    rw (back (number_is _ c.in_ok-value-2.value number).fits) (some_at read_number s from number e.1)
