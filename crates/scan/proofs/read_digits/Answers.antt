-- `scan::read_digits` meets its contract: from each place on, the field ends and is worth what it is from `from` on.
use Rattle.std.proofs.Common.{◌≡◌, ◌+◌, ◌-◌, ◌<◌, ◌≤◌, length, get_or, take, drop, sym, refl, ◌∙◌, add-one, arith, get_or-drop, get_or-take}
use Rattle.scan.specs.Find.{find_byte}
use Rattle.scan.proofs.Find.{ended, found_later, passed}
use Rattle.scan.proofs.Scan.{value_digit, digit_more, digits_most}
use Rattle.scan.proofs.read_digits.Goals as goal

-- the digits up to here are few
pub overflow_mul-value : goal.overflow_mul-value
overflow_mul-value c = omega (arith, digits_most c.loop-i.i c.loop-i.value c.loop-i.invariant.0 (omega arith))

pub overflow_add-value : goal.overflow_add-value
overflow_add-value c = omega (arith, digits_most c.loop-i.i c.loop-i.value c.loop-i.invariant.0 (omega arith))

-- a byte that is a digit
pub loop-i-preserved : goal.loop-i-preserved
loop-i-preserved c =
    let from = c.args.from in
    let s = c.args.s.now in
    let i = c.loop-i.i in
    let few : i < c.args.to - from = omega arith in
    let same : get_or (take (c.args.to - from) (drop from s)) i 0 ≡ get_or s (from + i) 0
    = get_or-take (c.args.to - from) (drop from s) i 0 few ∙ get_or-drop from s i 0 in
    let digit = get_or (take (c.args.to - from) (drop from s)) i 0 - 48 in
    let byte : get_or s (from + i) 0 ≡ digit + 48 = omega (arith, same, c.if-not-is_ascii_digit.ensures.cases) in
    let small : digit ≤ 9 = omega (arith, c.if-not-is_ascii_digit.ensures.cases) in
    let plain : get_or s (from + i) 0 ≡ 9 → ⊥ = λ e. omega (arith, byte) in
    let next : from + (i + 1) ≡ from + i + 1 = omega arith in
    let inside : from + i < length s = omega arith in
    let field = ended {m = 9} {s = s} {from = from} (omega arith) refl in
    let before : from + i < find_byte 9 s from = omega (arith, passed 9 s (from + i) inside plain, c.loop-i.invariant.1) in (
      rw add-one (digit_more i c.loop-i.value digit c.loop-i.invariant.0 small),
      rw next (sym (found_later 9 s (from + i) inside plain) ∙ c.loop-i.invariant.1),
      rw next (sym (value_digit s (from + i) (find_byte 9 s from) c.loop-i.value before field.high digit small byte) ∙ c.loop-i.invariant.2),
    )
