-- `scan::read_natural` meets its contract: 0 alone, or digits up to a tab or the end.
use Rattle.std.proofs.Common.{◌≡◌, ◌+◌, ◌^◌, false, sym, ap, ◌∙◌, arith, le-leb, None}
use Prim.Native.Nat.{ℕ}
use borrow.Author.Tests.{lt-leb}
use Rattle.algebra.proofs.Test.{either}
use Rattle.scan.specs.Decimal.{read_natural}
use Rattle.scan.specs.Code.{ends_at}
use Rattle.scan.proofs.Find.{found_none}
use Rattle.scan.proofs.Tab.{part, none_at, some_at, ends_here, size_none, size_zero, size_lead, worth_ended, worth_broken}
use Rattle.scan.proofs.read_natural.Goals as goal
use Rattle.scan.proofs.read_natural.Goals.{else-from-digits-via-then-from-digits+then-ends-2+else-digits, else-from-digits-via-then-from-digits+else-ends-2, else-from-digits-via-else-from-digits}

pub returns-then-from-s : goal.returns-then-from-s
returns-then-from-s c =
    let s = c.args.s.now in
    let from = c.args.from in
    none_at read_natural s from (size_none s from (found_none 9 s from (omega (arith, c.if-from-s.true))))

pub returns-then-ends : goal.returns-then-ends
returns-then-ends c =
    let z = size_zero c.args.s.now c.args.from (omega arith) (omega arith) (sym c.ends.ensures ∙ c.if-ends.true) in
    some_at read_natural c.args.s.now c.args.from z.0 z.1

pub returns-else-ends : goal.returns-else-ends
returns-else-ends c =
    let s = c.args.s.now in
    let from = c.args.from in
    none_at read_natural s from (size_lead s from (omega arith) (omega arith) (sym c.ends.ensures ∙ c.if-ends.false))

-- ---- the digits, which do not begin with 0
pub returns-then-digits : goal.returns-then-digits
returns-then-digits c =
    let over = sym c.ends-then-from-digits.ensures ∙ c.if-ends-2.true in
    let size = worth_ended {from = c.args.from} (omega arith) (λ e. omega arith) c.read_digits-digits.ensures over (λ e. omega arith) in
    let v = c.read_digits-digits.result.value in
    some_at read_natural c.args.s.now c.args.from (size.1 ∙ rw (le-leb v (2 ^ 63) (omega arith))) (sym size.0)

pub returns-else-from-digits : goal.returns-else-from-digits
returns-else-from-digits c =
    let s = c.args.s.now in
    let from = c.args.from in
    let d = c.read_digits-digits in
    let to = ap (λ (k : ℕ). from + k) c.min.ensures in
    let broken : ends_at s d.result.end ≡ false → read_natural (part s from) ≡ None
    = λ t. worth_broken (omega arith) (λ e. omega arith) d.ensures to t in
    none_at read_natural s from (elim c.else-from-digits.branch [
      | else-from-digits-via-then-from-digits+then-ends-2+else-digits w ↦
          let over = sym w.ends-then-from-digits.ensures ∙ w.if-ends-2.true in
          let size = worth_ended {from = from} (omega arith) (λ e. omega arith) d.ensures over (λ e. omega arith) in
          size.1 ∙ rw (lt-leb d.result.value (2 ^ 63) (omega arith))
      | else-from-digits-via-then-from-digits+else-ends-2 w ↦ broken (sym w.ends-then-from-digits.ensures ∙ w.if-ends-2.false)
      | else-from-digits-via-else-from-digits w ↦
          either (ends_at s d.result.end)
          (λ t. size_none s from (omega (arith, d.ensures.tab, ends_here s d.result.end t, d.ensures.low))) broken
    ])
