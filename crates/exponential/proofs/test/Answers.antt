-- `exponential::test` meets its contract.
use mathlib.Core.Path.{◌≡◌, sym, ◌∙◌}
use mathlib.Core.Bool.{true}
use Rattle.word.proofs.Fits.{back}
use Rattle.point.specs.Point.{gauss}
use Rattle.point.specs.Limits.{in_steps}
use Rattle.exponential.specs.Reduction.{in_reach}
use Rattle.exponential.proofs.Close.{refused_steps, refused_exponent, refused_part}
use Rattle.exponential.proofs.test.Goals as goal
use Rattle.exponential.proofs.test.Goals.{Else-not-is_between, Else-not-is_in_reach}

-- ---- what the tests that were passed say of the arguments
counted : (c : Else-not-is_between) → in_steps 48 1 c.before.before.args.n ≡ true
unfolding in_steps
counted c = simp (back, c.before.before.ranges.n) at (sym c.before.is_between.ensures ∙ c.if-not-is_between.false)

inside : (c : Else-not-is_in_reach) → in_reach 48 (gauss c.before.before.before.before.args.exponent) ≡ true
unfolding in_reach
inside c = sym c.before.is_in_reach.ensures ∙ c.if-not-is_in_reach.false

pub returns-then-not-is_between : goal.returns-then-not-is_between
unfolding in_steps
returns-then-not-is_between c =
    let s = c.before.before in
    let a = s.args in
    let t = simp (back, s.ranges.n) at (sym c.before.is_between.ensures ∙ c.if-not-is_between.true) in
    refused_steps 48 a.n (gauss a.exponent) (gauss a.start) t

pub returns-then-not-is_in_reach : goal.returns-then-not-is_in_reach
unfolding in_reach
returns-then-not-is_in_reach c =
    let b = c.before.before in
    let a = b.before.before.args in
    let t = sym c.before.is_in_reach.ensures ∙ c.if-not-is_in_reach.true in
    refused_exponent 48 a.n (gauss a.exponent) (gauss a.start) (counted b) t

pub returns-then-not-is_in_parts : goal.returns-then-not-is_in_parts
returns-then-not-is_in_parts c =
    let b = c.before.before in
    let a = b.before.before.before.before.args in
    let t = sym c.before.is_in_parts.ensures ∙ c.if-not-is_in_parts.true in
    refused_part 48 a.n (gauss a.exponent) (gauss a.start) (counted b.before.before) (inside b) t

pub returns : goal.returns
returns c = record {
  steps = counted c.before.before.before.before;
  reach = inside c.before.before;
  start = sym c.before.is_in_parts.ensures ∙ c.if-not-is_in_parts.false;
}
