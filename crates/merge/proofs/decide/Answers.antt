-- `merge::decide` meets its contract: what is left to merge is refused as the whole is.
use mathlib.Core.Path.{refl, sym, ap, ◌∙◌}
use native.Mathlib.Omega.{arith}
use borrow.Author.Rules.{rules}
use Rattle.merge.specs.Merge.{Merge, merge}
use Rattle.merge.proofs.Turn.{merge_rest, whole, read_behind_first, read_behind_second, done, refused, first_refusal, second_refusal, first_behind_less, second_behind_less}
use Rattle.merge.proofs.decide.Goals as goal

pub lines-init : goal.lines-init
unfolding merge merge_rest
lines-init c = (whole c.read_front-f.ensures c.read_front-g.ensures, refl)

pub returns-in-Done : goal.returns-in-Done
returns-in-Done c =
    let i = c.lines.invariant in
    sym (ap (λ (m : Merge). m.refusal) (done i.0 c.choose-c.ensures c.in-Done.is)) ∙ i.1

pub returns-in-Refused : goal.returns-in-Refused
returns-in-Refused c =
    let i = c.lines.invariant in
    sym (ap (λ (m : Merge). m.refusal) (refused i.0 c.choose-c.ensures c.in-Refused.is)) ∙ i.1

pub lines-smaller : goal.lines-smaller
lines-smaller c = omega (arith, first_behind_less c.lines.invariant.0 c.choose-c.ensures c.in-First.is c.step-p.ensures)

pub lines-preserved : goal.lines-preserved
lines-preserved c =
    let i = c.lines.invariant in (
      read_behind_first i.0 c.in-First.n c.step-p.result.now (search rules) c.read_front-f-in-First.ensures,
      sym (first_refusal i.0 c.choose-c.ensures c.in-First.is c.step-p.ensures) ∙ i.1,
    )

pub lines-smaller-in-Second-1 : goal.lines-smaller-in-Second-1
lines-smaller-in-Second-1 c = omega (arith, second_behind_less c.lines.invariant.0 c.choose-c.ensures c.in-Second.is c.step-q.ensures)

pub lines-preserved-in-Second-1 : goal.lines-preserved-in-Second-1
lines-preserved-in-Second-1 c =
    let i = c.lines.invariant in (
      read_behind_second i.0 c.in-Second.n c.step-q.result.now (search rules) c.read_front-g-in-Second.ensures,
      sym (second_refusal i.0 c.choose-c.ensures c.in-Second.is c.step-q.ensures) ∙ i.1,
    )
