-- `merge_stop::stopped_at` meets its contract: what is left to merge stops as the whole does, and no more lines are counted than there are bytes.
use mathlib.Core.Path.{refl, sym, ◌∙◌}
use native.Mathlib.Omega.{arith}
use borrow.Author.Rules.{rules}
use mir.Syntax.{w64}
use mir.Val.{SFits}
use Rattle.word.proofs.Fits.{back}
use Rattle.merge_stop.specs.Stop.{stop}
use Rattle.merge.proofs.Turn.{whole, read_behind_first, read_behind_second, first_behind_less, second_behind_less}
use Rattle.merge_stop.proofs.Named.{stop_rest, by, first, second, both}
use Rattle.merge_stop.proofs.stopped_at.Goals as goal

pub lines-init : goal.lines-init
unfolding stop stop_rest
lines-init c = (whole c.read_front-f.ensures c.read_front-g.ensures, (refl, (omega arith, omega arith)))

pub returns-in-Done : goal.returns-in-Done
returns-in-Done c =
    let l = c.lines.invariant in
    let told = both _ _ (sym (by _ _ l.0 c.choose-c.ensures c.in-Done.is) ∙ l.1.0) in
    record { stop = told.0; same = told.1 }

pub returns-in-Refused : goal.returns-in-Refused
returns-in-Refused c =
    let l = c.lines.invariant in
    let fits : SFits w64 c.from.result = search rules in
    let told = both _ _ (rw (back fits, c.from.ensures, c.name_line.ensures, c.name_line-in-Refused.ensures)
    (sym (by _ _ l.0 c.choose-c.ensures c.in-Refused.is) ∙ l.1.0)) in
    record { stop = told.0; same = told.1 }

pub lines-smaller : goal.lines-smaller
lines-smaller c = omega (arith, first_behind_less c.lines.invariant.0 c.choose-c.ensures c.in-First.is c.step-p.ensures)

pub lines-preserved : goal.lines-preserved
lines-preserved c =
    let l = c.lines.invariant in
    let d = first_behind_less l.0 c.choose-c.ensures c.in-First.is c.step-p.ensures in (
      read_behind_first l.0 c.in-First.n c.step-p.result.now (search rules) c.read_front-f-in-First.ensures,
      (first _ _ l.0 c.choose-c.ensures c.in-First.is c.step-p.ensures ∙ l.1.0, (omega arith, omega arith)),
    )

pub lines-smaller-in-Second-1 : goal.lines-smaller-in-Second-1
lines-smaller-in-Second-1 c = omega (arith, second_behind_less c.lines.invariant.0 c.choose-c.ensures c.in-Second.is c.step-q.ensures)

pub lines-preserved-in-Second-1 : goal.lines-preserved-in-Second-1
lines-preserved-in-Second-1 c =
    let l = c.lines.invariant in
    let d = second_behind_less l.0 c.choose-c.ensures c.in-Second.is c.step-q.ensures in (
      read_behind_second l.0 c.in-Second.n c.step-q.result.now (search rules) c.read_front-g-in-Second.ensures,
      (second _ _ l.0 c.choose-c.ensures c.in-Second.is c.step-q.ensures ∙ l.1.0, (omega arith, omega arith)),
    )
